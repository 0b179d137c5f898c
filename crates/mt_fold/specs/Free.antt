-- The fields of one sort that no column has taken.
use Rattle.std.specs.Prelude.{◌≡◌, ℕ, ◌+◌, ◌≤◌, List, drop, length, map}
use Rattle.std.specs.List.{range_with_len}
use Rattle.mt_codec.specs.declared.field.FieldKind.{FieldKind}
use Rattle.mt_fold.specs.declared.extend.Fields.{Fields}
use Rattle.mt_fold.specs.declared.fold.Place.{Place}
use Rattle.mt_fold.specs.declared.fold.Place.TheVariants.{Field}
use Rattle.mt_fold.specs.declared.shape.Shape.{Shape}
use Rattle.mt_fold.specs.Extended.{places_from, places_in}

-- the fields that are left
abbrev pub free_fields : Fields → List Place
free_fields fields = drop fields.taken (places_from fields.kind fields.chunk fields.shapes.now)

-- the chunks are those of a fold that can be valid
abbrev pub HaveFewChunks : Fields → Type 0
HaveFewChunks fields = fields.chunk + length fields.shapes.now ≤ 16

-- the fields of one sort in a chunk of a shape are so many from this one on, and there are few
pub record LieIn (kind : FieldKind) (shape : Shape) (start count : ℕ) : Type 0 where
  pub few : start + count ≤ 8
  pub places : (chunk : ℕ) → places_in kind chunk shape ≡ map (λ i. Field chunk (start + i)) (range_with_len 0 count)
