-- The fields of a slot, one after another.
use Rattle.std.specs.Prelude.{ℕ, ◌==◌, if◌then◌else◌, List, [], ◌∷◌, ◌++◌, take, drop}
use Rattle.std.specs.Int.{w64, cast_signed}
use Rattle.byteorder.specs.Endian.{little_number}
use Rattle.mt_value.specs.declared.value.Value.{Value}
use Rattle.mt_value.specs.declared.value.Value.TheVariants as value
use Rattle.mt_codec.specs.declared.field.FieldKind.{FieldKind}
use Rattle.mt_codec.specs.declared.field.FieldKind.TheVariants.{Int, Text}
use Rattle.mt_codec.specs.Fields.{Fits, IsKind, IsSpelling, field_bytes, width_of}

-- the value behind a flag: an integer of 8 bytes, or a text behind its length
abbrev pub value_behind : FieldKind → List ℕ → Value
value_behind Int rest = value.Int (cast_signed w64 (little_number 8 rest))
value_behind (Text size) rest = value.Text (take (little_number 2 rest) (drop 2 rest))

-- the value that the bytes of a field spell; it says something only where they spell one
abbrev pub value_of : FieldKind → List ℕ → Value
value_of kind [] = value.Null
value_of kind (flag ∷ rest) = if flag == 0 then value.Null else value_behind kind rest

-- the values of the fields
abbrev pub values_of : List FieldKind → List ℕ → List Value
values_of [] bytes = []
values_of (kind ∷ kinds) bytes = value_of kind (take (width_of kind) bytes) ∷ values_of kinds (drop (width_of kind) bytes)

-- each field spells a value
abbrev pub AreSpelled : List FieldKind → List ℕ → Type 0
AreSpelled [] bytes = Unit {0}
AreSpelled (kind ∷ kinds) bytes = IsSpelling kind (take (width_of kind) bytes) × AreSpelled kinds (drop (width_of kind) bytes)

-- there is a value for each field, and it fits
abbrev pub AreFitting : List FieldKind → List Value → Type 0
AreFitting [] [] = Unit {0}
AreFitting [] (v ∷ values) = ⊥
AreFitting (kind ∷ kinds) [] = ⊥
AreFitting (kind ∷ kinds) (v ∷ values) = Fits kind v × AreFitting kinds values

-- what is written for the values
abbrev pub fields_bytes : List FieldKind → List Value → List ℕ
fields_bytes (kind ∷ kinds) (v ∷ values) = field_bytes kind v ++ fields_bytes kinds values
fields_bytes kinds values = []

-- kinds that a program can have: the size of a text is a byte
abbrev pub AreKinds : List FieldKind → Type 0
AreKinds [] = Unit {0}
AreKinds (kind ∷ kinds) = IsKind kind × AreKinds kinds
