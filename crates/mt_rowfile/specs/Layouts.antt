-- How the slots of a physical table are laid out: the chunk tables are 1 to 6, the tables of the
-- catalogue 8 to 13, and the conventional table of base table b is 16 + b.
use Rattle.std.specs.Prelude.{◌≡◌, ℕ, ◌+◌, ◌/◌, ◌≤◌, ◌==◌, if◌then◌else◌, List, [], ◌∷◌, length, sum_by}
use Rattle.mt_codec.specs.declared.field.FieldKind.{FieldKind}
use Rattle.mt_codec.specs.declared.field.FieldKind.TheVariants.{Int, Text}
use Rattle.mt_codec.specs.Fields.{width_of}
use Rattle.mt_rowfile.specs.declared.layout.Head.{Head}
use Rattle.mt_rowfile.specs.declared.layout.Head.TheVariants.{Catalogue, Conventional, Chunk}
use Rattle.mt_rowfile.specs.declared.layout.Layout.{Layout}

-- how many bytes of a slot of the catalogue stand behind its mark, by table
abbrev pub body_width : ℕ → ℕ
body_width table =
    if table == 8 then 40 else (if table == 9 then 44 else (if table == 10 then 8 else (if table == 11 then 34 else 16)))

-- The bytes in front of the fields: the mark, the tenant and the Row and, of a chunk, the base table
-- and the chunk between these. A slot of the catalogue has no fields.
abbrev pub head_width : Head → ℕ
head_width (Catalogue table) = 1 + body_width table
head_width Conventional = 13
head_width Chunk = 21

-- the bytes of the fields
abbrev pub fields_width : List FieldKind → ℕ
fields_width kinds = sum_by width_of kinds

-- the bytes of a slot
abbrev pub slot_width : Layout → ℕ
slot_width layout = head_width layout.head + fields_width layout.kinds

-- how many slots a page has behind its head of 8 bytes
abbrev pub slots_per_page : Layout → ℕ
slots_per_page layout = 4088 / slot_width layout

-- whether a head is of a table of the catalogue and, if so, of one that there is, with no fields
abbrev pub IsHeadOf : Head → List FieldKind → Type 0
IsHeadOf (Catalogue table) kinds = (8 ≤ table) × (table ≤ 13) × (kinds ≡ [])
IsHeadOf Conventional kinds = Unit {0}
IsHeadOf Chunk kinds = Unit {0}

-- a layout that a table can have
pub record IsLayout (layout : Layout) : Type 0 where
  pub few : length layout.kinds ≤ 4096
  pub head_fits : IsHeadOf layout.head layout.kinds

-- a layout of slots that hold a row or a part of one
abbrev pub IsOfRows : Head → Type 0
IsOfRows (Catalogue table) = ⊥
IsOfRows Conventional = Unit {0}
IsOfRows Chunk = Unit {0}

-- the fields of a chunk, by its table: integers first, and texts of 120 bytes
abbrev pub chunk_kinds : ℕ → List FieldKind
chunk_kinds table =
    if table == 1 then Int ∷ []
    else (if table == 2 then Text 120 ∷ []
    else (if table == 3 then Int ∷ Text 120 ∷ []
    else (if table == 4 then Int ∷ Int ∷ Int ∷ Int ∷ []
    else (if table == 5 then Int ∷ Int ∷ Text 120 ∷ Text 120 ∷ []
    else Int ∷ Int ∷ Int ∷ Int ∷ Text 120 ∷ Text 120 ∷ Text 120 ∷ Text 120 ∷ []))))

-- the layout of a chunk table
abbrev pub chunk_layout : ℕ → Layout
chunk_layout table = record { head = Chunk; kinds = chunk_kinds table }
