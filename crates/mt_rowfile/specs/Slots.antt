-- The bytes of a slot: a mark, 0 where the slot is free, who and what the slot is of, and its fields.
-- The other bytes of a free slot are not read.
use Rattle.std.specs.Prelude.{◌≡◌, ◌⊎◌, ℕ, ◌<◌, ◌≤◌, ◌^◌, List, [], ◌∷◌, ◌++◌, length, take, drop, slice_index, All}
use Rattle.byteorder.specs.Endian.{little_number, little_bytes}
use Rattle.mt_rowfile.specs.declared.layout.Head.{Head}
use Rattle.mt_rowfile.specs.declared.layout.Head.TheVariants.{Catalogue, Conventional, Chunk}
use Rattle.mt_rowfile.specs.declared.layout.Layout.{Layout}
use Rattle.mt_rowfile.specs.declared.slot.SlotHead.{SlotHead}
use Rattle.mt_rowfile.specs.declared.slot.SlotRow.{SlotRow}
use Rattle.mt_rowfile.specs.Fields.{AreFitting, AreSpelled, fields_bytes, values_of}
use Rattle.mt_rowfile.specs.Layouts.{head_width, slot_width}

-- the marks of a slot in use: visible and, in a conventional table, in the trashcan too
abbrev pub IsMark : Head → ℕ → Type 0
IsMark (Catalogue table) mark = mark ≡ 1
IsMark Conventional mark = (mark ≡ 1) ⊎ (mark ≡ 2)
IsMark Chunk mark = mark ≡ 1

-- the base table that a slot names, which a conventional one does not
abbrev pub base_at : Head → List ℕ → ℕ
base_at Chunk bytes = little_number 4 (drop 5 bytes)
base_at head bytes = 0

-- the chunk that a slot names, which a conventional one does not
abbrev pub chunk_at : Head → List ℕ → ℕ
chunk_at Chunk bytes = little_number 4 (drop 9 bytes)
chunk_at head bytes = 0

-- the Row of a slot
abbrev pub row_at : Head → List ℕ → ℕ
row_at Chunk bytes = little_number 8 (drop 13 bytes)
row_at head bytes = little_number 8 (drop 5 bytes)

-- what the bytes of a slot in use say
abbrev pub slot_of : Layout → List ℕ → SlotRow
slot_of layout bytes = record {
  mark = slice_index bytes 0;
  tenant = little_number 4 (drop 1 bytes);
  base = base_at layout.head bytes;
  chunk = chunk_at layout.head bytes;
  row = row_at layout.head bytes;
  values = values_of layout.kinds (drop (head_width layout.head) bytes);
}

-- whose a slot is
abbrev pub head_of : SlotRow → SlotHead
head_of slot = record { tenant = slot.tenant; base = slot.base; chunk = slot.chunk; row = slot.row }

-- a name in the catalogue: its length, from 1 to 30, and so many bytes of ASCII
pub record IsNameField (bytes : List ℕ) : Type 0 where
  pub some : 1 ≤ slice_index bytes 0
  pub upto : slice_index bytes 0 ≤ 30
  pub ascii : All (λ byte. byte < 128) (take (slice_index bytes 0) (drop 1 bytes))

-- What can be read of a slot of the catalogue, behind its mark: the name of a table, an extension or
-- a column, and a column's flags for NOT NULL and the key. Its other values are looked at as a whole,
-- with all slots of the catalogue.
pub record IsBody (table : ℕ) (body : List ℕ) : Type 0 where
  pub table_name : table ≡ 8 → IsNameField (drop 9 body)
  pub column_name : table ≡ 9 → IsNameField (drop 13 body)
  pub not_null : table ≡ 9 → slice_index body 11 ≤ 1
  pub key : table ≡ 9 → slice_index body 12 ≤ 1

-- what stands behind the mark of a slot can be read
abbrev pub IsReadable : Layout → Head → List ℕ → Type 0
IsReadable layout (Catalogue table) bytes = IsBody table (drop 1 bytes)
IsReadable layout head bytes = AreSpelled layout.kinds (drop (head_width head) bytes)

-- a slot in use that can be read
pub record IsUsed (layout : Layout) (bytes : List ℕ) : Type 0 where
  pub mark : IsMark layout.head (slice_index bytes 0)
  pub readable : IsReadable layout layout.head bytes

-- a slot that is free, or can be read
pub record IsSlot (layout : Layout) (bytes : List ℕ) : Type 0 where
  pub size : length bytes ≡ slot_width layout
  pub free_or_used : (slice_index bytes 0 ≡ 0) ⊎ IsUsed layout bytes

-- what stands between the tenant and the Row
abbrev pub middle_bytes : Head → SlotRow → List ℕ
middle_bytes Chunk slot = little_bytes 4 slot.base ++ little_bytes 4 slot.chunk
middle_bytes head slot = []

-- what is written for a slot
abbrev pub slot_bytes : Layout → SlotRow → List ℕ
slot_bytes layout slot =
    slot.mark ∷ (((little_bytes 4 slot.tenant ++ middle_bytes layout.head slot) ++ little_bytes 8 slot.row) ++ fields_bytes layout.kinds slot.values)

-- a conventional slot names no base table and no chunk
abbrev pub NamesFor : Head → SlotRow → Type 0
NamesFor Chunk slot = Unit {0}
NamesFor head slot = (slot.base ≡ 0) × (slot.chunk ≡ 0)

-- the slot can be written with the layout
pub record FitsLayout (layout : Layout) (slot : SlotRow) : Type 0 where
  pub mark : IsMark layout.head slot.mark
  pub names : NamesFor layout.head slot
  pub values : AreFitting layout.kinds slot.values

-- the numbers of a slot that a program can have
pub record HasNumbers (slot : SlotRow) : Type 0 where
  pub mark : slot.mark < 2 ^ 8
  pub tenant : slot.tenant < 2 ^ 32
  pub base : slot.base < 2 ^ 32
  pub chunk : slot.chunk < 2 ^ 32
  pub row : slot.row < 2 ^ 64
