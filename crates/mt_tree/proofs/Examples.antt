-- Worked examples of the definitions on rows.
use Rattle.std.proofs.Common.{◌≡◌, List, [], ◌∷◌, Bool, true, false, refl, pos, codes}
use Rattle.mt_value.specs.declared.value.Value.{Value}
use Rattle.mt_value.specs.declared.value.Value.TheVariants.{Null, Int, Text}
use Rattle.mt_tree.specs.declared.schema.Kind.TheVariants.{Integer, Varchar}
use Rattle.mt_tree.specs.declared.schema.Column.{Column}
use Rattle.mt_tree.specs.Rows.{MarkedRow, has_long_text, has_null, has_duplicate_key}

-- aid INTEGER, name VARCHAR(3) NOT NULL, PRIMARY KEY (aid)
abbrev keyed : List Column
keyed = record { name = codes "aid"; kind = Integer; not_null = false; key = true } ∷ record { name = codes "name"; kind = Varchar 3; not_null = true; key = false } ∷ []

-- the same without a key
abbrev keyless : List Column
keyless = record { name = codes "aid"; kind = Integer; not_null = false; key = false } ∷ record { name = codes "name"; kind = Varchar 3; not_null = false; key = false } ∷ []

abbrev row : Bool → Value → Value → MarkedRow
row visible aid name = record { visible = visible; values = aid ∷ name ∷ [] }

-- a text as long as its column is short enough, and one of a byte more is not, also in the trashcan
long-no : has_long_text keyed (row true (Int (pos 1)) (Text (codes "abc")) ∷ []) ≡ false
long-no = refl

long-trashed : has_long_text keyed (row true (Int (pos 1)) (Text (codes "abc")) ∷ row false (Int (pos 2)) (Text (codes "abcd")) ∷ []) ≡ true
long-trashed = refl

-- NULL is refused in a column of the key and in one that is NOT NULL, also in the trashcan
null-key : has_null keyed (row true Null (Text (codes "a")) ∷ []) ≡ true
null-key = refl

null-trashed : has_null keyed (row false (Int (pos 1)) Null ∷ []) ≡ true
null-trashed = refl

null-elsewhere : has_null keyless (row true Null Null ∷ []) ≡ false
null-elsewhere = refl

-- two visible rows of one key, whatever else they hold; a row in the trashcan does not count
key-twice : has_duplicate_key keyed (row true (Int (pos 1)) (Text (codes "a")) ∷ row true (Int (pos 1)) (Text (codes "b")) ∷ []) ≡ true
key-twice = refl

key-trashed : has_duplicate_key keyed (row false (Int (pos 1)) (Text (codes "a")) ∷ row true (Int (pos 1)) (Text (codes "b")) ∷ []) ≡ false
key-trashed = refl

-- without a key all rows may be the same
key-none : has_duplicate_key keyless (row true (Int (pos 1)) (Text (codes "a")) ∷ row true (Int (pos 1)) (Text (codes "a")) ∷ []) ≡ false
key-none = refl
