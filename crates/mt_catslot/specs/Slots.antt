-- The slots of the catalogue by what they say: the table of each, and the key that it has.
use Rattle.std.specs.Prelude.{ℕ, ◌^◌, ◌<◌, ◌≤◌, List, length, All}
use Rattle.mt_tree.specs.declared.schema.Kind.{Kind}
use Rattle.mt_tree.specs.declared.schema.Kind.TheVariants.{Integer, Varchar}
use Rattle.mt_catslot.specs.declared.slot.Motion.{Motion}
use Rattle.mt_catslot.specs.declared.slot.Motion.TheVariants.{Settled, Moving}
use Rattle.mt_catslot.specs.declared.slot.CatSlot.{CatSlot}
use Rattle.mt_catslot.specs.declared.slot.CatSlot.TheVariants as slots
use Rattle.mt_catslot.specs.declared.slot.CatKey.{CatKey}
use Rattle.mt_catslot.specs.declared.slot.CatKey.TheVariants as keys

-- the table of the catalogue in which a slot stands
abbrev pub table_of : CatSlot → ℕ
table_of (slots.Relation class number base name) = 8
table_of (slots.Column class number position kind not_null key name) = 9
table_of (slots.Tenant tenant quota) = 10
table_of (slots.Placement tenant base made motion) = 11
table_of (slots.Extended tenant base position extension) = 12
table_of (slots.Field tenant base generation column shape chunk field) = 13

-- what a slot is found by: no catalogue has two slots with one key
abbrev pub key_of : CatSlot → CatKey
key_of (slots.Relation class number base name) = keys.Relation class number
key_of (slots.Column class number position kind not_null key name) = keys.Column class number position
key_of (slots.Tenant tenant quota) = keys.Tenant tenant
key_of (slots.Placement tenant base made motion) = keys.Placement tenant base
key_of (slots.Extended tenant base position extension) = keys.Extended tenant base position
key_of (slots.Field tenant base generation column shape chunk field) = keys.Field tenant base generation column

-- a name that a slot has room for
pub record IsSayableName (name : List ℕ) : Type 0 where
  pub some : 1 ≤ length name
  pub short : length name ≤ 30
  pub ascii : All (λ byte. byte < 128) name

-- a kind that a slot can say
abbrev pub IsSayableKind : Kind → Type 0
IsSayableKind Integer = Unit {0}
IsSayableKind (Varchar size) = (1 ≤ size) × (size ≤ 120)

-- a generation, and a frontier and an end, that a slot has room for
abbrev pub IsSayableMotion : Motion → Type 0
IsSayableMotion (Settled generation) = generation < 2 ^ 8
IsSayableMotion (Moving generation frontier upto) = (generation < 2 ^ 8) × (frontier < 2 ^ 64) × (upto < 2 ^ 64)

-- a slot whose numbers and name its bytes have room for
abbrev pub IsSayable : CatSlot → Type 0
IsSayable (slots.Relation class number base name) = (number < 2 ^ 32) × (base < 2 ^ 32) × IsSayableName name
IsSayable (slots.Column class number position kind not_null key name) = (number < 2 ^ 32) × (position < 2 ^ 32) × IsSayableKind kind × IsSayableName name
IsSayable (slots.Tenant tenant quota) = (tenant < 2 ^ 32) × (quota < 2 ^ 32)
IsSayable (slots.Placement tenant base made motion) = (tenant < 2 ^ 32) × (base < 2 ^ 32) × (made < 2 ^ 64) × IsSayableMotion motion
IsSayable (slots.Extended tenant base position extension) = (tenant < 2 ^ 32) × (base < 2 ^ 32) × (position < 2 ^ 32) × (extension < 2 ^ 32)
IsSayable (slots.Field tenant base generation column shape chunk field) =
    (tenant < 2 ^ 32) × (base < 2 ^ 32) × (generation < 2 ^ 8) × (column < 2 ^ 32) × (chunk < 2 ^ 8) × (field < 2 ^ 8)
