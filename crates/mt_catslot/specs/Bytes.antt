-- The bytes of a slot of the catalogue behind its mark, and what such bytes say.
use Rattle.std.specs.Prelude.{ℕ, ◌-◌, ◌==◌, ◌&&◌, nat_le, Bool, if◌then◌else◌, List, [], ◌∷◌, ◌++◌, length, take, drop, replicate, slice_index, Option, None, Some, option_map}
use Rattle.byteorder.specs.Endian.{little_bytes, little_number}
use Rattle.mt_tree.specs.declared.schema.Kind.{Kind}
use Rattle.mt_tree.specs.declared.schema.Kind.TheVariants.{Integer, Varchar}
use Rattle.mt_fold.specs.declared.shape.Shape.{Shape}
use Rattle.mt_fold.specs.declared.shape.Shape.TheVariants.{C1, C2, C3, C4, C5, C6}
use Rattle.mt_fold.specs.Shapes.{shape_table}
use Rattle.mt_catslot.specs.declared.slot.Class.{Class}
use Rattle.mt_catslot.specs.declared.slot.Class.TheVariants.{BaseTable, Extension}
use Rattle.mt_catslot.specs.declared.slot.Motion.{Motion}
use Rattle.mt_catslot.specs.declared.slot.Motion.TheVariants.{Settled, Moving}
use Rattle.mt_catslot.specs.declared.slot.CatSlot.{CatSlot}
use Rattle.mt_catslot.specs.declared.slot.CatSlot.TheVariants as slots

-- a class: 0 for a base table, 1 for an extension
abbrev pub class_byte : Class → ℕ
class_byte BaseTable = 0
class_byte Extension = 1

-- a kind: 1 and 0, or 2 and the size
abbrev pub kind_bytes : Kind → List ℕ
kind_bytes Integer = 1 ∷ 0 ∷ []
kind_bytes (Varchar size) = 2 ∷ size ∷ []

-- a flag
abbrev pub flag_byte : Bool → ℕ
flag_byte flag = if flag then 1 else 0

-- a name: its length, its bytes, and zeros up to 30
abbrev pub name_bytes : List ℕ → List ℕ
name_bytes name = length name ∷ (name ++ replicate (30 - length name) 0)

-- whether a table moves, the generation of its fold or of the old one, the frontier and the end
abbrev pub motion_bytes : Motion → List ℕ
motion_bytes (Settled generation) = 0 ∷ generation ∷ (little_bytes 8 0 ++ little_bytes 8 0)
motion_bytes (Moving generation frontier upto) = 1 ∷ generation ∷ (little_bytes 8 frontier ++ little_bytes 8 upto)

-- the bytes behind the mark of a slot
abbrev pub body_of : CatSlot → List ℕ
body_of (slots.Relation class number base name) = little_bytes 4 number ++ class_byte class ∷ (little_bytes 4 base ++ name_bytes name)
body_of (slots.Column class number position kind not_null key name) =
    class_byte class ∷ (little_bytes 4 number ++ little_bytes 4 position ++ kind_bytes kind ++ flag_byte not_null ∷ flag_byte key ∷ name_bytes name)
body_of (slots.Tenant tenant quota) = little_bytes 4 tenant ++ little_bytes 4 quota
body_of (slots.Placement tenant base made motion) = little_bytes 4 tenant ++ little_bytes 4 base ++ little_bytes 8 made ++ motion_bytes motion
body_of (slots.Extended tenant base position extension) = little_bytes 4 tenant ++ little_bytes 4 base ++ little_bytes 4 position ++ little_bytes 4 extension
body_of (slots.Field tenant base generation column shape chunk field) =
    little_bytes 4 tenant ++ little_bytes 4 base ++ generation ∷ (little_bytes 4 column ++ shape_table shape ∷ chunk ∷ field ∷ [])

-- what the byte of a class says
abbrev pub class_in : ℕ → Option Class
class_in byte = if byte == 0 then Some BaseTable else (if byte == 1 then Some Extension else None)

-- what the two bytes of a kind say
abbrev pub kind_in : ℕ → ℕ → Option Kind
kind_in kind size =
    if kind == 1 && size == 0 then Some Integer
    else (if kind == 2 && nat_le 1 size && nat_le size 120 then Some (Varchar size) else None)

-- what the byte of a shape says
abbrev pub shape_in : ℕ → Option Shape
shape_in byte =
    if byte == 1 then Some C1
    else (if byte == 2 then Some C2
    else (if byte == 3 then Some C3
    else (if byte == 4 then Some C4
    else (if byte == 5 then Some C5
    else (if byte == 6 then Some C6 else None)))))

-- a name behind its length
abbrev pub name_in : List ℕ → List ℕ
name_in bytes = take (slice_index bytes 0) (drop 1 bytes)

-- what the bytes on a table's fold say: the frontier and the end of one that is settled are 0
abbrev pub motion_in : List ℕ → Option Motion
motion_in bytes =
    if slice_index bytes 0 == 0 && little_number 8 (drop 2 bytes) == 0 && little_number 8 (drop 10 bytes) == 0 then Some (Settled (slice_index bytes 1))
    else (if slice_index bytes 0 == 1 then Some (Moving (slice_index bytes 1) (little_number 8 (drop 2 bytes)) (little_number 8 (drop 10 bytes))) else None)

-- a base table or an extension
abbrev pub relation_in : List ℕ → Option CatSlot
relation_in body =
    option_map (λ class. slots.Relation class (little_number 4 body) (little_number 4 (drop 5 body)) (name_in (drop 9 body))) (class_in (slice_index body 4))

-- a column of this class and kind
abbrev pub column_with : Option Class → Option Kind → List ℕ → Option CatSlot
column_with (Some class) (Some kind) body =
    Some (slots.Column class (little_number 4 (drop 1 body)) (little_number 4 (drop 5 body)) kind (slice_index body 11 == 1) (slice_index body 12 == 1) (name_in (drop 13 body)))
column_with class kind body = None

-- a column
abbrev pub column_in : List ℕ → Option CatSlot
column_in body = column_with (class_in (slice_index body 0)) (kind_in (slice_index body 9) (slice_index body 10)) body

-- a tenant
abbrev pub tenant_in : List ℕ → CatSlot
tenant_in body = slots.Tenant (little_number 4 body) (little_number 4 (drop 4 body))

-- how a tenant's table lies
abbrev pub placement_in : List ℕ → Option CatSlot
placement_in body =
    option_map (λ motion. slots.Placement (little_number 4 body) (little_number 4 (drop 4 body)) (little_number 8 (drop 8 body)) motion) (motion_in (drop 16 body))

-- an extension of a tenant's table
abbrev pub extended_in : List ℕ → CatSlot
extended_in body = slots.Extended (little_number 4 body) (little_number 4 (drop 4 body)) (little_number 4 (drop 8 body)) (little_number 4 (drop 12 body))

-- the field of a chunk in which a column lies
abbrev pub field_in : List ℕ → Option CatSlot
field_in body =
    option_map (λ shape. slots.Field (little_number 4 body) (little_number 4 (drop 4 body)) (slice_index body 8) (little_number 4 (drop 9 body)) shape (slice_index body 14) (slice_index body 15))
    (shape_in (slice_index body 13))

-- What the bytes behind the mark of a slot say, by the table of the catalogue in which it stands. Bytes
-- with an unknown class, kind, size, shape or motion say nothing.
abbrev pub says : ℕ → List ℕ → Option CatSlot
says table body =
    if table == 8 then relation_in body
    else (if table == 9 then column_in body
    else (if table == 10 then Some (tenant_in body)
    else (if table == 11 then placement_in body
    else (if table == 12 then Some (extended_in body)
    else (if table == 13 then field_in body else None)))))
