-- What is written of a slot is read as it, and may stand in a page.
use Rattle.std.proofs.Common.{◌≡◌, ℕ, ◌^◌, ◌<◌, ◌≤◌, ◌-◌, ◌==◌, Bool, true, false, List, [], ◌++◌, length, replicate, Option, Some, option_map, refl, arith, length-append}
use Rattle.std.proofs.Math.Seq.{take-append_seam}
use Rattle.std.proofs.lemmas.Bool.{le-leb}
use Rattle.std.proofs.lemmas.List.{length-replicate}
use Rattle.byteorder.specs.Endian.{little_bytes, little_number}
use Rattle.byteorder.specs.Numbers.{little_number-reads_back}
use Rattle.mt_tree.specs.declared.schema.Kind.{Kind}
use Rattle.mt_tree.specs.declared.schema.Kind.TheVariants.{Integer, Varchar}
use Rattle.mt_rowfile.specs.Layouts.{body_width}
use Rattle.mt_rowfile.specs.Slots.{IsBody, IsNameField}
use Rattle.mt_fold.specs.declared.shape.Shape.{Shape}
use Rattle.mt_fold.specs.declared.shape.Shape.TheVariants.{C1, C2, C3, C4, C5, C6}
use Rattle.mt_fold.specs.Shapes.{shape_table}
use Rattle.mt_catslot.specs.declared.slot.Class.{Class}
use Rattle.mt_catslot.specs.declared.slot.Class.TheVariants.{BaseTable, Extension}
use Rattle.mt_catslot.specs.declared.slot.Motion.{Motion}
use Rattle.mt_catslot.specs.declared.slot.Motion.TheVariants.{Settled, Moving}
use Rattle.mt_catslot.specs.declared.slot.CatSlot.{CatSlot}
use Rattle.mt_catslot.specs.declared.slot.CatSlot.TheVariants as slots
use Rattle.mt_catslot.specs.Bytes.{body_of, class_byte, class_in, column_with, flag_byte, kind_in, name_bytes, name_in, says, shape_in}
use Rattle.mt_catslot.specs.Slots.{IsSayable, IsSayableKind, IsSayableMotion, IsSayableName, table_of}

-- a flag is read again
flag_again : (flag : Bool) → (flag_byte flag == 1) ≡ flag
flag_again true = refl
flag_again false = refl

-- a size is read again
size_again : (size : ℕ) → 1 ≤ size → size ≤ 120 → kind_in 2 size ≡ Some (Varchar size)
size_again size some upto = rw (le-leb 1 size some, le-leb size 120 upto) refl

-- a shape is read again
pub shape_again : (shape : Shape) → shape_in (shape_table shape) ≡ Some shape
shape_again C1 = refl
shape_again C2 = refl
shape_again C3 = refl
shape_again C4 = refl
shape_again C5 = refl
shape_again C6 = refl

-- a name is read again
name_again : (name : List ℕ) → name_in (name_bytes name) ≡ name
name_again name = take-append_seam name (replicate (30 - length name) 0)

-- the same facts of two slots make them one
same_relation : (class : Class) (n m b c : ℕ) (x y : List ℕ) → n ≡ m → b ≡ c → x ≡ y
    → Some (slots.Relation class n b x) ≡ Some (slots.Relation class m c y)
same_relation class n m b c x y number base name = cc

same_column : (class : Class) (n m p q : ℕ) (kind : Kind) (f g h k : Bool) (x y : List ℕ) → n ≡ m → p ≡ q → f ≡ g → h ≡ k → x ≡ y
    → Some (slots.Column class n p kind f h x) ≡ Some (slots.Column class m q kind g k y)
same_column class n m p q kind f g h k x y number position not_null key name = cc

same_placement : (t u b c m n : ℕ) (x y : Motion) → t ≡ u → b ≡ c → m ≡ n → x ≡ y
    → Some (slots.Placement t b m x) ≡ Some (slots.Placement u c n y)
same_placement t u b c m n x y tenant base made motion = cc

same_moving : (g f h u v : ℕ) → f ≡ h → u ≡ v → Moving g f u ≡ Moving g h v
same_moving g f h u v frontier upto = cc

same_tenant : (t u q r : ℕ) → t ≡ u → q ≡ r → Some (slots.Tenant t q) ≡ Some (slots.Tenant u r)
same_tenant t u q r tenant quota = cc

same_extended : (t u b c p q e f : ℕ) → t ≡ u → b ≡ c → p ≡ q → e ≡ f → Some (slots.Extended t b p e) ≡ Some (slots.Extended u c q f)
same_extended t u b c p q e f tenant base position extension = cc

same_field : (t u b c g k l : ℕ) (shape : Shape) (i j : ℕ) → t ≡ u → b ≡ c → k ≡ l
    → Some (slots.Field t b g k shape i j) ≡ Some (slots.Field u c g l shape i j)
same_field t u b c g k l shape i j tenant base column = cc

-- a number of four bytes, or of eight, is read again
word_again : (n : ℕ) → n < 2 ^ 32 → little_number 4 (little_bytes 4 n ++ []) ≡ n
word_again n small = little_number-reads_back 4 n [] (omega arith)

long_again : (n : ℕ) → n < 2 ^ 64 → little_number 8 (little_bytes 8 n ++ []) ≡ n
long_again n small = little_number-reads_back 8 n [] (omega arith)

-- a table or an extension
relation_again : (class : Class) (number base : ℕ) (name : List ℕ) → number < 2 ^ 32 → base < 2 ^ 32
    → says 8 (body_of (slots.Relation class number base name)) ≡ Some (slots.Relation class number base name)
relation_again BaseTable number base name n b =
    same_relation BaseTable _ number _ base _ name (word_again number n) (word_again base b) (name_again name)
relation_again Extension number base name n b =
    same_relation Extension _ number _ base _ name (word_again number n) (word_again base b) (name_again name)

-- a column, once its class and kind are known
column_known : (c : Option Class) (k : Option Kind) (class : Class) (kind : Kind) (body : List ℕ) (slot : CatSlot) → c ≡ Some class → k ≡ Some kind
    → column_with (Some class) (Some kind) body ≡ Some slot → column_with c k body ≡ Some slot
column_known c k class kind body slot classed of_kind known = rw (classed, of_kind) known

-- a class is read again
class_again : (class : Class) → class_in (class_byte class) ≡ Some class
class_again BaseTable = refl
class_again Extension = refl

column_again : (class : Class) (number position : ℕ) (kind : Kind) (not_null key : Bool) (name : List ℕ) → number < 2 ^ 32 → position < 2 ^ 32
    → IsSayableKind kind
    → says 9 (body_of (slots.Column class number position kind not_null key name)) ≡ Some (slots.Column class number position kind not_null key name)
column_again class number position Integer not_null key name n p sayable =
    let slot = slots.Column class number position Integer not_null key name in
    column_known _ _ class Integer (body_of slot) slot (class_again class) refl
    (same_column class _ number _ position Integer _ not_null _ key _ name (word_again number n) (word_again position p) (flag_again not_null) (flag_again key) (name_again name))
column_again class number position (Varchar size) not_null key name n p sayable =
    let slot = slots.Column class number position (Varchar size) not_null key name in
    column_known _ _ class (Varchar size) (body_of slot) slot (class_again class) (size_again size sayable.0 sayable.1)
    (same_column class _ number _ position (Varchar size) _ not_null _ key _ name (word_again number n) (word_again position p) (flag_again not_null) (flag_again key) (name_again name))

-- how a table lies
placement_again : (tenant base made : ℕ) (motion : Motion) → tenant < 2 ^ 32 → base < 2 ^ 32 → made < 2 ^ 64 → IsSayableMotion motion
    → says 11 (body_of (slots.Placement tenant base made motion)) ≡ Some (slots.Placement tenant base made motion)
placement_again tenant base made (Settled generation) t b m sayable =
    same_placement _ tenant _ base _ made (Settled generation) (Settled generation) (word_again tenant t) (word_again base b) (long_again made m) refl
placement_again tenant base made (Moving generation frontier upto) t b m sayable =
    same_placement _ tenant _ base _ made _ (Moving generation frontier upto) (word_again tenant t) (word_again base b) (long_again made m)
    (same_moving generation _ frontier _ upto (long_again frontier sayable.1) (long_again upto sayable.2))

-- a tenant, and an extension of a tenant's table
tenant_again : (tenant quota : ℕ) → tenant < 2 ^ 32 → quota < 2 ^ 32 → says 10 (body_of (slots.Tenant tenant quota)) ≡ Some (slots.Tenant tenant quota)
tenant_again tenant quota t q = same_tenant _ tenant _ quota (word_again tenant t) (word_again quota q)

extended_again : (tenant base position extension : ℕ) → tenant < 2 ^ 32 → base < 2 ^ 32 → position < 2 ^ 32 → extension < 2 ^ 32
    → says 12 (body_of (slots.Extended tenant base position extension)) ≡ Some (slots.Extended tenant base position extension)
extended_again tenant base position extension t b p e =
    same_extended _ tenant _ base _ position _ extension (word_again tenant t) (word_again base b) (word_again position p) (word_again extension e)

-- a field, once its shape is known
field_known : (s : Option Shape) (shape : Shape) (make : Shape → CatSlot) (slot : CatSlot) → s ≡ Some shape → Some (make shape) ≡ Some slot → option_map make s ≡ Some slot
field_known s shape make slot shaped known = rw shaped known

field_again : (tenant base generation column : ℕ) (shape : Shape) (chunk field : ℕ) → tenant < 2 ^ 32 → base < 2 ^ 32 → column < 2 ^ 32
    → says 13 (body_of (slots.Field tenant base generation column shape chunk field)) ≡ Some (slots.Field tenant base generation column shape chunk field)
field_again tenant base generation column shape chunk field t b c =
    field_known _ shape _ _ (shape_again shape)
    (same_field _ tenant _ base generation _ column shape chunk field (word_again tenant t) (word_again base b) (word_again column c))

-- what is written of a slot is read as it
pub slot_again : (slot : CatSlot) → IsSayable slot → says (table_of slot) (body_of slot) ≡ Some slot
slot_again (slots.Relation class number base name) fits = relation_again class number base name fits.0 fits.1
slot_again (slots.Column class number position kind not_null key name) fits =
    column_again class number position kind not_null key name fits.0 fits.1 fits.2
slot_again (slots.Tenant tenant quota) fits = tenant_again tenant quota fits.0 fits.1
slot_again (slots.Placement tenant base made motion) fits = placement_again tenant base made motion fits.0 fits.1 fits.2 fits.3
slot_again (slots.Extended tenant base position extension) fits = extended_again tenant base position extension fits.0 fits.1 fits.2 fits.3
slot_again (slots.Field tenant base generation column shape chunk field) fits =
    field_again tenant base generation column shape chunk field fits.0 fits.1 fits.3

-- a name that is written can be read, and has 31 bytes with its length
name_readable : (name : List ℕ) → IsSayableName name → IsNameField (name_bytes name)
name_readable name sayable = record {
  some = sayable.some;
  upto = sayable.short;
  ascii = rw (take-append_seam name (replicate {A = ℕ} (30 - length name) 0)) sayable.ascii;
}

name_long : (name : List ℕ) → length name ≤ 30 → length (name_bytes name) ≡ 31
name_long name short = omega (arith, length-append name (replicate {A = ℕ} (30 - length name) 0), length-replicate {A = ℕ} (30 - length name) 0)

-- a slot with no name and no flags can be read
pub free_readable : (table : ℕ) (body : List ℕ) → 10 ≤ table → IsBody table body
free_readable table body from = record {
  table_name = λ e. absurd (omega arith);
  column_name = λ e. absurd (omega arith);
  not_null = λ e. absurd (omega arith);
  key = λ e. absurd (omega arith);
}

flag_short : (flag : Bool) → flag_byte flag ≤ 1
flag_short true = omega arith
flag_short false = omega arith

column_long : (class : Class) (number position : ℕ) (kind : Kind) (not_null key : Bool) (name : List ℕ) → length name ≤ 30
    → length (body_of (slots.Column class number position kind not_null key name)) ≡ 44
column_long class number position Integer not_null key name short = let named = name_long name short in omega arith
column_long class number position (Varchar size) not_null key name short = let named = name_long name short in omega arith

column_readable : (class : Class) (number position : ℕ) (kind : Kind) (not_null key : Bool) (name : List ℕ) → IsSayableName name
    → IsBody 9 (body_of (slots.Column class number position kind not_null key name))
column_readable class number position Integer not_null key name sayable = record {
  table_name = λ e. absurd (cc);
  column_name = λ _. name_readable name sayable;
  not_null = λ _. flag_short not_null;
  key = λ _. flag_short key;
}
column_readable class number position (Varchar size) not_null key name sayable = record {
  table_name = λ e. absurd (cc);
  column_name = λ _. name_readable name sayable;
  not_null = λ _. flag_short not_null;
  key = λ _. flag_short key;
}

placement_long : (tenant base made : ℕ) (motion : Motion) → length (body_of (slots.Placement tenant base made motion)) ≡ 34
placement_long tenant base made (Settled generation) = refl
placement_long tenant base made (Moving generation frontier upto) = refl

-- what is written of a slot fills it, and can be read
pub slot_readable : (slot : CatSlot) → IsSayable slot → (length (body_of slot) ≡ body_width (table_of slot)) × IsBody (table_of slot) (body_of slot)
slot_readable (slots.Relation class number base name) fits =
    let named = name_long name fits.2.short in (
      omega arith,
      record {
        table_name = λ _. name_readable name fits.2;
        column_name = λ e. absurd (cc);
        not_null = λ e. absurd (cc);
        key = λ e. absurd (cc);
      },
    )
slot_readable (slots.Column class number position kind not_null key name) fits =
    (column_long class number position kind not_null key name fits.3.short, column_readable class number position kind not_null key name fits.3)
slot_readable (slots.Tenant tenant quota) fits = (refl, free_readable 10 _ (omega arith))
slot_readable (slots.Placement tenant base made motion) fits = (placement_long tenant base made motion, free_readable 11 _ (omega arith))
slot_readable (slots.Extended tenant base position extension) fits = (refl, free_readable 12 _ (omega arith))
slot_readable (slots.Field tenant base generation column shape chunk field) fits = (refl, free_readable 13 _ (omega arith))
