-- What bytes say stands in their table.
use Rattle.std.proofs.Common.{◌≡◌, ℕ, ◌==◌, Bool, true, false, if◌then◌else◌, List, Option, Some, None, option_map, refl, sym, ap, ◌∙◌}
use Rattle.std.proofs.lemmas.Bool.{eqb-true}
use Rattle.mt_tree.specs.declared.schema.Kind.{Kind}
use Rattle.mt_fold.specs.declared.shape.Shape.{Shape}
use Rattle.mt_catslot.specs.declared.slot.Class.{Class}
use Rattle.mt_catslot.specs.declared.slot.Motion.{Motion}
use Rattle.mt_catslot.specs.declared.slot.CatSlot.{CatSlot}
use Rattle.mt_catslot.specs.declared.slot.CatSlot.TheVariants as slots
use Rattle.mt_catslot.specs.Bytes.{column_in, column_with, extended_in, field_in, placement_in, relation_in, says, tenant_in}
use Rattle.mt_catslot.specs.Slots.{table_of}

-- where a choice between two numbers gives something, one of its sides does
pub chosen : {A T : Type 0} (table number : ℕ) (x y : Option A) (v : A) → (if table == number then x else y) ≡ Some v
    → (table ≡ number → x ≡ Some v → T) → (y ≡ Some v → T) → T
chosen {A = A} {T = T} table number x y v e here there = by (table == number) refl e
  where
    by : (test : Bool) → (table == number) ≡ test → (if test then x else y) ≡ Some v → T
    by true is given = here (eqb-true table number is) given
    by false is given = there given

same_slot : (s t : CatSlot) → Some s ≡ Some t → s ≡ t
same_slot s t e = cc

none_given : {T : Type 0} (s : CatSlot) → None ≡ Some s → T
none_given s e = absurd (cc)

-- what is to be shown of a slot, by the table in which bytes say it
pub record ByTable (table : ℕ) (body : List ℕ) (slot : CatSlot) (T : Type 0) : Type 0 where
  pub relation : table ≡ 8 → relation_in body ≡ Some slot → T
  pub column : table ≡ 9 → column_in body ≡ Some slot → T
  pub tenant : table ≡ 10 → tenant_in body ≡ slot → T
  pub placement : table ≡ 11 → placement_in body ≡ Some slot → T
  pub extended : table ≡ 12 → extended_in body ≡ slot → T
  pub field : table ≡ 13 → field_in body ≡ Some slot → T

-- each table shows it
pub by_table : (table : ℕ) (body : List ℕ) (slot : CatSlot) (T : Type 0) → says table body ≡ Some slot → ByTable table body slot T → T
by_table table body slot T said by =
    chosen table 8 _ _ slot said by.relation
    (λ at9. chosen table 9 _ _ slot at9 by.column
    (λ at10. chosen table 10 _ _ slot at10 (λ t e. by.tenant t (same_slot _ _ e))
    (λ at11. chosen table 11 _ _ slot at11 by.placement
    (λ at12. chosen table 12 _ _ slot at12 (λ t e. by.extended t (same_slot _ _ e))
    (λ at13. chosen table 13 _ _ slot at13 by.field (none_given slot))))))

-- a table or an extension is said in table 8
relation_at : (found : Option Class) (number base : ℕ) (name : List ℕ) (slot : CatSlot)
    → option_map (λ class. slots.Relation class number base name) found ≡ Some slot → table_of slot ≡ 8
relation_at (Some class) number base name slot e = ap table_of (sym (same_slot (slots.Relation class number base name) slot e))
relation_at None number base name slot e = none_given slot e

-- a column in table 9
column_at : (class : Option Class) (kind : Option Kind) (body : List ℕ) (slot : CatSlot) → column_with class kind body ≡ Some slot → table_of slot ≡ 9
column_at (Some class) (Some kind) body slot e = ap table_of (sym (same_slot _ slot e))
column_at (Some class) None body slot e = none_given slot e
column_at None kind body slot e = none_given slot e

-- how a table lies in table 11
placement_at : (found : Option Motion) (tenant base made : ℕ) (slot : CatSlot)
    → option_map (λ motion. slots.Placement tenant base made motion) found ≡ Some slot → table_of slot ≡ 11
placement_at (Some motion) tenant base made slot e = ap table_of (sym (same_slot (slots.Placement tenant base made motion) slot e))
placement_at None tenant base made slot e = none_given slot e

-- a field in table 13
field_at : (found : Option Shape) (tenant base generation column chunk field : ℕ) (slot : CatSlot)
    → option_map (λ shape. slots.Field tenant base generation column shape chunk field) found ≡ Some slot → table_of slot ≡ 13
field_at (Some shape) tenant base generation column chunk field slot e =
    ap table_of (sym (same_slot (slots.Field tenant base generation column shape chunk field) slot e))
field_at None tenant base generation column chunk field slot e = none_given slot e

-- what bytes say stands in their table
pub said_at : (table : ℕ) (body : List ℕ) (slot : CatSlot) → says table body ≡ Some slot → table_of slot ≡ table
said_at table body slot said = by_table table body slot (table_of slot ≡ table) said (record {
  relation = λ t e. relation_at _ _ _ _ slot e ∙ sym t;
  column = λ t e. column_at _ _ body slot e ∙ sym t;
  tenant = λ t e. ap table_of (sym e) ∙ sym t;
  placement = λ t e. placement_at _ _ _ _ slot e ∙ sym t;
  extended = λ t e. ap table_of (sym e) ∙ sym t;
  field = λ t e. field_at _ _ _ _ _ _ _ slot e ∙ sym t;
})
