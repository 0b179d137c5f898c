-- Slots of base tables, extensions, columns and tenants have the bytes that say them.
use Rattle.std.proofs.Common.{◌≡◌, ℕ, ◌<◌, Bool, true, List, [], ◌∷◌, Option, None, Some, refl, sym, subst, arith}
use Rattle.std.specs.Prelude.{option_map, slice_get}
use Rattle.std.specs.FinMap as finite
use Rattle.std.proofs.lemmas.Bool.Decides.{nat_tests}
use Rattle.std.proofs.lemmas.List.Elements.{All-cons, All-weaker}
use Rattle.std.proofs.lemmas.Option.{slice_get_within}
use Rattle.mt_lexer.specs.Tokens.{begins_word, is_in_word}
use Rattle.mt_lexer.specs.Reserved.{IsNameText}
use Rattle.mt_tree.specs.declared.schema.Column.{Column}
use Rattle.mt_tree.specs.declared.schema.Kind.{Kind}
use Rattle.mt_tree.specs.declared.schema.Kind.TheVariants.{Integer, Varchar}
use Rattle.mt_tree.specs.declared.schema.Table.{Table}
use Rattle.mt_catslot.specs.declared.slot.Class.{Class}
use Rattle.mt_catslot.specs.declared.slot.Class.TheVariants as classes
use Rattle.mt_catslot.specs.declared.slot.CatSlot.TheVariants as slots
use Rattle.mt_catslot.specs.Slots.{IsSayable, IsSayableKind, IsSayableName}
use Rattle.mt_catalog.specs.declared.state.Extension.{Extension}
use Rattle.mt_catalog.specs.declared.state.TenantEntry.{TenantEntry}
use Rattle.mt_catalog.specs.State.{State, base_columns, extension_columns}
use Rattle.mt_catalog.specs.Slots.{class_columns, relation_slot}
use Rattle.mt_catalog.specs.Rules.{AreColumns, IsBase, IsCatalogue, IsColumn, IsExtension, IsKind}
use Rattle.mt_catalog.proofs.Limits.{member_keeps}

-- what stands in a word is an ASCII byte
word_byte : (b : ℕ) → is_in_word b ≡ true → b < 128
word_byte b h = grind (arith, nat_tests)

first_byte : (b : ℕ) → begins_word b ≡ true → b < 128
first_byte b h = grind (arith, nat_tests)

pub name_is_sayable : (name : List ℕ) → IsNameText name → IsSayableName name
name_is_sayable [] is = absurd is.0
name_is_sayable (b ∷ bs) is = record {
  some = omega arith;
  short = is.0.2;
  ascii = All-cons (λ byte. byte < 128) b bs (first_byte b is.0.0) (All-weaker _ _ word_byte bs is.0.1);
}

kind_is_sayable : (kind : Kind) → IsKind kind → IsSayableKind kind
kind_is_sayable Integer is = is
kind_is_sayable (Varchar size) is = is

module _ (state : State) (rules : IsCatalogue state) where
  pub relation_is_sayable : (class : Class) (number base : ℕ) (name : List ℕ) → relation_slot state class number ≡ Some (slots.Relation class number base name) → IsSayable (slots.Relation class number base name)
  relation_is_sayable classes.BaseTable number base name e = by (slice_get state.bases number) refl e
    where
      by : (o : Option Table) → slice_get state.bases number ≡ o → option_map (λ table. slots.Relation classes.BaseTable number number table.name) o ≡ Some (slots.Relation classes.BaseTable number base name)
          → IsSayable (slots.Relation classes.BaseTable number base name)
      by None f h = absurd (cc)
      by (Some table) f h =
          let within = slice_get_within state.bases number table f in
          let few = rules.few_bases in
          let own : number ≡ base = cc in
          let named : table.name ≡ name = cc in
          (omega (arith, within, few), omega (arith, within, few, own), subst IsSayableName named (name_is_sayable table.name (member_keeps IsBase state.bases number table rules.bases f).name))
  relation_is_sayable classes.Extension number base name e = by (slice_get state.extensions number) refl e
    where
      by : (o : Option Extension) → slice_get state.extensions number ≡ o → option_map (λ extension. slots.Relation classes.Extension number extension.base extension.name) o ≡ Some (slots.Relation classes.Extension number base name)
          → IsSayable (slots.Relation classes.Extension number base name)
      by None f h = absurd (cc)
      by (Some extension) f h =
          let within = slice_get_within state.extensions number extension f in
          let few = rules.few_extensions in
          let few_bases = rules.few_bases in
          let is = member_keeps (IsExtension state) state.extensions number extension rules.extensions f in
          let there = is.base in
          let own : extension.base ≡ base = cc in
          let named : extension.name ≡ name = cc in
          (omega (arith, within, few), omega (arith, there, few_bases, own), subst IsSayableName named (name_is_sayable extension.name is.name))

  -- a column stands in a class that is there
  column_is_there : (class : Class) (number position : ℕ) (column : Column) → slice_get (class_columns state class number) position ≡ Some column → (number < 64) × AreColumns (class_columns state class number)
  column_is_there classes.BaseTable number position column e = by (slice_get state.bases number) refl e
    where
      by : (o : Option Table) → slice_get state.bases number ≡ o → slice_get (base_columns o) position ≡ Some column → (number < 64) × AreColumns (base_columns (slice_get state.bases number))
      by None f h = absurd (cc)
      by (Some table) f h =
          let within = slice_get_within state.bases number table f in
          let few = rules.few_bases in
          (omega (arith, within, few), subst (λ (o : Option Table). AreColumns (base_columns o)) (sym f) (member_keeps IsBase state.bases number table rules.bases f).columns)
  column_is_there classes.Extension number position column e = by (slice_get state.extensions number) refl e
    where
      by : (o : Option Extension) → slice_get state.extensions number ≡ o → slice_get (extension_columns o) position ≡ Some column → (number < 64) × AreColumns (extension_columns (slice_get state.extensions number))
      by None f h = absurd (cc)
      by (Some extension) f h =
          let within = slice_get_within state.extensions number extension f in
          let few = rules.few_extensions in
          (omega (arith, within, few), subst (λ (o : Option Extension). AreColumns (extension_columns o)) (sym f) (member_keeps (IsExtension state) state.extensions number extension rules.extensions f).columns)

  pub column_is_sayable : (class : Class) (number position : ℕ) (kind : Kind) (not_null key : Bool) (name : List ℕ)
      → option_map (λ column. slots.Column class number position column.kind column.not_null column.key column.name) (slice_get (class_columns state class number) position) ≡ Some (slots.Column class number position kind not_null key name)
      → IsSayable (slots.Column class number position kind not_null key name)
  column_is_sayable class number position kind not_null key name e = by (slice_get (class_columns state class number) position) refl e
    where
      by : (o : Option Column) → slice_get (class_columns state class number) position ≡ o
          → option_map (λ column. slots.Column class number position column.kind column.not_null column.key column.name) o ≡ Some (slots.Column class number position kind not_null key name)
          → IsSayable (slots.Column class number position kind not_null key name)
      by None f h = absurd (cc)
      by (Some column) f h =
          let there = column_is_there class number position column f in
          let number_is = there.0 in
          let few = there.1.few in
          let within = slice_get_within (class_columns state class number) position column f in
          let is = member_keeps IsColumn (class_columns state class number) position column there.1.each f in
          let own : column.kind ≡ kind = cc in
          let named : column.name ≡ name = cc in
          (omega (arith, number_is), omega (arith, few, within), subst IsSayableKind own (kind_is_sayable column.kind is.kind), subst IsSayableName named (name_is_sayable column.name is.name))

  pub tenant_is_sayable : (tenant quota : ℕ) → option_map (λ entry. slots.Tenant tenant entry.quota) (finite.get state.tenants tenant) ≡ Some (slots.Tenant tenant quota) → IsSayable (slots.Tenant tenant quota)
  tenant_is_sayable tenant quota e = by (finite.get state.tenants tenant) refl e
    where
      by : (o : Option TenantEntry) → finite.get state.tenants tenant ≡ o → option_map (λ entry. slots.Tenant tenant entry.quota) o ≡ Some (slots.Tenant tenant quota) → IsSayable (slots.Tenant tenant quota)
      by None f h = absurd (cc)
      by (Some entry) f h =
          let is = rules.tenants tenant entry f in
          let upto = is.quota_upto in
          let own : entry.quota ≡ quota = cc in
          (is.number_upto, omega (arith, upto, own))
