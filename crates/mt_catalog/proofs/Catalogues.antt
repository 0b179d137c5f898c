-- A catalogue that keeps the rules is found by its slots.
use Rattle.std.proofs.Common.{◌≡◌, ℕ, List, length, Option, None, Some, refl, ap, ◌∙◌, arith}
use Rattle.std.specs.Prelude.{slice_get, option_map}
use Rattle.std.specs.FinMap as finite
use Rattle.std.proofs.lemmas.Option.{slice_get_past}
use Rattle.mt_tree.specs.declared.schema.Column.{Column}
use Rattle.mt_tree.specs.declared.schema.Table.{Table}
use Rattle.mt_catslot.specs.declared.slot.Class.{Class}
use Rattle.mt_catslot.specs.declared.slot.Class.TheVariants as classes
use Rattle.mt_catslot.specs.declared.slot.CatSlot.TheVariants as slots
use Rattle.mt_catslot.specs.declared.slot.CatKey.TheVariants as keys
use Rattle.mt_catalog.specs.declared.state.Extension.{Extension}
use Rattle.mt_catalog.specs.declared.state.TenantEntry.{TenantEntry}
use Rattle.mt_catalog.specs.declared.state.TenantTable.{TenantTable}
use Rattle.mt_catalog.specs.State.{State, base_columns, extension_columns, extended_columns, table_in, tenant_table}
use Rattle.mt_catalog.specs.Slots.{class_columns, extended_slot, field_slot, placement_slot}
use Rattle.mt_catalog.specs.Rules.{IsTenantTable}
use Rattle.mt_catalog.specs.Found.{AreFoundColumns, Found, IsFound, IsFoundBase, IsFoundExtension, IsFoundTable, IsFoundTenant, IsOf, column_found, extended_found, placement_found, relation_found, tenant_found}
use Rattle.mt_catalog.proofs.Cut.{folds_are_found}
use Rattle.mt_catalog.proofs.Runs.{own_run}

module _ (found : Found) (state : State) (is : IsOf found state) where
  column_said : (class : Class) (number position : ℕ) (o : Option Column)
      → column_found (option_map (λ column. slots.Column class number position column.kind column.not_null column.key column.name) o) ≡ o
  column_said class number position None = refl
  column_said class number position (Some column) = refl

  pub column_at : (class : Class) (number position : ℕ) → column_found (found (keys.Column class number position)) ≡ slice_get (class_columns state class number) position
  column_at class number position = ap column_found (is.same (keys.Column class number position)) ∙ column_said class number position (slice_get (class_columns state class number) position)

  pub columns_found : (class : Class) (number : ℕ) (columns : List Column) → class_columns state class number ≡ columns → AreFoundColumns found class number columns
  columns_found class number columns e = own_run (λ position. column_found (found (keys.Column class number position))) columns (λ position.
      column_at class number position ∙ ap (λ (of : List Column). slice_get of position) e)

  pub base_found : (number : ℕ) (o : Option Table) → slice_get state.bases number ≡ o
      → relation_found (found (keys.Relation classes.BaseTable number)) ≡ relation_found (option_map (λ table. slots.Relation classes.BaseTable number number table.name) o)
  base_found number o e = ap relation_found (is.same (keys.Relation classes.BaseTable number)) ∙ ap (λ o. relation_found (option_map (λ table. slots.Relation classes.BaseTable number number table.name) o)) e

  pub extension_found : (number : ℕ) (o : Option Extension) → slice_get state.extensions number ≡ o
      → relation_found (found (keys.Relation classes.Extension number)) ≡ relation_found (option_map (λ extension. slots.Relation classes.Extension number extension.base extension.name) o)
  extension_found number o e =
      ap relation_found (is.same (keys.Relation classes.Extension number)) ∙ ap (λ o. relation_found (option_map (λ extension. slots.Relation classes.Extension number extension.base extension.name) o)) e

  a_base : (number : ℕ) (table : Table) → slice_get state.bases number ≡ Some table → IsFoundBase found number table
  a_base number table e = record {
    base = number;
    named = base_found number (Some table) e;
    columns = columns_found classes.BaseTable number table.columns (ap base_columns e);
  }

  an_extension : (number : ℕ) (extension : Extension) → slice_get state.extensions number ≡ Some extension → IsFoundExtension found number extension
  an_extension number extension e = record {
    named = extension_found number (Some extension) e;
    columns = columns_found classes.Extension number extension.columns (ap extension_columns e);
  }

  extended_said : (tenant base position : ℕ) (o : Option ℕ) → extended_found (option_map (λ extension. slots.Extended tenant base position extension) o) ≡ o
  extended_said tenant base position None = refl
  extended_said tenant base position (Some extension) = refl

  pub a_table : (tenant base : ℕ) (table : TenantTable) → tenant_table state tenant base ≡ Some table → IsTenantTable state base table → IsFoundTable found state.bases state.extensions tenant base table
  a_table tenant base table e kept = record {
    placed = ap placement_found (is.same (keys.Placement tenant base)) ∙ ap (λ o. placement_found (placement_slot tenant base o)) e;
    extended_are = own_run (λ position. extended_found (found (keys.Extended tenant base position))) table.extended (λ position.
        ap extended_found (is.same (keys.Extended tenant base position)) ∙ ap (λ o. extended_found (extended_slot tenant base position o)) e ∙ extended_said tenant base position (slice_get table.extended position));
    folds = folds_are_found found tenant base table.placement (extended_columns state base table.extended) (length (base_columns (slice_get state.bases base))) kept.placement
        (λ generation column. is.same (keys.Field tenant base generation column) ∙ ap (field_slot tenant base generation column) e);
  }

  tenant_said : (tenant : ℕ) (o : Option TenantEntry) → finite.get state.tenants tenant ≡ o → tenant_found (found (keys.Tenant tenant)) ≡ tenant_found (option_map (λ entry. slots.Tenant tenant entry.quota) o)
  tenant_said tenant o e = ap tenant_found (is.same (keys.Tenant tenant)) ∙ ap (λ o. tenant_found (option_map (λ entry. slots.Tenant tenant entry.quota) o)) e

  a_tenant : (tenant : ℕ) (o : Option TenantEntry) → finite.get state.tenants tenant ≡ o → IsFoundTenant found state.bases state.extensions tenant o
  a_tenant tenant None e = tenant_said tenant None e
  a_tenant tenant (Some entry) e =
      let kept = is.rules.tenants tenant entry e in
      record {
        quota_is = tenant_said tenant (Some entry) e;
        each_base = kept.each_base;
        tables_are = λ base table f. a_table tenant base table (ap (table_in base) e ∙ f) (kept.tables base table f);
      }

  pub catalogue_is_found : IsFound found state
  catalogue_is_found = record {
    bases_are = record { each = a_base; ending = base_found (length state.bases) None (slice_get_past state.bases (length state.bases) (omega arith)) };
    extensions_are = record { each = an_extension; ending = extension_found (length state.extensions) None (slice_get_past state.extensions (length state.extensions) (omega arith)) };
    tenants_are = λ tenant. a_tenant tenant (finite.get state.tenants tenant) refl;
  }
