-- The catalogue after CREATE TABLE keeps the rules.
use Rattle.std.proofs.Common.{◌≡◌, ℕ, zero, suc, ◌+◌, ◌<◌, ◌≤◌, false, List, [], ◌∷◌, length, map, Option, None, Some, refl, sym, ap, ◌∙◌, subst, arith}
use Rattle.std.specs.Prelude.{All, option_map, slice_get}
use Rattle.std.specs.Str.{bytes_eq}
use Rattle.std.specs.FinMap as finite
use Rattle.std.proofs.lemmas.Bool.{ltb-false, or_parts}
use Rattle.std.proofs.lemmas.List.{length_push, map_push}
use Rattle.std.proofs.lemmas.List.Elements.{All-push, All-weaker}
use Rattle.mt_lexer.specs.Reserved.{IsNameText}
use Rattle.mt_tree.specs.declared.command.AdminCmd.TheVariants.{CreateTable}
use Rattle.mt_tree.specs.declared.command.Def.{Def}
use Rattle.mt_tree.specs.declared.schema.Table.{Table}
use Rattle.mt_fold.proofs.Lists.{Each-map}
use Rattle.mt_fold.proofs.Members.{Side, side}
use Rattle.mt_fold.proofs.Members.Side.{stands_in_first, stands_in_second}
use Rattle.mt_catalog.specs.declared.state.TenantEntry.{TenantEntry}
use Rattle.mt_catalog.specs.declared.state.TenantTable.{TenantTable}
use Rattle.mt_catalog.specs.State.{State}
use Rattle.mt_catalog.specs.Rules.{AreApart, IsBase, IsCatalogue, IsExtension, IsTenant, IsTenantTable}
use Rattle.mt_schema.specs.Refusals.{def_names, first_holding, table_tests}
use Rattle.mt_schema.specs.Steps.{defined_table, new_table, stepped, with_new_table}
use Rattle.mt_schema.proofs.Defined.{columns_are}
use Rattle.mt_schema.proofs.Maps.{get-in_each}
use Rattle.mt_schema.proofs.NamesApart.{apart_pushed, no_place, no_repeat_apart}
use Rattle.mt_schema.proofs.Numbered.{joined_front, pushed_there}
use Rattle.mt_schema.proofs.Quotas.{quotas_kept}
use Rattle.mt_schema.proofs.Refused.{none_holds}
use Rattle.mt_schema.proofs.NewTable.{new_table_is}
use Rattle.mt_schema.proofs.Stays.{extension_stays, table_stays}
use Rattle.mt_schema.proofs.Totals.{len-in_each}

module _ (state : State) (rules : IsCatalogue state) (name : List ℕ) (defs : List Def) (key : List (List ℕ)) (named : IsNameText name) (some : 1 ≤ length defs) (names : All (λ def. IsNameText def.name) defs)
    (accepted : first_holding (table_tests state name defs key) ≡ None) where
  abbrev table : Table
  table = defined_table name defs key

  abbrev after : State
  after = stepped state (CreateTable name defs key)

  base_is : IsBase table
  base_is =
      let fails = none_holds (table_tests state name defs key) accepted in
      let limits = or_parts _ _ fails.1.1.1.0 in
      record { name = named; columns = columns_are key defs some names limits.1 (no_repeat_apart (def_names defs) (or_parts _ _ fails.1.1.0).0) }

  base_stays : (number : ℕ) → number < length state.bases → slice_get after.bases number ≡ slice_get state.bases number
  base_stays number within = joined_front state.bases (table ∷ []) number within

  names_apart : AreApart (map (λ table. table.name) after.bases)
  names_apart =
      let fails = none_holds (table_tests state name defs key) accepted in
      subst AreApart (sym (map_push (λ table. table.name) state.bases table))
      (apart_pushed (map (λ table. table.name) state.bases) name rules.base_names
      (Each-map (λ other. bytes_eq other name ≡ false) (λ table. table.name) state.bases (no_place (λ table. bytes_eq table.name name) state.bases fails.1.0)))

  tables_are : (number : ℕ) (entry : TenantEntry) → IsTenant state number entry → (base : ℕ) (one : TenantTable) → Side entry.tables (new_table table ∷ []) base one → IsTenantTable after base one
  tables_are number entry is base one (stands_in_first low there) =
      let each = is.each_base in
      table_stays state after base (base_stays base (omega (arith, low, each))) (λ n extension e. e) one (is.tables base one there)
  tables_are number entry is base one (stands_in_second j sum there) = by j sum there
    where
      by : (j : ℕ) → base ≡ length entry.tables + j → slice_get (new_table table ∷ []) j ≡ Some one → IsTenantTable after base one
      by zero sum there =
          let each = is.each_base in
          let last : length state.bases ≡ base = omega (arith, sum, each) in
          let same : new_table table ≡ one = cc in
          subst (λ t. IsTenantTable after base t) same (subst (λ b. IsTenantTable after b (new_table table)) last (new_table_is after (length state.bases) table (pushed_there state.bases table) base_is))
      by (suc j) sum there = absurd (cc)

  tenants_are : (number : ℕ) (entry : TenantEntry) → finite.get after.tenants number ≡ Some entry → IsTenant after number entry
  tenants_are number entry e = by (finite.get state.tenants number) refl (sym (get-in_each (with_new_table table) state.tenants number) ∙ e)
    where
      by : (o : Option TenantEntry) → finite.get state.tenants number ≡ o → option_map (with_new_table table) o ≡ Some entry → IsTenant after number entry
      by None f g = absurd (cc)
      by (Some one) f g =
          let is = rules.tenants number one f in
          let same : with_new_table table one ≡ entry = cc in
          subst (IsTenant after number) same (record {
            number_from = is.number_from;
            number_upto = is.number_upto;
            quota_from = is.quota_from;
            quota_upto = is.quota_upto;
            each_base = length_push one.tables (new_table table) ∙ ap (λ n. n + 1) is.each_base ∙ sym (length_push state.bases table);
            tables = λ base t h. tables_are number one is base t (side one.tables (new_table table ∷ []) base t h);
          })

  pub table_keeps : IsCatalogue after
  table_keeps =
      let fails = none_holds (table_tests state name defs key) accepted in
      let few = ltb-false 15 (length state.bases) (or_parts _ _ fails.1.1.1.0).0 in
      let size = length_push state.bases table in
      record {
        few_bases = omega (arith, few, size);
        few_extensions = rules.few_extensions;
        few_tenants = subst (λ n. n ≤ 1000) (sym (len-in_each (with_new_table table) state.tenants)) rules.few_tenants;
        bases = All-push IsBase state.bases table rules.bases base_is;
        base_names = names_apart;
        extensions = All-weaker (IsExtension state) (IsExtension after) (λ extension is. extension_stays state after extension (base_stays extension.base is.base) (omega (arith, size)) is) state.extensions rules.extensions;
        extension_names = rules.extension_names;
        tenants = tenants_are;
        quotas = subst (λ n. n ≤ 1048576) (sym (quotas_kept state after (with_new_table table) (λ entry. refl) refl)) rules.quotas;
      }
