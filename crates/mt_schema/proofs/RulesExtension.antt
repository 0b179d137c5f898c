-- The catalogue after CREATE EXTENSION keeps the rules.
use Rattle.std.proofs.Common.{◌≡◌, ℕ, ◌<◌, ◌≤◌, true, false, List, [], ◌∷◌, ◌++◌, length, map, Option, None, Some, refl, sym, subst, arith, unwrap_or}
use Rattle.std.specs.Prelude.{All, is_some, slice_get}
use Rattle.std.specs.Str.{bytes_eq}
use Rattle.std.proofs.lemmas.Bool.{ltb-false, not-false, or_parts}
use Rattle.std.proofs.lemmas.List.{length_push, map_push}
use Rattle.std.proofs.lemmas.List.Elements.{All-push, All-weaker}
use Rattle.mt_lexer.specs.Reserved.{IsNameText}
use Rattle.mt_tree.specs.declared.command.AdminCmd.TheVariants.{CreateExtension}
use Rattle.mt_tree.specs.declared.command.Def.{Def}
use Rattle.mt_fold.proofs.Lists.{Each-map}
use Rattle.mt_fold.proofs.Members.{in_first}
use Rattle.mt_catalog.specs.declared.state.Extension.{Extension}
use Rattle.mt_catalog.specs.State.{State, base_columns}
use Rattle.mt_catalog.specs.Rules.{AreApart, IsCatalogue, IsExtension, column_names}
use Rattle.mt_schema.specs.Refusals.{def_names, extension_tests, first_holding}
use Rattle.mt_schema.specs.Steps.{defined_extension, stepped, table_number}
use Rattle.mt_schema.proofs.Defined.{columns_are, names_are, plain_are}
use Rattle.mt_schema.proofs.NamesApart.{apart_behind, apart_pushed, no_place, no_repeat_apart, place_within}
use Rattle.mt_schema.proofs.Quotas.{quotas_same}
use Rattle.mt_schema.proofs.Refused.{none_holds}
use Rattle.mt_schema.proofs.Stays.{extension_stays, tenant_stays}

module _ (state : State) (rules : IsCatalogue state) (name base : List ℕ) (defs : List Def) (named : IsNameText name) (some : 1 ≤ length defs) (names : All (λ def. IsNameText def.name) defs)
    (nullable : All (λ def. def.not_null ≡ false) defs) (accepted : first_holding (extension_tests state name base defs) ≡ None) where
  abbrev extension : Extension
  extension = defined_extension state.bases name base defs

  abbrev after : State
  after = stepped state (CreateExtension name base defs)

  base_within : (o : Option ℕ) → table_number state.bases base ≡ o → is_some o ≡ true → unwrap_or o 0 < length state.bases
  base_within None e some = absurd (cc)
  base_within (Some number) e some = place_within (λ table. bytes_eq table.name base) state.bases number e

  extension_is : IsExtension state extension
  extension_is =
      let fails = none_holds (extension_tests state name base defs) accepted in
      let limits = or_parts _ _ fails.1.1.1.0 in
      let own : List (List ℕ) = column_names (base_columns (slice_get state.bases extension.base)) in
      let apart : AreApart (own ++ def_names defs) = no_repeat_apart _ fails.1.1.0 in
      record {
        name = named;
        base = base_within (table_number state.bases base) refl (not-false _ fails.0);
        columns = columns_are [] defs some names limits.1 (apart_behind own (def_names defs) apart);
        plain = plain_are defs nullable;
        apart = subst (λ of. AreApart (own ++ of)) (sym (names_are [] defs)) apart;
      }

  stays : (one : Extension) → IsExtension state one → IsExtension after one
  stays one is = extension_stays state after one refl (omega arith) is

  names_apart : AreApart (map (λ extension. extension.name) after.extensions)
  names_apart =
      let fails = none_holds (extension_tests state name base defs) accepted in
      subst AreApart (sym (map_push (λ extension. extension.name) state.extensions extension))
      (apart_pushed (map (λ extension. extension.name) state.extensions) name rules.extension_names
      (Each-map (λ other. bytes_eq other name ≡ false) (λ extension. extension.name) state.extensions (no_place (λ extension. bytes_eq extension.name name) state.extensions fails.1.0)))

  pub extension_keeps : IsCatalogue after
  extension_keeps =
      let fails = none_holds (extension_tests state name base defs) accepted in
      let few = ltb-false 63 (length state.extensions) (or_parts _ _ fails.1.1.1.0).0 in
      let size = length_push state.extensions extension in
      record {
        few_bases = rules.few_bases;
        few_extensions = omega (arith, few, size);
        few_tenants = rules.few_tenants;
        bases = rules.bases;
        base_names = rules.base_names;
        extensions = All-push (IsExtension after) state.extensions extension (All-weaker (IsExtension state) (IsExtension after) stays state.extensions rules.extensions) (stays extension extension_is);
        extension_names = names_apart;
        tenants = λ number entry there.
            tenant_stays state after refl (λ b. refl) (λ n one e. in_first state.extensions (extension ∷ []) n one e) number entry (rules.tenants number entry there);
        quotas = subst (λ n. n ≤ 1048576) (sym (quotas_same state after refl)) rules.quotas;
      }
