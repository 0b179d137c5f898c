-- What a step that is not refused is bounded by: its tenant is one, and its columns are few.
use Rattle.std.proofs.Common.{◌≡◌, ℕ, ◌<◌, ◌≤◌, ◌^◌, false, true, List, length, None, arith}
use Rattle.std.specs.FinMap as finite
use Rattle.std.proofs.lemmas.Bool.{and_parts, leb-true, ltb-false, not-false, or_parts}
use Rattle.mt_tree.specs.declared.command.Def.{Def}
use Rattle.mt_catalog.specs.State.{State}
use Rattle.mt_catalog.specs.Rules.{IsCatalogue}
use Rattle.mt_schema.specs.Refusals.{are_outside, extend_tests, extension_named, extension_tests, first_holding, is_within, quota_tests, table_tests, tenant_tests}
use Rattle.mt_schema.proofs.CanExtend.{can_extend}
use Rattle.mt_schema.proofs.Changes.{some_there}
use Rattle.mt_schema.proofs.Refused.{none_holds}

few_defs : (defs : List Def) → are_outside defs ≡ false → length defs ≤ 16
few_defs defs e = ltb-false 16 (length defs) (or_parts _ _ e).0

pub few_of_table : (state : State) (name : List ℕ) (defs : List Def) (key : List (List ℕ)) → first_holding (table_tests state name defs key) ≡ None → length defs ≤ 16
few_of_table state name defs key accepted = few_defs defs (or_parts _ _ (none_holds (table_tests state name defs key) accepted).1.1.1.0).1

pub few_of_extension : (state : State) (name base : List ℕ) (defs : List Def) → first_holding (extension_tests state name base defs) ≡ None → length defs ≤ 16
few_of_extension state name base defs accepted = few_defs defs (or_parts _ _ (none_holds (extension_tests state name base defs) accepted).1.1.1.0).1

upto : (from most n : ℕ) → is_within from most n ≡ true → n ≤ most
upto from most n e = leb-true n most (and_parts _ _ e).1

fits : (n : ℕ) → n ≤ 4294967295 → n < 2 ^ 32
fits n few = omega arith

pub new_number : (state : State) (tenant quota : ℕ) → first_holding (tenant_tests state tenant quota) ≡ None → tenant < 2 ^ 32
new_number state tenant quota accepted =
    let limits = or_parts _ _ (none_holds (tenant_tests state tenant quota) accepted).1.0 in
    fits tenant (upto 1 4294967295 tenant (not-false _ (or_parts _ _ limits.0).1))

pub extended_number : (state : State) (tenant : ℕ) (name : List ℕ) → IsCatalogue state → first_holding (extend_tests state tenant (extension_named state name)) ≡ None → tenant < 2 ^ 32
extended_number state tenant name rules accepted =
    let can = can_extend state tenant name accepted in
    (rules.tenants tenant can.entry can.entry_is).number_upto

pub kept_number : (state : State) (kept tenant quota : ℕ) → IsCatalogue state → first_holding (quota_tests state kept tenant quota) ≡ None → tenant < 2 ^ 32
kept_number state kept tenant quota rules accepted =
    let there = some_there (finite.get state.tenants tenant) (not-false _ (none_holds (quota_tests state kept tenant quota) accepted).0) in
    (rules.tenants tenant there.0 there.1).number_upto
