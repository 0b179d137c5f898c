-- More extensions of a table than it has columns are of no catalogue.
use Rattle.std.proofs.Common.{◌≡◌, ℕ, ◌≤◌, List, [], ◌∷◌, length, Option, None, Some, refl, sym, ap, ◌∙◌, arith}
use Rattle.std.specs.Prelude.{All, flat_map, slice_get, option_map}
use Rattle.std.proofs.lemmas.List.{length-append}
use Rattle.std.proofs.lemmas.List.Elements.{All-head, All-tail}
use Rattle.std.proofs.lemmas.Option.{slice_get_past}
use Rattle.mt_catslot.specs.declared.slot.CatSlot.TheVariants as slots
use Rattle.mt_catslot.specs.declared.slot.CatKey.TheVariants as keys
use Rattle.mt_catalog.specs.declared.state.Extension.{Extension}
use Rattle.mt_catalog.specs.declared.state.TenantTable.{TenantTable}
use Rattle.mt_catalog.specs.State.{State, base_columns, extension_columns, tenant_table}
use Rattle.mt_catalog.specs.Slots.{extended_slot}
use Rattle.mt_catalog.specs.Clauses.{Extends}
use Rattle.mt_catalog.specs.Rules.{IsExtension}
use Rattle.mt_catalog.specs.Found.{Found, IsOf, IsOfNone, extended_found}
use Rattle.mt_catalog.proofs.Chunks.{table_keeps}
use Rattle.mt_catalog.proofs.Limits.{member_keeps}
use Rattle.mt_catalog.proofs.Runs.{present}

module _ (found : Found) (state : State) (is : IsOf found state) (base : ℕ) where
  -- each extension has a column
  numbers_fit : (numbers : List ℕ) → All (Extends state.extensions base) numbers → length numbers ≤ length (flat_map (λ number. extension_columns (slice_get state.extensions number)) numbers)
  numbers_fit [] all = omega arith
  numbers_fit (number ∷ numbers) all =
      let there = All-head (Extends state.extensions base) number numbers all in
      let some = (member_keeps (IsExtension state) state.extensions number there.0 is.rules.extensions there.1).columns.some in
      let rest = numbers_fit numbers (All-tail (Extends state.extensions base) number numbers all) in
      let here : length there.0.columns ≡ length (extension_columns (slice_get state.extensions number)) = ap (λ (o : Option Extension). length (extension_columns o)) (sym there.1) in
      omega (arith, some, rest, here, length-append (extension_columns (slice_get state.extensions number)) (flat_map (λ number. extension_columns (slice_get state.extensions number)) numbers))

  pub few_numbers : (tenant : ℕ) (table : TenantTable) → tenant_table state tenant base ≡ Some table → length table.extended ≤ 32
  few_numbers tenant table e =
      let kept = table_keeps found state is tenant base table e in
      let fit = numbers_fit table.extended kept.extended in
      let few = kept.few in
      omega (arith, fit, few, length-append (base_columns (slice_get state.bases base)) (flat_map (λ number. extension_columns (slice_get state.extensions number)) table.extended))

-- a thirty-third extension
pub too_many_numbers : (found : Found) (tenant base : ℕ) (numbers : List ℕ) → length numbers ≡ 33
    → ((p : ℕ) (number : ℕ) → slice_get numbers p ≡ Some number → extended_found (found (keys.Extended tenant base p)) ≡ Some number) → IsOfNone found
too_many_numbers found tenant base numbers size each state is =
    let last = present numbers 32 (omega (arith, size)) in
    by (tenant_table state tenant base) refl last.0 (sym (ap extended_found (is.same (keys.Extended tenant base 32))) ∙ each 32 last.0 last.1)
  where
    by : (o : Option TenantTable) → tenant_table state tenant base ≡ o → (number : ℕ) → extended_found (extended_slot tenant base 32 o) ≡ Some number → ⊥
    by None e number f = cc
    by (Some table) e number f =
        let past : slice_get table.extended 32 ≡ None = slice_get_past table.extended 32 (few_numbers found state is base tenant table e) in
        let none : extended_found (option_map (λ extension. slots.Extended tenant base 32 extension) (slice_get table.extended 32)) ≡ None = ap (λ (o : Option ℕ). extended_found (option_map (λ extension. slots.Extended tenant base 32 extension) o)) past in
        let no : None ≡ Some number = sym none ∙ f in cc
