-- What a plan knows of a key that was asked for.
use Rattle.std.proofs.Common.{◌≡◌, ℕ, zero, suc, ◌<◌, Bool, true, false, cond, List, [], ◌∷◌, length, get_or, filter_map, Option, None, Some, refl, sym, ap, ◌∙◌, subst, arith}
use Rattle.std.specs.List.{cons_option}
use Rattle.std.specs.declared.cmp.Ordering.{Ordering}
use Rattle.std.specs.Ordering.{eq_by_cmp}
use Rattle.std.specs.Cmp.{IsTotalOrder}
use Rattle.std.proofs.lemmas.Cmp.{eq_by_cmp_equiv}
use Rattle.std.specs.FinMap as finite
use Rattle.std.specs.FinMap.{find}
use Rattle.mt_journal.specs.Layout.{Area, Range}
use Rattle.mt_journal.specs.Replay.{with_ranges}
use Rattle.mt_tables.specs.Commit.{with_values}
use Rattle.mt_tables.specs.Pages.{AreSlotSizes, SlotPlace, SlotSizes}
use Rattle.mt_tables.specs.Plan.{IsPlan, Says}
use Rattle.mt_tables.specs.Tables.{TableSlot, slots_below, tables_of}
use Rattle.mt_tables.specs.Unique.{Misses}
use Rattle.mt_tables.proofs.OneSlot.{OnlyAt, only_used}
use Rattle.mt_tables.proofs.Plans.{among_slots, at_of}

module _ {S K V : Type 0} {R : K → K → Ordering} (o : IsTotalOrder R) (read : S → Option (K × V)) where
  -- the only slot that says a key is found by it
  found_only : (k : K) (v : V) (i : ℕ) (slots : List S) (d : S) → OnlyAt R read k i slots → read (get_or slots i d) ≡ Some (k, v) → find R k (filter_map read slots) ≡ Some v
  found_only k v i [] d only is = absurd only
  found_only k v zero (slot ∷ slots) d only is =
      ap (λ (e : Option (K × V)). find R k (cons_option e (filter_map read slots))) is ∙ ap (λ b. cond b (Some v) (find R k (filter_map read slots))) ((eq_by_cmp_equiv o).refl k)
  found_only k v (suc i) (slot ∷ slots) d only is = by (read slot) only.0 (found_only k v i slots d only.1 is)
    where
      by : (e : Option (K × V)) → Misses R k e → find R k (filter_map read slots) ≡ Some v → find R k (cons_option e (filter_map read slots)) ≡ Some v
      by None misses h = h
      by (Some e) misses h = ap (λ b. cond b (Some e.1) (find R k (filter_map read slots))) misses ∙ h

module _ {K V : Type 0} {R : K → K → Ordering} (o : IsTotalOrder R) (sizes : SlotSizes) (sound : AreSlotSizes sizes) (read : TableSlot → Option (K × V)) (table_of : K → ℕ) (count : ℕ) (pages : Area) (changes : List (K × Option V)) (ranges : List Range) (index : finite.FinMap R (Option ℕ)) (free : ℕ → List ℕ) (plan : IsPlan sizes read R table_of count pages changes ranges index free) where
  -- a key that was found has the value that its slot says
  pub plan_found : (k : K) (p : ℕ) (there : finite.get index k ≡ Some (Some p)) → finite.get (with_values changes (tables_of {R = R} sizes read pages)) k ≡ Some (plan.held k p there).0
  plan_found k p there =
      let area = with_ranges ranges pages in
      let s = plan.held k p there in
      let d : TableSlot = (0, []) in
      let place : SlotPlace = record { table = table_of k; position = p } in
      let at = at_of sizes sound read count area place (Some (k, s.0)) s.1 in
      let within = among_slots sizes sound read count area s.1.number place at in
      let only : OnlyAt R read k s.1.number (slots_below sizes count area) = only_used o read k s.0 s.1.number (slots_below sizes count area) d within plan.unique (s.1.says d) in
      ap (λ m. finite.get m k) (sym plan.made) ∙ finite.get-from_entries o (filter_map read (slots_below sizes count area)) k
      ∙ found_only o read k s.0 s.1.number (slots_below sizes count area) d only (s.1.says d)

  -- and one that was not found has none
  pub plan_lacks : (k : K) → finite.get index k ≡ Some None → finite.get (with_values changes (tables_of {R = R} sizes read pages)) k ≡ None
  plan_lacks k none = ap (λ m. finite.get m k) (sym plan.made) ∙ plan.lacked k none
