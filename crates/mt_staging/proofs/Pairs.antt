-- Two plans over the same ranges: a range of a table of which the other reads nothing is silent there.
use Rattle.std.proofs.Common.{◌≡◌, ◌≢◌, ℕ, ◌<◌, ◌≤◌, Bool, true, false, cond, nat_eq, List, [], ◌∷◌, ◌++◌, length, drop, get_or, Option, None, Some, refl, sym, ap, ◌∙◌, arith, subst}
use Rattle.std.proofs.lemmas.Bool.Decides.{nat_tests}
use Rattle.std.proofs.lemmas.List.{get_or-map}
use Rattle.std.specs.declared.cmp.Ordering.{Ordering}
use Rattle.std.specs.Cmp.{IsTotalOrder}
use Rattle.std.specs.FinMap as finite
use Rattle.mt_journal.specs.Layout.{Area, Range}
use Rattle.mt_journal.specs.Replay.{with_ranges}
use Rattle.mt_tables.specs.Pages.{AreSlotSizes, SlotPlace, SlotSizes, bytes_at, places_below}
use Rattle.mt_tables.specs.Plan.{AreApart, AreFree, AreOthers, IsPlan, Says, without_first}
use Rattle.mt_tables.specs.Tables.{TableSlot, overwritten, slot_at, slots_below}
use Rattle.mt_tables.proofs.Plans.{plan_silent, tables_apart, used_apart}

module _ {K V : Type 0} (sizes : SlotSizes) (read : TableSlot → Option (K × V)) (count : ℕ) (area : Area) where
  -- the slot at a place that says something
  pub slot_there : (place : SlotPlace) (entry : Option (K × V)) (d : TableSlot) (s : Says sizes read count area place entry) → get_or (slots_below sizes count area) s.number d ≡ slot_at sizes area place
  slot_there place entry d s =
      get_or-map (slot_at sizes area) (places_below sizes count area) s.number place d s.within ∙ ap (slot_at sizes area) (s.stands place)

  pub said_there : (place : SlotPlace) (entry : Option (K × V)) → Says sizes read count area place entry → read (slot_at sizes area place) ≡ entry
  said_there place entry s = let d : TableSlot = (0, []) in ap read (sym (slot_there place entry d s)) ∙ s.says d

  -- the free positions without the first one of a table
  dropped_free : (t : ℕ) (positions : List ℕ) → AreFree sizes read count area t positions → AreFree sizes read count area t (drop 1 positions)
  dropped_free t [] free = tt
  dropped_free t (p ∷ positions) free = free.1

  pub rest_free : (table : ℕ) (free : ℕ → List ℕ) → ((t : ℕ) → AreFree sizes read count area t (free t)) → (t : ℕ) → AreFree sizes read count area t (without_first table free t)
  rest_free table free all t = by (nat_eq t table)
    where
      by : (b : Bool) → AreFree sizes read count area t (cond b (drop 1 (free t)) (free t))
      by true = dropped_free t (free t) (all t)
      by false = all t

dropped_apart : (positions : List ℕ) → AreApart positions → AreApart (drop 1 positions)
dropped_apart [] apart = tt
dropped_apart (p ∷ positions) apart = apart.1

pub rest_apart : (table : ℕ) (free : ℕ → List ℕ) → ((t : ℕ) → AreApart (free t)) → (t : ℕ) → AreApart (without_first table free t)
rest_apart table free all t = by (nat_eq t table)
  where
    by : (b : Bool) → AreApart (cond b (drop 1 (free t)) (free t))
    by true = dropped_apart (free t) (all t)
    by false = all t

module _ {K2 V2 : Type 0} {R2 : K2 → K2 → Ordering} (o2 : IsTotalOrder R2) (exact2 : finite.IsAntisymmetric R2) (sizes : SlotSizes) (sound : AreSlotSizes sizes) (read2 : TableSlot → Option (K2 × V2)) (table_of2 : K2 → ℕ) (count : ℕ) (pages : Area) where
  -- a slot in use is written that only the other plan reads
  pub other_used : {K V : Type 0} (read : TableSlot → Option (K × V)) (changes2 : List (K2 × Option V2)) (ranges : List Range) (index2 : finite.FinMap R2 (Option ℕ)) (free : ℕ → List ℕ) (place : SlotPlace) (e : K × V) (bytes : List ℕ)
      → IsPlan sizes read2 R2 table_of2 count pages changes2 ranges index2 free
      → Says sizes read count (with_ranges ranges pages) place (Some e) → ((t : ℕ) → AreFree sizes read count (with_ranges ranges pages) t (free t)) → ((bs : List ℕ) → read2 (place.table, bs) ≡ None)
      → length bytes ≤ sizes.width place.table
      → IsPlan sizes read2 R2 table_of2 count pages changes2 (ranges ++ record { position = place.position; bytes = bytes } ∷ []) index2 free
  other_used read changes2 ranges index2 free place e bytes plan s all none short =
      let area = with_ranges ranges pages in
      let silent : Says sizes read2 count area place None = record {
        number = s.number;
        within = s.within;
        stands = s.stands;
        says = λ d. ap read2 (slot_there sizes read count area place (Some e) d s) ∙ none (bytes_at area place.position (sizes.width place.table));
      } in
      plan_silent o2 exact2 sizes sound read2 table_of2 count pages changes2 ranges index2 free free place bytes plan silent short (none _)
      plan.are_free (λ t. used_apart sizes sound read count area place e t (free t) s (all t)) plan.are_apart

  -- the first free slot of a table is written that only the other plan reads
  pub other_taken : (changes2 : List (K2 × Option V2)) (ranges : List Range) (index2 : finite.FinMap R2 (Option ℕ)) (free : ℕ → List ℕ) (table p : ℕ) (rest : List ℕ) (bytes : List ℕ)
      → IsPlan sizes read2 R2 table_of2 count pages changes2 ranges index2 free → free table ≡ p ∷ rest → ((bs : List ℕ) → read2 (table, bs) ≡ None) → length bytes ≤ sizes.width table
      → IsPlan sizes read2 R2 table_of2 count pages changes2 (ranges ++ record { position = p; bytes = bytes } ∷ []) index2 (without_first table free)
  other_taken changes2 ranges index2 free table p rest bytes plan first none short =
      let area = with_ranges ranges pages in
      let place : SlotPlace = record { table = table; position = p } in
      let all : AreFree sizes read2 count area table (p ∷ rest) = subst (AreFree sizes read2 count area table) first (plan.are_free table) in
      plan_silent o2 exact2 sizes sound read2 table_of2 count pages changes2 ranges index2 free (without_first table free) place bytes plan all.0 short (none _)
      (rest_free sizes read2 count area table free plan.are_free) (λ t. others area all.0 t (plan.are_free t) (plan.are_apart t) (nat_eq t table) refl) (rest_apart table free plan.are_apart)
    where
      others : (area : Area) → Says sizes read2 count area (record { table = table; position = p }) None → (t : ℕ) → AreFree sizes read2 count area t (free t) → AreApart (free t) → (b : Bool) → nat_eq t table ≡ b → AreOthers p (cond b (drop 1 (free t)) (free t))
      others area s t all apart true e =
          let same : t ≡ table = grind (arith, nat_tests, e) in
          let list : free t ≡ p ∷ rest = ap free same ∙ first in
          subst (λ positions. AreOthers p (drop 1 positions)) (sym list) (subst AreApart list apart).0
      others area s t all apart false e = tables_apart sizes sound read2 count area table t p (free t) (λ same. let h : nat_eq t table ≡ true = grind (arith, nat_tests, same) in cc) s all
