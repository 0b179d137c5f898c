-- The counts of a group stay below the number of its ranges.
use Rattle.std.proofs.Common.{◌≡◌, ℕ, zero, suc, ◌+◌, ◌≤◌, Bool, true, false, cond, nat_eq, List, [], ◌∷◌, ◌++◌, length, slice_index, replicate, refl, sym, ap, ◌∙◌, subst, arith, length-append}
use Rattle.mt_journal.specs.Layout.{Range}
use Rattle.mt_staging.specs.Few.{AreFew}
use Rattle.mt_staging.specs.Steps.{one_more_of}

-- one range more
pub few_after : (old new : List Range) (range : Range) (counts : List ℕ) → AreFew old counts → new ≡ old ++ range ∷ [] → AreFew new counts
few_after old new range counts few is = record {
  each = λ t.
      let f = few.each t in
      let long = length-append old (range ∷ []) in
      let size = ap length is in
      omega (arith, f, long, size);
}

-- and one slot more that is counted
pub few_counted : (old new : List Range) (range : Range) (counts then : List ℕ) (table : ℕ) → AreFew old counts → new ≡ old ++ range ∷ [] → slice_index then ≡ one_more_of table (slice_index counts) → AreFew new then
few_counted old new range counts then table few is counted = record {
  each = λ t.
      let f = few.each t in
      let long = length-append old (range ∷ []) in
      let size = ap length is in
      let more = at_most (nat_eq t table) (slice_index counts t) in
      let e : slice_index then t ≡ one_more_of table (slice_index counts) t = ap (λ (g : ℕ → ℕ). g t) counted in
      omega (arith, f, long, size, more, e);
}
  where
    at_most : (b : Bool) (n : ℕ) → cond b (n + 1) n ≤ n + 1
    at_most true n = omega arith
    at_most false n = omega arith

zero_at : (n t : ℕ) → slice_index (replicate n 0) t ≡ 0
zero_at zero t = refl
zero_at (suc n) zero = refl
zero_at (suc n) (suc t) = zero_at n t

-- where nothing was counted
pub none_counted : (t : ℕ) → slice_index (replicate 32 0) t ≡ 0
none_counted t = zero_at 32 t

pub few_none : (ranges : List Range) → AreFew ranges (replicate 32 0)
few_none ranges = record { each = λ t. let e = zero_at 32 t in omega (arith, e) }
