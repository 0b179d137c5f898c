-- A log has at most one chain, and its groups do not depend on what stands behind them.
use Rattle.std.proofs.Common.{◌≡◌, ℕ, zero, suc, ◌+◌, ◌<◌, ◌≤◌, List, [], ◌∷◌, ◌++◌, length, refl, sym, ap, ◌∙◌, subst, arith}
use Rattle.std.proofs.lemmas.List.{ext_get_or}
use Rattle.mt_journal.specs.Layout.{Area, Range, IsRangeAt, AreRangesAt, IsGroupAt, IsOpen, number_at, range_size}
use Rattle.mt_journal.specs.Chain.{StandGroups, IsChain, IsDamaged}

-- one range stands at a place
pub range_unique : (log : Area) (at : ℕ) (one two : Range) → IsRangeAt log at one → IsRangeAt log at two → one ≡ two
range_unique log at one two a b =
    let position : one.position ≡ two.position = sym a.position ∙ b.position in
    let size : length one.bytes ≡ length two.bytes = sym a.count ∙ b.count in
    let bytes : one.bytes ≡ two.bytes = ext_get_or 0 one.bytes two.bytes size (λ k h. sym (a.bytes k h) ∙ b.bytes k (omega (arith, size))) in
    λ i. record { position = position i; bytes = bytes i }

-- ranges end behind where they start
pub ranges_end : (log : Area) (at : ℕ) (ranges : List Range) (end : ℕ) → AreRangesAt log at ranges end → at ≤ end
ranges_end log at [] end stand = omega (arith, stand)
ranges_end log at (range ∷ ranges) end stand = let rest = ranges_end log (at + range_size range) ranges end stand.1 in omega (arith, rest)

-- between two places stands one list of ranges
pub ranges_unique : (log : Area) (at : ℕ) (one two : List Range) (end : ℕ) → AreRangesAt log at one end → AreRangesAt log at two end → one ≡ two
ranges_unique log at [] [] end a b = refl
ranges_unique log at [] (range ∷ ranges) end a b = let rest = ranges_end log (at + range_size range) ranges end b.1 in absurd (omega (arith, rest, a))
ranges_unique log at (range ∷ ranges) [] end a b = let rest = ranges_end log (at + range_size range) ranges end a.1 in absurd (omega (arith, rest, b))
ranges_unique log at (range ∷ ranges) (other ∷ others) end a b =
    let head : range ≡ other = range_unique log at range other a.0 b.0 in
    let rest : ranges ≡ others = ranges_unique log (at + range_size range) ranges others end a.1 (subst (λ (r : Range). AreRangesAt log (at + range_size r) others end) (sym head) b.1) in
    λ i. head i ∷ rest i

-- one group stands at a place
pub group_unique : (log : Area) (at : ℕ) (one two : List Range) (end other : ℕ) → IsGroupAt log at one end → IsGroupAt log at two other → (one ≡ two) × (end ≡ other)
group_unique log at one two end other a b =
    let same : end ≡ other = sym a.size ∙ b.size in
    (ranges_unique log (at + 13) one two end a.payload (subst (λ (e : ℕ). AreRangesAt log (at + 13) two e) (sym same) b.payload), same)

-- the payload of a group holds the count of its ranges
pub group_end : (log : Area) (at : ℕ) (ranges : List Range) (end : ℕ) → IsGroupAt log at ranges end → at + 13 ≤ end
group_end log at ranges end group = ranges_end log (at + 13) ranges end group.payload

-- groups end behind where they start
pub groups_end : (log : Area) (at : ℕ) (groups : List (List Range)) (end : ℕ) → StandGroups log at groups end → at ≤ end
groups_end log at [] end stand = omega (arith, stand)
groups_end log at (group ∷ groups) end stand =
    let head = group_end log at group stand.0 stand.1 in
    let rest = groups_end log stand.0 groups end stand.2 in
    omega (arith, head, rest)

-- two chains from one place are one
pub groups_unique : (log : Area) (at : ℕ) (one two : List (List Range)) (end other : ℕ) → StandGroups log at one end → StandGroups log at two other
    → (IsOpen log end → ⊥) → (IsOpen log other → ⊥) → (one ≡ two) × (end ≡ other)
groups_unique log at [] [] end other a b closed shut = (refl, sym a ∙ b)
groups_unique log at [] (group ∷ groups) end other a b closed shut = absurd (closed (subst (IsOpen log) a b.1.gate))
groups_unique log at (group ∷ groups) [] end other a b closed shut = absurd (shut (subst (IsOpen log) b a.1.gate))
groups_unique log at (one ∷ ones) (two ∷ twos) end other a b closed shut =
    let head = group_unique log at one two a.0 b.0 a.1 b.1 in
    let rest = groups_unique log a.0 ones twos end other a.2 (subst (λ (n : ℕ). StandGroups log n twos other) (sym head.1) b.2) closed shut in
    let first = head.0 in
    let others = rest.0 in (
      λ i. first i ∷ others i,
      rest.1,
    )

-- a log has one chain
pub chain_unique : (log : Area) (one two : List (List Range)) (end other : ℕ) → IsChain log one end → IsChain log two other → (one ≡ two) × (end ≡ other)
chain_unique log one two end other a b = groups_unique log 0 one two end other a.groups_stand b.groups_stand a.closed b.closed

-- and none where an open gate has no group behind it
pub groups_damaged : (log : Area) (at : ℕ) (one two : List (List Range)) (end other : ℕ) → StandGroups log at one end → StandGroups log at two other
    → IsOpen log end → ((ranges : List Range) (next : ℕ) → IsGroupAt log end ranges next → ⊥) → (IsOpen log other → ⊥) → ⊥
groups_damaged log at [] [] end other a b gate none closed = closed (subst (IsOpen log) (sym a ∙ b) gate)
groups_damaged log at [] (group ∷ groups) end other a b gate none closed = none group b.0 (subst (λ (n : ℕ). IsGroupAt log n group b.0) a b.1)
groups_damaged log at (group ∷ groups) [] end other a b gate none closed = closed (subst (IsOpen log) b a.1.gate)
groups_damaged log at (one ∷ ones) (two ∷ twos) end other a b gate none closed =
    let head = group_unique log at one two a.0 b.0 a.1 b.1 in
    groups_damaged log a.0 ones twos end other a.2 (subst (λ (n : ℕ). StandGroups log n twos other) (sym head.1) b.2) gate none closed

pub damaged_none : (log : Area) (groups : List (List Range)) (tail : ℕ) → IsDamaged log → IsChain log groups tail → ⊥
damaged_none log groups tail damaged chain = groups_damaged log 0 damaged.groups groups damaged.at tail damaged.groups_stand chain.groups_stand damaged.gate damaged.none chain.closed

-- one group more behind others
pub groups_push : (log : Area) (at : ℕ) (groups : List (List Range)) (tail : ℕ) (ranges : List Range) (end : ℕ) → StandGroups log at groups tail → IsGroupAt log tail ranges end
    → StandGroups log at (groups ++ ranges ∷ []) end
groups_push log at [] tail ranges end stand group = (end, subst (λ (n : ℕ). IsGroupAt log n ranges end) (sym stand) group, refl)
groups_push log at (first ∷ groups) tail ranges end stand group = (stand.0, stand.1, groups_push log stand.0 groups tail ranges end stand.2 group)

-- two logs that are the same at n bytes have the same number there
pub number_same : (n : ℕ) (log other : Area) (at : ℕ) → ((k : ℕ) → k < at + n → other k ≡ log k) → number_at n other at ≡ number_at n log at
number_same zero log other at same = refl
number_same (suc n) log other at same =
    let byte = same at (omega arith) in
    let rest = number_same n log other (at + 1) (λ k h. same k (omega arith)) in
    omega (arith, byte, rest)

module _ (log other : Area) where
  pub range_same : (at : ℕ) (range : Range) → ((k : ℕ) → k < at + range_size range → other k ≡ log k) → IsRangeAt log at range → IsRangeAt other at range
  range_same at range same stands = record {
    position = number_same 8 log other at (λ k h. same k (omega arith)) ∙ stands.position;
    count = number_same 4 log other (at + 8) (λ k h. same k (omega arith)) ∙ stands.count;
    bytes = λ k h. same (at + 12 + k) (omega arith) ∙ stands.bytes k h;
    within = stands.within;
  }

  pub ranges_same : (at : ℕ) (ranges : List Range) (end : ℕ) → ((k : ℕ) → k < end → other k ≡ log k) → AreRangesAt log at ranges end → AreRangesAt other at ranges end
  ranges_same at [] end same stand = stand
  ranges_same at (range ∷ ranges) end same stand =
      let last = ranges_end log (at + range_size range) ranges end stand.1 in
      (range_same at range (λ k h. same k (omega (arith, last, h))) stand.0, ranges_same (at + range_size range) ranges end same stand.1)

  pub group_same : (at : ℕ) (ranges : List Range) (end : ℕ) → ((k : ℕ) → k < end → other k ≡ log k) → IsGroupAt log at ranges end → IsGroupAt other at ranges end
  group_same at ranges end same group =
      let last = group_end log at ranges end group in
      record {
        gate = same at (omega arith) ∙ group.gate;
        size = ap (λ (n : ℕ). at + 9 + n) (number_same 8 log other (at + 1) (λ k h. same k (omega arith))) ∙ group.size;
        count = number_same 4 log other (at + 9) (λ k h. same k (omega arith)) ∙ group.count;
        payload = ranges_same (at + 13) ranges end same group.payload;
        within = group.within;
      }

  -- groups that stand in one log stand in another that is the same up to their end
  pub groups_same : (at : ℕ) (groups : List (List Range)) (end : ℕ) → ((k : ℕ) → k < end → other k ≡ log k) → StandGroups log at groups end → StandGroups other at groups end
  groups_same at [] end same stand = stand
  groups_same at (group ∷ groups) end same stand =
      let last = groups_end log stand.0 groups end stand.2 in
      (stand.0, group_same at group stand.0 (λ k h. same k (omega (arith, last, h))) stand.1, groups_same stand.0 groups end same stand.2)

  -- and so does a chain, if the gate behind it is the same too
  pub chain_same : (groups : List (List Range)) (tail : ℕ) → ((k : ℕ) → k ≤ tail → other k ≡ log k) → IsChain log groups tail → IsChain other groups tail
  chain_same groups tail same chain = record {
    groups_stand = groups_same 0 groups tail (λ k h. same k (omega arith)) chain.groups_stand;
    closed = λ gate. chain.closed (sym (same tail (omega arith)) ∙ gate);
  }
