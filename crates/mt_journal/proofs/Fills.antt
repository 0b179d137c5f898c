-- Ranges that were read one after another, beside those that a group would have.
use Rattle.std.proofs.Common.{◌≡◌, ℕ, ◌+◌, ◌<◌, ◌≤◌, IsTrue, Bool, eqb, List, [], ◌∷◌, ◌++◌, length, refl, sym, ap, ◌∙◌, subst, arith, length-append, ⊎_elim}
use Rattle.std.specs.Prelude.{Ok}
use Rattle.std.proofs.lemmas.Bool.Decides.{eqb_tells}
use Rattle.mt_machine.specs.declared.machine.Area.TheVariants.{Log}
use Rattle.mt_machine.specs.Meaning.{Disk, Meaning}
use Rattle.mt_machine.specs.Leaves.{Looks}
use Rattle.mt_journal.specs.declared.group.RangeAt.{RangeAt}
use Rattle.mt_journal.specs.declared.group.GroupAt.{GroupAt}
use Rattle.mt_journal.specs.Groups.{IsRead, IsPayload}
use Rattle.mt_journal.specs.Chain.{StandGroups}
use Rattle.mt_journal.specs.Layout.{Area, Range, IsRangeAt, AreRangesAt, IsGroupAt, range_size}
use Rattle.mt_journal.specs.Walk.{Fill, FillsPayload}
use Rattle.mt_journal.proofs.Chains.{range_unique, ranges_end, groups_push}

-- one range more
ranges_push : (log : Area) (at : ℕ) (ranges : List Range) (place : ℕ) (range : Range) → AreRangesAt log at ranges place → IsRangeAt log place range
    → AreRangesAt log at (ranges ++ range ∷ []) (place + range_size range)
ranges_push log at [] place range stand next = (subst (λ (n : ℕ). IsRangeAt log n range) (sym stand) next, ap (λ (n : ℕ). n + range_size range) stand)
ranges_push log at (first ∷ ranges) place range stand next = (stand.0, ranges_push log (at + range_size first) ranges place range stand.1 next)

-- before the first range
pub fill_none : (log : Area) (at : ℕ) → Fill log at at 0
fill_none log at = record { ranges = []; stand = refl; count_is = refl }

pub fill_more : (log : Area) (at place count : ℕ) (range : Range) → Fill log at place count → IsRangeAt log place range → Fill log at (place + range_size range) (count + 1)
fill_more log at place count range fill next = record {
  ranges = fill.ranges ++ range ∷ [];
  stand = ranges_push log at fill.ranges place range fill.stand next;
  count_is = omega (arith, fill.count_is, length-append fill.ranges (range ∷ []));
}

-- where more ranges stand than were read, one stands behind those
ranges_go_on : (log : Area) (at : ℕ) (done all : List Range) (place end : ℕ) → AreRangesAt log at done place → AreRangesAt log at all end → length done < length all
    → (range : Range) × IsRangeAt log place range × (place + range_size range ≤ end)
ranges_go_on log at [] [] place end a b less = absurd (omega arith)
ranges_go_on log at (range ∷ done) [] place end a b less = absurd (omega arith)
ranges_go_on log at [] (range ∷ all) place end a b less =
    let last = ranges_end log (at + range_size range) all end b.1 in
    (range, subst (λ (n : ℕ). IsRangeAt log n range) a b.0, omega (arith, a, last))
ranges_go_on log at (one ∷ done) (two ∷ all) place end a b less =
    let same : one ≡ two = range_unique log at one two a.0 b.0 in
    ranges_go_on log (at + range_size one) done all place end a.1 (subst (λ (r : Range). AreRangesAt log (at + range_size r) all end) (sym same) b.1) (omega arith)

-- as many ranges from one place end at one place
ranges_end_same : (log : Area) (at : ℕ) (one two : List Range) (place end : ℕ) → AreRangesAt log at one place → AreRangesAt log at two end → length one ≡ length two → place ≡ end
ranges_end_same log at [] [] place end a b same = sym a ∙ b
ranges_end_same log at [] (range ∷ two) place end a b same = absurd (omega (arith, same))
ranges_end_same log at (range ∷ one) [] place end a b same = absurd (omega (arith, same))
ranges_end_same log at (first ∷ one) (other ∷ two) place end a b same =
    let head : first ≡ other = range_unique log at first other a.0 b.0 in
    ranges_end_same log (at + range_size first) one two place end a.1 (subst (λ (r : Range). AreRangesAt log (at + range_size r) two end) (sym head) b.1) (omega (arith, same))

-- no group has a range where none stands
pub fill_stops : (log : Area) (at place end count total : ℕ) → Fill log at place count → count < total
    → ((range : Range) → IsRangeAt log place range → place + range_size range ≤ end → ⊥) → Fill log at end total → ⊥
fill_stops log at place end count total done less none all =
    let next = ranges_go_on log at done.ranges all.ranges place end done.stand all.stand (omega (arith, done.count_is, all.count_is)) in
    none next.0 next.1 next.2

-- once all ranges are read, they fill the payload just where they end at its end
pub fill_answers : (at end count place : ℕ) (old new : Meaning) → (IsTrue new.tells → Fill (old.content Log) at place count) → FillsPayload (Ok (eqb place end)) at end count old new
fill_answers at end count place old new read =
    ⊎_elim
    (λ yes. subst (λ (b : Bool). FillsPayload (Ok b) at end count old new) (sym yes.0) (λ t. subst (λ (n : ℕ). Fill (old.content Log) at n count) yes.1 (read t)))
    (λ no. subst (λ (b : Bool). FillsPayload (Ok b) at end count old new) (sym no.0) (λ t all. no.1 (ranges_end_same (old.content Log) at (read t).ranges all.ranges place end (read t).stand all.stand (sym (read t).count_is ∙ all.count_is))))
    (eqb_tells place end)

-- the same over a look at the next range
module _ (old mid new : Meaning) (earlier : Looks old mid) (now : Looks mid new) where
  pub fill_step : (at place count : ℕ) (read : RangeAt) → (IsTrue mid.tells → Fill (old.content Log) at place count) → (IsTrue new.tells → IsRead (mid.content Log) place read)
      → IsTrue new.tells → Fill (old.content Log) at read.next (count + 1)
  fill_step at place count read so_far found t =
      let told = now.leaves.told t in
      let here = found t in
      let stands : IsRangeAt (old.content Log) place here.range = subst (λ (d : Disk). IsRangeAt (d Log) place here.range) (earlier.content told) here.stands in
      let e : place + range_size here.range ≡ read.next = omega (arith, here.next) in
      subst (λ (n : ℕ). Fill (old.content Log) at n (count + 1)) e (fill_more (old.content Log) at place count here.range (so_far told) stands)

  pub fill_ends : (at place end count total : ℕ) → (IsTrue mid.tells → Fill (old.content Log) at place count) → count < total
      → (IsTrue new.tells → (range : Range) → IsRangeAt (mid.content Log) place range → place + range_size range ≤ end → ⊥)
      → IsTrue new.tells → Fill (old.content Log) at end total → ⊥
  fill_ends at place end count total so_far less found t =
      let told = now.leaves.told t in
      fill_stops (old.content Log) at place end count total (so_far told) less
      (λ range stands. found t range (subst (λ (d : Disk). IsRangeAt (d Log) place range) (sym (earlier.content told)) stands))

  -- the chain that was read, and the next group
  pub chain_step : (at : ℕ) (group : GroupAt) → (IsTrue mid.tells → (groups : List (List Range)) × StandGroups (old.content Log) 0 groups at)
      → (IsTrue new.tells → IsPayload (mid.content Log) at group)
      → IsTrue new.tells → (groups : List (List Range)) × StandGroups (old.content Log) 0 groups (group.at + group.length)
  chain_step at group so_far found t =
      let told = now.leaves.told t in
      let done = so_far told in
      let here = found t in
      let stands : IsGroupAt (old.content Log) at here.ranges here.end = subst (λ (d : Disk). IsGroupAt (d Log) at here.ranges here.end) (earlier.content told) here.stands in (
        done.0 ++ here.ranges ∷ [],
        subst (λ (n : ℕ). StandGroups (old.content Log) 0 (done.0 ++ here.ranges ∷ []) n) (sym here.size) (groups_push (old.content Log) 0 done.0 at here.ranges here.end done.1 stands),
      )
