use Rattle.std.proofs.Common.{◌≡◌, ℕ, ◌-◌, ◌+◌, length}
use Rattle.mt_private.specs.Seen.{list_at}
use Rattle.mt_private.proofs.insert.reach.Given as goal

abbrev pub invariant-loop-alloc : goal.invariant-loop-alloc
invariant-loop-alloc l = (other : ℕ) → list_at l.lists other ≡ list_at l.initial.lists other

abbrev pub decreases-loop-alloc : goal.decreases-loop-alloc
decreases-loop-alloc l = l.base + 1 - length l.lists
