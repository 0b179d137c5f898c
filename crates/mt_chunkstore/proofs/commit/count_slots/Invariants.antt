use Rattle.std.proofs.Common.{◌≡◌, ℕ, cond, slice_index}
use Rattle.std.specs.Prelude.{nat_lt}
use Rattle.mt_staging.specs.States.{group_of}
use Rattle.mt_chunkstore.specs.Standing.{used_after}
use Rattle.mt_chunkstore.proofs.commit.count_slots.Given as goal

-- the tables so far are counted, and the others are as they were
abbrev pub invariant-loop-table : goal.invariant-loop-table
invariant-loop-table l = (t : ℕ) → slice_index l.used t
    ≡ cond (nat_lt t l.table) (used_after (slice_index l.fn.used t) ((group_of l.fn.group).taken t) ((group_of l.fn.group).freed t)) (slice_index l.fn.used t)
