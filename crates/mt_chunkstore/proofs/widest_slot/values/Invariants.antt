use Rattle.std.proofs.Common.{◌≡◌, replicate}
use Rattle.mt_value.specs.declared.value.Value.TheVariants.{Null}
use Rattle.mt_chunkstore.proofs.widest_slot.values.Given as goal

-- one NULL for each turn
abbrev pub invariant-loop-null : goal.invariant-loop-null
invariant-loop-null l = l.values ≡ replicate l._null Null
