use Rattle.std.proofs.Common.{◌≡◌, ◌++◌}
use Rattle.std.specs.Prelude.{replicate}
use Rattle.mt_value.specs.declared.value.Value.TheVariants as kinds
use Rattle.mt_private.proofs.extend.values_with_nulls.Given as goal

abbrev pub invariant-loop-column : goal.invariant-loop-column
invariant-loop-column l = l.wide ≡ l.values ++ replicate l._column kinds.Null
