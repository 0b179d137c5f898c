use Rattle.std.proofs.Common.{◌≡◌, map}
use Rattle.mt_model.specs.Tables.{value_of}
use Rattle.mt_private.proofs.insert.row_of.Given as goal

abbrev pub invariant-loop-literal : goal.invariant-loop-literal
invariant-loop-literal l = l.row ≡ map value_of l.yielded
