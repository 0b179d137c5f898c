use Rattle.std.proofs.Common.{◌≡◌, map, take}
use Rattle.mt_model.specs.Database.{with_nulls}
use Rattle.mt_private.proofs.extend.widened.Given as goal

abbrev pub invariant-loop-row : goal.invariant-loop-row
invariant-loop-row l = l.wide ≡ map (with_nulls l.count) (take l.row-index l.rows)
