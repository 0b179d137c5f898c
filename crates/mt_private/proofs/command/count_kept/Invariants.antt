use Rattle.std.proofs.Common.{◌≡◌}
use Rattle.mt_private.specs.Seen.{kept_in}
use Rattle.mt_private.proofs.command.count_kept.Given as goal

abbrev pub invariant-loop-base : goal.invariant-loop-base
invariant-loop-base l = l.kept ≡ kept_in l.lists l.base
