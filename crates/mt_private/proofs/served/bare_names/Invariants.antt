use Rattle.std.proofs.Common.{◌≡◌, map}
use Rattle.mt_model.specs.Served.{bare_item}
use Rattle.mt_private.proofs.served.bare_names.Given as goal

abbrev pub invariant-loop-item : goal.invariant-loop-item
invariant-loop-item l = l.yielded ≡ map bare_item l.names
