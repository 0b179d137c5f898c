use Rattle.std.proofs.Common.{◌≡◌, take}
use Rattle.mt_model.specs.Answer.{projected}
use Rattle.mt_private.proofs.select.projected.Given as goal

abbrev pub invariant-loop-place : goal.invariant-loop-place
invariant-loop-place l = l.values ≡ projected (take l.place-index l.places) l.row
