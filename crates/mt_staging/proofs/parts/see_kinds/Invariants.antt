use Rattle.std.proofs.Common.{take}
use Rattle.mt_rowfile.specs.Fields.{AreKinds}
use Rattle.mt_staging.proofs.parts.see_kinds.Given as goal

abbrev pub invariant-loop-kind : goal.invariant-loop-kind
invariant-loop-kind l = AreKinds (take l.kind-index l.kinds)
