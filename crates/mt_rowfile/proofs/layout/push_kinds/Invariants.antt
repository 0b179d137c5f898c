use Rattle.std.proofs.Common.{◌≡◌, ◌++◌, replicate}
use Rattle.mt_rowfile.proofs.layout.push_kinds.Given as goal

abbrev pub invariant-loop-i : goal.invariant-loop-i
invariant-loop-i l = l.kinds ≡ l.initial.kinds ++ replicate l._i l.kind
