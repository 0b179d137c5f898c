use Rattle.std.proofs.Common.{◌≡◌, ◌≤◌, ◌*◌, take}
use Rattle.mt_rowfile.specs.Layouts.{fields_width}
use Rattle.mt_rowfile.proofs.layout.fields_width.Given as goal

abbrev pub invariant-loop-kind : goal.invariant-loop-kind
invariant-loop-kind l = record {
  sum : l.sum ≡ fields_width (take l.kind-index l.kinds);
  short : l.sum ≤ 258 * l.kind-index;
}
