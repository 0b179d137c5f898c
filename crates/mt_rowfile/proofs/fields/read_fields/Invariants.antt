use Rattle.std.proofs.Common.{◌≡◌, ◌↔◌, ◌++◌, length, drop}
use Rattle.mt_rowfile.specs.Fields.{AreSpelled, values_of}
use Rattle.mt_rowfile.specs.Layouts.{fields_width}
use Rattle.mt_rowfile.proofs.fields.read_fields.Given as goal

abbrev pub invariant-loop-kind : goal.invariant-loop-kind
invariant-loop-kind l = record {
  size : length l.rest ≡ fields_width (drop l.kind-index l.kinds);
  left : AreSpelled l.kinds l.fn.bytes ↔ AreSpelled (drop l.kind-index l.kinds) l.rest;
  told : l.values ++ values_of (drop l.kind-index l.kinds) l.rest ≡ values_of l.kinds l.fn.bytes;
}
