use Rattle.std.proofs.Common.{◌≡◌, length, take}
use Rattle.mt_rowfile.specs.Fields.{fields_bytes}
use Rattle.mt_rowfile.specs.Layouts.{fields_width}
use Rattle.mt_rowfile.proofs.fields.write_fields.Given as goal

abbrev pub invariant-loop-i : goal.invariant-loop-i
invariant-loop-i l = record {
  place : l.at ≡ fields_width (take l.i l.kinds);
  front : take l.at l.out ≡ fields_bytes (take l.i l.kinds) (take l.i l.values);
  size : length l.out ≡ length l.fn.out;
}
