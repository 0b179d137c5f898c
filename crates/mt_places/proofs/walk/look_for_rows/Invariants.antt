-- What is found in the slots that are left is what is found in all of them.
use Rattle.std.proofs.Common.{◌≡◌, ◌-◌, ◌*◌, ◌≤◌, Some, length}
use Rattle.mt_tables.specs.Plan.{sought}
use Rattle.mt_tables.specs.Rows.{row_with}
use Rattle.mt_places.specs.Walked.{slots_by, slots_from}
use Rattle.mt_places.proofs.walk.look_for_rows.Given as goal

abbrev pub invariant-loop-number : goal.invariant-loop-number
invariant-loop-number l = record {
  room : l.width * (l.count - l.number) ≤ length l.rest;
  found : sought (row_with (Some l.fn.layout)) (slots_from l.width l.fn.table l.fn.page l.number (l.count - l.number) l.rest) l.rows ≡ sought (row_with (Some l.fn.layout)) (slots_by l.fn.layout l.fn.table l.fn.page l.fn.bytes) l.fn.rows;
}
