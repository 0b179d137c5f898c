-- The positions so far, and those of the slots that are left.
use Rattle.std.proofs.Common.{◌≡◌, ◌-◌, ◌++◌, map}
use Rattle.std.specs.List.{range_with_len}
use Rattle.mt_tables.specs.Pages.{slot_position}
use Rattle.mt_places.specs.Walked.{positions_by}
use Rattle.mt_places.proofs.walk.page_positions.Given as goal

abbrev pub invariant-loop-number : goal.invariant-loop-number
invariant-loop-number l = l.positions.items ++ map (slot_position l.width l.fn.page) (range_with_len l.number (l.count - l.number)) ≡ positions_by l.fn.layout l.fn.page
