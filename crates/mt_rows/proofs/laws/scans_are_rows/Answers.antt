-- Entries in order of their keys are in order of Row.
use Rattle.mt_rows.proofs.ByRow.{scan_by_row}
use Rattle.mt_rows.proofs.laws.scans_are_rows.Goals as goal

pub returns : goal.returns
returns c = scan_by_row
