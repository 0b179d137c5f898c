-- Contents with one slot at each place are one.
use Rattle.mt_rows.proofs.Changed.{applied_is_all}
use Rattle.mt_rows.proofs.laws.applied_changes_are_changes.Goals as goal

pub returns : goal.returns
returns c = applied_is_all
