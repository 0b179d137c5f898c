-- No page stands, and no slot.
use Rattle.mt_image.proofs.Empty.{empty_is_held}
use Rattle.mt_image.proofs.laws.empty_disks_hold_nothing.Goals as goal

pub returns : goal.returns
returns c = empty_is_held
