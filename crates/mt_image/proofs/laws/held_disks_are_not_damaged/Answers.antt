-- Each check is passed.
use Rattle.mt_image.proofs.OneImage.{not_damaged}
use Rattle.mt_image.proofs.laws.held_disks_are_not_damaged.Goals as goal

pub returns : goal.returns
returns c = not_damaged
