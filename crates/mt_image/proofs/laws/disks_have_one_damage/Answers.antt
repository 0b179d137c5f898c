-- Each check fails in one way, and what it is asked of is one.
use Rattle.mt_image.proofs.OneImage.{one_damage}
use Rattle.mt_image.proofs.laws.disks_have_one_damage.Goals as goal

pub returns : goal.returns
returns c = one_damage
