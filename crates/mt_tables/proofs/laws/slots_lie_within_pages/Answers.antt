-- By the layout of each table.
use Rattle.mt_tables.proofs.Sizes.{sizes_sound}
use Rattle.mt_tables.proofs.laws.slots_lie_within_pages.Goals as goal

pub returns : goal.returns
returns c = sizes_sound
