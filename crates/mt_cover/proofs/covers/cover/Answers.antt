-- By the walk over the table.
use Rattle.mt_cover.specs.Steps.{shapes_for}
use Rattle.mt_cover.proofs.covers.cover.Goals as goal

pub returns : goal.returns
unfolding shapes_for
returns c = c.shapes_for.ensures
