use Rattle.mt_catslot.proofs.Reading.{shape_found}
use Rattle.mt_catslot.proofs.read.read_shape.Goals as goal

pub returns : goal.returns
returns c =
    shape_found c.with_table.result c.args.byte (rw c.from.ensures at c.with_table.ensures.some) (rw c.from.ensures at c.with_table.ensures.none)
