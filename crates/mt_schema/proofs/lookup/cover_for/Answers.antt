-- Each column is of one sort.
use Rattle.std.proofs.Common.{arith}
use Rattle.mt_schema.proofs.Counted.{sorts_counted}
use Rattle.mt_schema.proofs.lookup.cover_for.Goals as goal

pub cover-requires : goal.cover-requires
cover-requires c = record { few = omega (arith, sorts_counted c.args.columns.now, c.numbers_in.ensures, c.texts_in.ensures, c.requires) }
