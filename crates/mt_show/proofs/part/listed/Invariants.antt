-- The first parts are printed.
use Rattle.std.proofs.Common.{◌≡◌, ◌++◌, take, map}
use Rattle.mt_show.specs.Spaced.{spaced}
use Rattle.mt_show.specs.Statements.{listed}
use Rattle.mt_show.proofs.part.listed.Given as goal

abbrev pub invariant-loop-index : goal.invariant-loop-index
invariant-loop-index g l = l.printer ≡ l.fn.printer ++ spaced (listed (map g.T.Part.tokens (take l.index l.parts)))
