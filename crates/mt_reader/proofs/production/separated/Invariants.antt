-- The items so far, and those that are left, are all; each iteration takes one.
use Rattle.std.proofs.Common.{length}
use Rattle.mt_lexer.specs.Tokens.{Sign}
use Rattle.mt_lexer.specs.declared.token.Symbol.TheVariants.{Comma}
use Rattle.mt_reader.specs.Descent.{separated_of}
use Rattle.mt_reader.proofs.Lists.{SoFar}
use Rattle.mt_reader.proofs.production.separated.Given as goal

abbrev pub invariant-loop-items : goal.invariant-loop-items
invariant-loop-items g l = SoFar g.P.Production.read (Sign Comma) g.P.Production.is_inside (separated_of g.P.Production.read (Sign Comma) l.fn.reader) l.reader l.items

abbrev pub decreases-loop-items : goal.decreases-loop-items
decreases-loop-items g l = length l.reader
