-- Both bounds are read, and kept.
use Rattle.std.specs.Option.{option_and_then}
use Rattle.std.specs.Prelude.{codes}
use Rattle.mt_lexer.specs.Tokens.{Word}
use Rattle.mt_reader.specs.Descent.{after}
use Rattle.mt_reader.specs.Taken.{Took}
use Rattle.mt_terms.specs.declared.test.Test.TheVariants as test
use Rattle.mt_terms.specs.Descent.{atom_of}
use Rattle.mt_terms.specs.Inside.{IsAtomInside}
use Rattle.mt_terms.proofs.Inside.{keeps_between}
use Rattle.mt_terms.proofs.Predicates.{between_reads}
use Rattle.mt_terms.proofs.test.between.Goals as goal

pub returns : goal.returns
returns c =
    let low = c.in_ok-low.ensures in
    let pair = c.in_ok-bounds.ensures.read in
    let high : Took IsAtomInside pair.0 c.bound.new.reader (option_and_then atom_of (after (Word (codes "and")) c.atom.new.reader)) = rw pair.1 at c.bound.ensures in
    record {
      tree = test.Between c.args.negated low.tree high.tree;
      reads = between_reads c.args.negated c.args.reader.now c.atom.new.reader c.bound.new.reader low.tree high.tree low.reads high.reads;
      keeps = rw (c.bounded.ensures, pair.2) (keeps_between c.args.negated c.in_ok-low.low low.tree pair.0 high.tree low.keeps high.keeps);
    }
