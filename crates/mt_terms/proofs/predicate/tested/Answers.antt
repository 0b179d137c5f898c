-- The atom is kept, and what is said of it.
use Rattle.std.proofs.Common.{Some, List, ap}
use Rattle.std.specs.Option.{option_and_then}
use Rattle.mt_lexer.specs.Tokens.{Lexeme}
use Rattle.mt_reader.specs.Taken.{Took}
use Rattle.mt_terms.specs.declared.test.Test.{Test}
use Rattle.mt_terms.specs.Descent.{said_of, cond_with}
use Rattle.mt_terms.specs.Inside.{IsTestInside}
use Rattle.mt_terms.proofs.Inside.{keeps_with}
use Rattle.mt_terms.proofs.predicate.tested.Goals as goal

pub returns : goal.returns
returns c = λ a keeps.
    let pair = c.in_ok-parts.ensures.read in
    let test : Took IsTestInside pair.0 c.said.new.reader (said_of c.args.reader.now) = rw pair.1 at c.said.ensures in
    record {
      tree = cond_with a test.tree;
      reads = ap (option_and_then (λ (said : Test × List Lexeme). Some (cond_with a said.0, said.1))) test.reads;
      keeps = rw (c.says.ensures, pair.2) (keeps_with c.args.atom a pair.0 test.tree keeps test.keeps);
    }
