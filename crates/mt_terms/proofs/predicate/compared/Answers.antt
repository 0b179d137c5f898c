-- Both atoms are kept.
use Rattle.std.proofs.Common.{pos, Some, List, refl, sym, ap, ◌∙◌}
use Rattle.std.specs.Option.{option_map, option_and_then}
use Rattle.mt_lexer.specs.Tokens.{Lexeme}
use Rattle.mt_tree.specs.declared.expression.Atom.{Atom}
use Rattle.mt_tree.specs.declared.expression.Cond.TheVariants as cond
use Rattle.mt_reader.specs.Taken.{Took}
use Rattle.mt_terms.specs.Descent.{atom_of, compared_of, int_atom}
use Rattle.mt_terms.specs.Inside.{IsAtomInside}
use Rattle.mt_terms.proofs.Inside.{keeps_compare}
use Rattle.mt_terms.proofs.Integers.{number_atom}
use Rattle.mt_terms.proofs.predicate.compared.Goals as goal

pub returns-in_default : goal.returns-in_default
returns-in_default c = λ a keeps.
    let pair = c.in_ok-atoms.ensures.read in
    let right : Took IsAtomInside pair.0 c.atom.new.reader (atom_of c.integer.new.reader) = rw pair.1 at c.atom.ensures in
    record {
      tree = cond.Compare c.args.op a right.tree;
      reads =
          ap (compared_of c.args.op a) (sym c.in_default.ensures.none)
          ∙ ap (option_and_then (λ (right : Atom × List Lexeme). Some (cond.Compare c.args.op a right.0, right.1))) right.reads;
      keeps = rw (c.compares.ensures, pair.2) (keeps_compare c.args.op c.args.left a pair.0 right.tree keeps right.keeps);
    }

pub returns : goal.returns
returns c = λ a keeps.
    let number = c.in-Some.ensures.some in
    record {
      tree = cond.Compare c.args.op a (int_atom (pos number.number));
      reads = rw (number_atom c.args.reader.now c.integer.new.reader number.number number.reads) refl;
      keeps =
          rw (c.compares-2.ensures, c.zip.ensures, c.integer_atom.ensures)
          (keeps_compare c.args.op c.args.left a (option_map int_atom c.in-Some.number) (int_atom (pos number.number)) keeps number.keeps);
    }
