-- A number is read as an atom and as a factor, and what is kept of it is kept of these.
use Rattle.std.proofs.Common.{◌≡◌, ℕ, zero, suc, ℤ, pos, Option, Some, List, refl}
use Rattle.std.specs.Option.{option_map}
use Rattle.mt_lexer.specs.Tokens.{Lexeme}
use Rattle.mt_tree.specs.declared.expression.Expr.TheVariants as expr
use Rattle.mt_reader.specs.Descent.{after, number_of, literal_of}
use Rattle.mt_reader.specs.Taken.{Took}
use Rattle.mt_reader.proofs.Spelling.{number_is}
use Rattle.mt_terms.specs.Descent.{literal_atom_of, atom_of, alone_of, factor_of, int_atom}
use Rattle.mt_terms.specs.Inside.{IsExprInside, TookNumber}
use Rattle.mt_terms.proofs.Inside.{keeps_atom}

-- a number is an atom by itself
pub number_atom : (lexemes rest : List Lexeme) (n : ℕ) → number_of lexemes ≡ Some (n, rest) → atom_of lexemes ≡ Some (int_atom (pos n), rest)
unfolding atom_of literal_atom_of literal_of
number_atom lexemes rest n e = rw (number_is lexemes rest n e) refl

-- and a factor, whatever the depth
number_factor : (depth : ℕ) (lexemes rest : List Lexeme) (n : ℕ) → number_of lexemes ≡ Some (n, rest) → factor_of depth lexemes ≡ Some (expr.Atom (int_atom (pos n)), rest)
unfolding factor_of alone_of after atom_of literal_atom_of literal_of
number_factor zero lexemes rest n e = rw (number_is lexemes rest n e) refl
number_factor (suc depth) lexemes rest n e = rw (number_is lexemes rest n e) refl

-- a number was taken as a factor
pub took_factor : (depth : ℕ) (kept : Option ℤ) (lexemes left : List Lexeme) → TookNumber kept lexemes left → Took IsExprInside (option_map expr.Atom (option_map int_atom kept)) left (factor_of depth lexemes)
took_factor depth kept lexemes left t = record {
  tree = expr.Atom (int_atom (pos t.number));
  reads = number_factor depth lexemes left t.number t.reads;
  keeps = keeps_atom (option_map int_atom kept) (int_atom (pos t.number)) t.keeps;
}
