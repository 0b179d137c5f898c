-- The literals of a tree. A tree is inside 64 bits where each of them is.
use Rattle.std.specs.Prelude.{◌≡◌, ℕ, ℤ, pos, Bool, Option, Some, option_map, Result, Ok, Err, List, [], ◌∷◌, ◌++◌, All, flat_map}
use Rattle.mt_tree.specs.declared.expression.Literal.{Literal}
use Rattle.mt_tree.specs.declared.expression.Atom.{Atom}
use Rattle.mt_tree.specs.declared.expression.Atom.TheVariants as atom
use Rattle.mt_tree.specs.declared.expression.Expr.{Expr}
use Rattle.mt_tree.specs.declared.expression.Expr.TheOpen.{Expr-F, Term-F}
use Rattle.mt_tree.specs.declared.expression.Expr.TheFolds.{fold-Expr}
use Rattle.mt_tree.specs.declared.expression.Term.{Term}
use Rattle.mt_tree.specs.declared.expression.Cond.{Cond}
use Rattle.mt_tree.specs.declared.expression.Cond.TheOpen.{Cond-F}
use Rattle.mt_tree.specs.declared.expression.Cond.TheFolds.{fold-Cond}
use Rattle.mt_terms.specs.declared.test.Test.{Test}
use Rattle.mt_terms.specs.declared.test.Test.TheVariants as test
use Rattle.mt_lexer.specs.Tokens.{Lexeme}
use Rattle.mt_reader.specs.declared.fault.ReadFault.{ReadFault}
use Rattle.mt_reader.specs.Literals.{IsLiteralInside}
use Rattle.mt_reader.specs.Descent.{number_of, pushed}
use Rattle.mt_reader.specs.Taken.{Keeps, Fails, Took}
use Rattle.mt_terms.specs.Descent.{int_atom}

-- the literal that an atom is
abbrev pub atom_literals : Atom → List Literal
atom_literals (atom.Column column) = []
atom_literals (atom.Literal literal) = literal ∷ []
atom_literals (atom.Agg agg) = []

-- the lists, one after another
abbrev pub joined : List (List Literal) → List Literal
joined lists = flat_map (λ list. list) lists

-- of one level of an expression, with the literals of its members
abbrev pub expr_step : Expr-F (List Literal) (List Literal) → List Literal
expr_step (Expr-F.Atom a) = atom_literals a
expr_step (Expr-F.Sum terms) = joined terms
expr_step (Expr-F.Product members) = joined members

-- of one member of a sum
abbrev pub term_step : Term-F (List Literal) (List Literal) → List Literal
term_step term = term.expr

-- from left to right
unfoldable pub expr_literals : Expr → List Literal
expr_literals e = fold-Expr (List Literal) (List Literal) expr_step term_step e

-- each number of an atom is inside 64 bits
abbrev pub IsAtomInside : Atom → Type 0
IsAtomInside a = All IsLiteralInside (atom_literals a)

-- each number of an expression is inside 64 bits
abbrev pub IsExprInside : Expr → Type 0
IsExprInside e = All IsLiteralInside (expr_literals e)

-- each number of a member of a sum is inside 64 bits
abbrev pub IsTermInside : Term → Type 0
IsTermInside t = IsExprInside t.expr

-- the literals of what is said of an atom
abbrev pub test_literals : Test → List Literal
test_literals (test.Member negated list) = flat_map atom_literals list
test_literals (test.Between negated low high) = atom_literals low ++ atom_literals high
test_literals (test.Like negated pattern) = atom_literals pattern
test_literals (test.IsNull negated) = []

-- each number of what is said of an atom is inside 64 bits
abbrev pub IsTestInside : Test → Type 0
IsTestInside t = All IsLiteralInside (test_literals t)

-- of one level of a condition, with the literals of its members
abbrev pub cond_step : Cond-F (List Literal) → List Literal
cond_step (Cond-F.Or members) = joined members
cond_step (Cond-F.And members) = joined members
cond_step (Cond-F.Not inner) = inner
cond_step (Cond-F.Compare op left right) = atom_literals left ++ atom_literals right
cond_step (Cond-F.Member negated atom list) = atom_literals atom ++ flat_map atom_literals list
cond_step (Cond-F.Between negated atom low high) = atom_literals atom ++ (atom_literals low ++ atom_literals high)
cond_step (Cond-F.Like negated atom pattern) = atom_literals atom ++ atom_literals pattern
cond_step (Cond-F.IsNull negated atom) = atom_literals atom

-- from left to right
unfoldable pub cond_literals : Cond → List Literal
cond_literals c = fold-Cond (List Literal) cond_step c

-- each number of a condition is inside 64 bits
abbrev pub IsCondInside : Cond → Type 0
IsCondInside c = All IsLiteralInside (cond_literals c)

-- A number was taken, and this is kept of it.
pub record TookNumber (kept : Option ℤ) (tokens left : List Lexeme) : Type 0 where
  pub number : ℕ
  pub reads : number_of tokens ≡ Some (number, left)
  pub keeps : Keeps IsAtomInside (option_map int_atom kept) (int_atom (pos number))

-- A term was taken behind a sign, and stands behind the others that are kept.
pub record AddedTerm (minus : Bool) (old new : Option (List Term)) (left : List Lexeme) (read : Option (Expr × List Lexeme)) : Type 0 where
  pub kept : Option Expr
  pub took : Took IsExprInside kept left read
  pub added : new ≡ pushed old (option_map (λ e. record { minus = minus; expr = e }) kept)

-- It was added, or none is read.
abbrev pub AddsTerm : {U : Type 0} → Bool → Result U ReadFault → Option (List Term) → Option (List Term) → List Lexeme → Option (Expr × List Lexeme) → Type 0
AddsTerm minus (Ok u) old new left read = AddedTerm minus old new left read
AddsTerm minus (Err e) old new left read = Fails e read

-- A condition was taken, and stands behind the others that are kept.
pub record AddedMember (old new : Option (List Cond)) (left : List Lexeme) (read : Option (Cond × List Lexeme)) : Type 0 where
  pub kept : Option Cond
  pub took : Took IsCondInside kept left read
  pub added : new ≡ pushed old kept

-- It was added, or none is read.
abbrev pub AddsMember : {U : Type 0} → Result U ReadFault → Option (List Cond) → Option (List Cond) → List Lexeme → Option (Cond × List Lexeme) → Type 0
AddsMember (Ok u) old new left read = AddedMember old new left read
AddsMember (Err e) old new left read = Fails e read
