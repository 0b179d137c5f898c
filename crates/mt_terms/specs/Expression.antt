-- Expressions. Brackets are the one thing that nests, and a depth counts them.
use Rattle.std.specs.Prelude.{◌≡◌, ◌⊎◌, ℕ, zero, suc, Bool, true, false, List, [], ◌∷◌, Option, Some, None, codes}
use Rattle.mt_lexer.specs.Tokens.{Lexeme, Word, Sign}
use Rattle.mt_lexer.specs.declared.token.Symbol.TheVariants.{Open, Close, Dot, Star, Plus, Minus}
use Rattle.mt_tree.specs.declared.name.ColName.{ColName}
use Rattle.mt_tree.specs.declared.expression.Agg.{Agg}
use Rattle.mt_tree.specs.declared.expression.Agg.TheVariants.{CountAll, Count, Sum as SumOf, Min, Max}
use Rattle.mt_tree.specs.declared.expression.Atom.{Atom}
use Rattle.mt_tree.specs.declared.expression.Atom.TheVariants as atom
use Rattle.mt_tree.specs.declared.expression.Expr.{Expr}
use Rattle.mt_tree.specs.declared.expression.Expr.TheVariants as expr
use Rattle.mt_tree.specs.declared.expression.Term.{Term}
use Rattle.mt_reader.specs.Forms.{Form, Joined, Bracketed, Behind, Parts}
use Rattle.mt_reader.specs.Literals.{SpellsLiteral}
use Rattle.mt_reader.specs.Names.{IsName}

-- name ['.' name]
abbrev pub SpellsNamed : List Lexeme → Option (List ℕ) → List ℕ → Type 0
SpellsNamed tokens None name = IsName tokens name
SpellsNamed tokens (Some qualifier) name = Parts (λ front. IsName front qualifier) (λ back. Behind (Sign Dot ∷ []) IsName back name) tokens

-- a column, as it is named
abbrev pub SpellsColumn : List Lexeme → ColName → Type 0
SpellsColumn tokens column = SpellsNamed tokens column.qualifier column.name

-- the word of a function, and a column in brackets
abbrev pub Called : List ℕ → List Lexeme → ColName → Type 0
Called function tokens column = Behind (Word function ∷ []) (Bracketed SpellsColumn) tokens column

-- COUNT '(' '*' ')' | (COUNT | SUM | MIN | MAX) '(' column ')'
abbrev pub SpellsAgg : List Lexeme → Agg → Type 0
SpellsAgg tokens CountAll = tokens ≡ Word (codes "count") ∷ Sign Open ∷ Sign Star ∷ Sign Close ∷ []
SpellsAgg tokens (Count column) = Called (codes "count") tokens column
SpellsAgg tokens (SumOf column) = Called (codes "sum") tokens column
SpellsAgg tokens (Min column) = Called (codes "min") tokens column
SpellsAgg tokens (Max column) = Called (codes "max") tokens column

-- column | literal | agg
abbrev pub SpellsAtom : List Lexeme → Atom → Type 0
SpellsAtom tokens (atom.Column column) = SpellsColumn tokens column
SpellsAtom tokens (atom.Literal literal) = SpellsLiteral tokens literal
SpellsAtom tokens (atom.Agg agg) = SpellsAgg tokens agg

-- an atom as an expression
abbrev pub SpellsAtomAlone : List Lexeme → Expr → Type 0
SpellsAtomAlone tokens e = (a : Atom) × (e ≡ expr.Atom a) × SpellsAtom tokens a

-- factor {'*' factor}
abbrev pub SpellsTerm : Form Expr → List Lexeme → Expr → Type 0
SpellsTerm factor tokens e = Joined factor (Sign Star) expr.Product tokens e

-- the sign before a member of a sum
abbrev pub sign_of : Bool → Lexeme
sign_of true = Sign Minus
sign_of false = Sign Plus

-- {('+' | '-') term}
abbrev pub SpellsTail : Form Expr → List Lexeme → List Term → Type 0
SpellsTail term tokens [] = tokens ≡ []
SpellsTail term tokens (t ∷ ts) = Parts (λ front. Behind (sign_of t.minus ∷ []) term front t.expr) (λ back. SpellsTail term back ts) tokens

-- a term, and one or more behind it
pub record IsSum (term : Form Expr) (tokens : List Lexeme) (e : Expr) : Type 0 where
  pub first : Expr
  pub second : Term
  pub others : List Term
  pub sum : e ≡ expr.Sum (record { minus = false; expr = first } ∷ second ∷ others)
  pub parts : Parts (λ front. term front first) (λ back. SpellsTail term back (second ∷ others)) tokens

-- term {('+' | '-') term}
abbrev pub SpellsSum : Form Expr → List Lexeme → Expr → Type 0
SpellsSum factor tokens e = SpellsTerm factor tokens e ⊎ IsSum (SpellsTerm factor) tokens e

-- atom | '(' expr ')', with so many brackets about one another at most
abbrev pub SpellsFactor : ℕ → List Lexeme → Expr → Type 0
SpellsFactor zero tokens e = SpellsAtomAlone tokens e
SpellsFactor (suc depth) tokens e = SpellsAtomAlone tokens e ⊎ Bracketed (SpellsSum (SpellsFactor depth)) tokens e

-- an expression, with 64 brackets about one another at most
unfoldable pub SpellsExpr : List Lexeme → Expr → Type 0
SpellsExpr tokens e = SpellsSum (SpellsFactor 64) tokens e
