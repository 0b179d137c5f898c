-- The forms as functions, which read lexemes from the left: the tree, and the lexemes behind it.
use Rattle.std.specs.Prelude.{ℕ, ℤ, zero, suc, Bool, true, false, ◌||◌, if◌then◌else◌, Option, Some, None, is_some, List, [], ◌∷◌, length, drop, codes}
use Rattle.mt_lexer.specs.declared.token.Symbol.{Symbol}
use Rattle.mt_lexer.specs.declared.token.Symbol.TheVariants as symbol
use Rattle.mt_value.specs.declared.truth.Cmp.{Cmp}
use Rattle.mt_value.specs.declared.truth.Cmp.TheVariants.{Eq, Ne, Lt, Le, Gt, Ge}
use Rattle.mt_lexer.specs.Tokens.{Lexeme, Word, Sign}
use Rattle.mt_tree.specs.declared.name.ColName.{ColName}
use Rattle.mt_tree.specs.declared.expression.Literal.TheVariants.{Int}
use Rattle.mt_tree.specs.declared.expression.Agg.{Agg}
use Rattle.mt_tree.specs.declared.expression.Agg.TheVariants as agg
use Rattle.mt_tree.specs.declared.expression.Atom.{Atom}
use Rattle.mt_tree.specs.declared.expression.Atom.TheVariants as atom
use Rattle.mt_tree.specs.declared.expression.Expr.{Expr}
use Rattle.mt_tree.specs.declared.expression.Expr.TheVariants as expr
use Rattle.mt_tree.specs.declared.expression.Term.{Term}
use Rattle.mt_tree.specs.declared.expression.Cond.{Cond}
use Rattle.mt_tree.specs.declared.expression.Cond.TheVariants as cond
use Rattle.mt_reader.specs.Descent.{◌>>=◌, after, name_of, literal_of, begins_with_name, begins_with_word, first_symbol, with_front, either, separated_of, joined_of, closed_of, bracketed_of}
use Rattle.mt_terms.specs.declared.test.Test.{Test}
use Rattle.mt_terms.specs.declared.test.Test.TheVariants as test

-- behind a name and a dot, a name
abbrev pub dotted_of : List ℕ → List Lexeme → Option (ColName × List Lexeme)
dotted_of qualifier lexemes = do
  name ← name_of lexemes
  Some (record { qualifier = Some qualifier; name = name.0 }, name.1)

-- a name, or two with a dot between
unfoldable pub column_of : List Lexeme → Option (ColName × List Lexeme)
column_of lexemes = do
  name ← name_of lexemes
  either (after (Sign symbol.Dot) name.1) (dotted_of name.0) (Some (record { qualifier = None; name = name.0 }, name.1))

-- behind the word of a function
abbrev pub called_of : (ColName → Agg) → List Lexeme → Option (Agg × List Lexeme)
called_of function lexemes = do
  column ← bracketed_of column_of lexemes
  Some (function column.0, column.1)

-- behind COUNT, a bracket and the star
abbrev pub all_counted_of : List Lexeme → Option (Agg × List Lexeme)
all_counted_of lexemes = do
  rest ← after (Sign symbol.Close) lexemes
  Some (agg.CountAll, rest)

-- behind COUNT and a bracket, a column
abbrev pub column_counted_of : List Lexeme → Option (Agg × List Lexeme)
column_counted_of lexemes = do
  column ← closed_of column_of lexemes
  Some (agg.Count column.0, column.1)

-- behind COUNT
unfoldable pub counted_of : List Lexeme → Option (Agg × List Lexeme)
counted_of lexemes = do
  open_ ← after (Sign symbol.Open) lexemes
  either (after (Sign symbol.Star) open_) all_counted_of (column_counted_of open_)

-- where no other comes, a MAX
abbrev pub max_of : List Lexeme → Option (Agg × List Lexeme)
max_of lexemes = do
  rest ← after (Word (codes "max")) lexemes
  called_of agg.Max rest

-- an aggregate
unfoldable pub agg_of : List Lexeme → Option (Agg × List Lexeme)
agg_of lexemes =
    either (after (Word (codes "count")) lexemes) counted_of
    (either (after (Word (codes "sum")) lexemes) (called_of agg.Sum)
    (either (after (Word (codes "min")) lexemes) (called_of agg.Min)
    (max_of lexemes)))

-- what a name begins
unfoldable pub column_atom_of : List Lexeme → Option (Atom × List Lexeme)
column_atom_of lexemes = do
  column ← column_of lexemes
  Some (atom.Column column.0, column.1)

-- a literal
unfoldable pub literal_atom_of : List Lexeme → Option (Atom × List Lexeme)
literal_atom_of lexemes = do
  literal ← literal_of lexemes
  Some (atom.Literal literal.0, literal.1)

-- a number, as an atom
abbrev pub int_atom : ℤ → Atom
int_atom z = atom.Literal (Int z)

-- an aggregate, as an atom
abbrev pub agg_atom_of : List Lexeme → Option (Atom × List Lexeme)
agg_atom_of lexemes = do
  found ← agg_of lexemes
  Some (atom.Agg found.0, found.1)

-- what a reserved word begins: NULL, or an aggregate
unfoldable pub reserved_atom_of : List Lexeme → Option (Atom × List Lexeme)
reserved_atom_of lexemes = if is_some (after (Word (codes "null")) lexemes) then literal_atom_of lexemes else agg_atom_of lexemes

-- whether a reserved word comes first that begins an atom
abbrev pub begins_reserved_atom : List Lexeme → Bool
begins_reserved_atom lexemes =
    is_some (after (Word (codes "null")) lexemes)
    || is_some (after (Word (codes "count")) lexemes)
    || is_some (after (Word (codes "sum")) lexemes)
    || is_some (after (Word (codes "min")) lexemes)
    || is_some (after (Word (codes "max")) lexemes)

-- an atom, by its first lexeme
unfoldable pub atom_of : List Lexeme → Option (Atom × List Lexeme)
atom_of lexemes =
    if begins_with_name lexemes then column_atom_of lexemes
    else (if begins_with_word lexemes then reserved_atom_of lexemes else literal_atom_of lexemes)

-- an atom by itself
unfoldable pub alone_of : List Lexeme → Option (Expr × List Lexeme)
alone_of lexemes = do
  found ← atom_of lexemes
  Some (expr.Atom found.0, found.1)

-- a factor, or factors with stars between
unfoldable pub term_of : (List Lexeme → Option (Expr × List Lexeme)) → List Lexeme → Option (Expr × List Lexeme)
term_of factor lexemes = joined_of factor (Sign symbol.Star) expr.Product lexemes

-- whether a symbol is the sign of a minus, or of a plus
abbrev pub minus_of : Symbol → Option Bool
minus_of symbol.Plus = Some false
minus_of symbol.Minus = Some true
minus_of other = None

-- a plus or a minus; whether it is a minus
unfoldable pub sign_of : List Lexeme → Option (Bool × List Lexeme)
sign_of lexemes = do
  sign ← first_symbol lexemes
  minus ← minus_of sign
  Some (minus, drop 1 lexemes)

-- no more members where no sign comes
abbrev pub tail_behind : (List Lexeme → Option (Expr × List Lexeme)) → (List Lexeme → Option (List Term × List Lexeme)) → Option (Bool × List Lexeme) → List Lexeme → Option (List Term × List Lexeme)
tail_behind term more None lexemes = Some ([], lexemes)
tail_behind term more (Some sign) lexemes = do
  found ← term sign.1
  with_front (record { minus = sign.0; expr = found.0 } ∷ []) (more found.1)

-- more members of a sum, as many as fuel at most
abbrev pub tail_of : (List Lexeme → Option (Expr × List Lexeme)) → ℕ → List Lexeme → Option (List Term × List Lexeme)
tail_of term zero lexemes = Some ([], lexemes)
tail_of term (suc fuel) lexemes = tail_behind term (tail_of term fuel) (sign_of lexemes) lexemes

-- all members of a sum
unfoldable pub terms_of : (List Lexeme → Option (Expr × List Lexeme)) → List Lexeme → Option (List Term × List Lexeme)
terms_of term lexemes = do
  first ← term lexemes
  with_front (record { minus = false; expr = first.0 } ∷ []) (tail_of term (length first.1) first.1)

-- one member is itself
abbrev pub sum_tree : List Term → Expr
sum_tree [] = expr.Sum []
sum_tree (t ∷ []) = t.expr
sum_tree (t ∷ u ∷ us) = expr.Sum (t ∷ u ∷ us)

-- a term, or terms with signs between
unfoldable pub sum_of : (List Lexeme → Option (Expr × List Lexeme)) → List Lexeme → Option (Expr × List Lexeme)
sum_of factor lexemes = do
  terms ← terms_of (term_of factor) lexemes
  Some (sum_tree terms.0, terms.1)

-- a factor, with so many brackets about one another at most
unfoldable pub factor_of : ℕ → List Lexeme → Option (Expr × List Lexeme)
factor_of zero lexemes = alone_of lexemes
factor_of (suc depth) lexemes = either (after (Sign symbol.Open) lexemes) (closed_of (sum_of (factor_of depth))) (alone_of lexemes)

-- an expression
unfoldable pub expr_of : List Lexeme → Option (Expr × List Lexeme)
expr_of lexemes = sum_of (factor_of 64) lexemes

-- tests

-- the comparison that a symbol stands for
abbrev pub cmp_of : Symbol → Option Cmp
cmp_of symbol.Equal = Some Eq
cmp_of symbol.NotEqual = Some Ne
cmp_of symbol.Less = Some Lt
cmp_of symbol.LessEqual = Some Le
cmp_of symbol.Greater = Some Gt
cmp_of symbol.GreaterEqual = Some Ge
cmp_of other = None

-- a sign that compares
unfoldable pub compare_of : List Lexeme → Option (Cmp × List Lexeme)
compare_of lexemes = do
  sign ← first_symbol lexemes
  op ← cmp_of sign
  Some (op, drop 1 lexemes)

-- behind IN
unfoldable pub member_of : Bool → List Lexeme → Option (Test × List Lexeme)
member_of negated lexemes = do
  list ← bracketed_of (separated_of atom_of (Sign symbol.Comma)) lexemes
  Some (test.Member negated list.0, list.1)

-- behind BETWEEN
unfoldable pub between_of : Bool → List Lexeme → Option (Test × List Lexeme)
between_of negated lexemes = do
  low ← atom_of lexemes
  and_ ← after (Word (codes "and")) low.1
  high ← atom_of and_
  Some (test.Between negated low.0 high.0, high.1)

-- behind LIKE
unfoldable pub like_of : Bool → List Lexeme → Option (Test × List Lexeme)
like_of negated lexemes = do
  pattern ← atom_of lexemes
  Some (test.Like negated pattern.0, pattern.1)

-- where no other comes, a LIKE
abbrev pub liked_of : Bool → List Lexeme → Option (Test × List Lexeme)
liked_of negated lexemes = do
  rest ← after (Word (codes "like")) lexemes
  like_of negated rest

-- IN, BETWEEN or LIKE
unfoldable pub worded_of : Bool → List Lexeme → Option (Test × List Lexeme)
worded_of negated lexemes =
    either (after (Word (codes "in")) lexemes) (member_of negated)
    (either (after (Word (codes "between")) lexemes) (between_of negated)
    (liked_of negated lexemes))

-- the NULL of a test
abbrev pub null_of : Bool → List Lexeme → Option (Test × List Lexeme)
null_of negated lexemes = do
  rest ← after (Word (codes "null")) lexemes
  Some (test.IsNull negated, rest)

-- behind IS, NULL or NOT NULL
unfoldable pub tested_of : List Lexeme → Option (Test × List Lexeme)
tested_of lexemes = either (after (Word (codes "not")) lexemes) (null_of true) (null_of false lexemes)

-- what begins with a word
unfoldable pub said_of : List Lexeme → Option (Test × List Lexeme)
said_of lexemes =
    either (after (Word (codes "is")) lexemes) tested_of
    (either (after (Word (codes "not")) lexemes) (worded_of true)
    (worded_of false lexemes))

-- conditions

-- an atom with what is said of it
abbrev pub cond_with : Atom → Test → Cond
cond_with atom (test.Member negated list) = cond.Member negated atom list
cond_with atom (test.Between negated low high) = cond.Between negated atom low high
cond_with atom (test.Like negated pattern) = cond.Like negated atom pattern
cond_with atom (test.IsNull negated) = cond.IsNull negated atom

-- a comparison with this atom, behind its sign
abbrev pub compared_of : Cmp → Atom → List Lexeme → Option (Cond × List Lexeme)
compared_of op atom lexemes = do
  right ← atom_of lexemes
  Some (cond.Compare op atom right.0, right.1)

-- what else is said of this atom
abbrev pub said_with : Atom → List Lexeme → Option (Cond × List Lexeme)
said_with atom lexemes = do
  said ← said_of lexemes
  Some (cond_with atom said.0, said.1)

-- behind the first atom: a sign that compares, or a word
abbrev pub tested_behind : Atom → Option (Cmp × List Lexeme) → List Lexeme → Option (Cond × List Lexeme)
tested_behind atom (Some sign) lexemes = compared_of sign.0 atom sign.1
tested_behind atom None lexemes = said_with atom lexemes

-- a predicate
unfoldable pub plain_of : List Lexeme → Option (Cond × List Lexeme)
plain_of lexemes = do
  found ← atom_of lexemes
  tested_behind found.0 (compare_of found.1) found.1

-- one condition, or more with AND between
unfoldable pub and_of : (List Lexeme → Option (Cond × List Lexeme)) → List Lexeme → Option (Cond × List Lexeme)
and_of neg lexemes = joined_of neg (Word (codes "and")) cond.And lexemes

-- one of those, or more with OR between
unfoldable pub or_of : (List Lexeme → Option (Cond × List Lexeme)) → List Lexeme → Option (Cond × List Lexeme)
or_of neg lexemes = joined_of (and_of neg) (Word (codes "or")) cond.Or lexemes

-- behind NOT
abbrev pub denied_of : (List Lexeme → Option (Cond × List Lexeme)) → List Lexeme → Option (Cond × List Lexeme)
denied_of neg lexemes = do
  inner ← neg lexemes
  Some (cond.Not inner.0, inner.1)

-- NOT, and a condition behind it
unfoldable pub not_of : (List Lexeme → Option (Cond × List Lexeme)) → List Lexeme → Option (Cond × List Lexeme)
not_of neg lexemes = do
  rest ← after (Word (codes "not")) lexemes
  denied_of neg rest

-- a predicate, a NOT or brackets, with so many of those about one another at most
unfoldable pub neg_of : ℕ → List Lexeme → Option (Cond × List Lexeme)
neg_of zero lexemes = plain_of lexemes
neg_of (suc depth) lexemes =
    either (after (Word (codes "not")) lexemes) (denied_of (neg_of depth))
    (either (after (Sign symbol.Open) lexemes) (closed_of (or_of (neg_of depth)))
    (plain_of lexemes))

-- a condition
unfoldable pub cond_of : List Lexeme → Option (Cond × List Lexeme)
cond_of lexemes = or_of (neg_of 64) lexemes
