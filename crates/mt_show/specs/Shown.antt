-- The tokens that a statement is printed with: brackets only where the same tree needs them.
use Rattle.std.specs.Prelude.{ℕ, suc, Bool, true, false, List, [], ◌∷◌, ◌++◌, map, flat_map, Option, Some, None, ℤ, pos, negsuc, codes}
use Rattle.mt_lexer.specs.Tokens.{Lexeme, Word, Number, Quoted, Sign}
use Rattle.mt_lexer.specs.declared.token.Symbol.TheVariants as symbol
use Rattle.mt_value.specs.declared.truth.Cmp.{Cmp}
use Rattle.mt_tree.specs.declared.name.ColName.{ColName}
use Rattle.mt_tree.specs.declared.expression.Literal.{Literal}
use Rattle.mt_tree.specs.declared.expression.Literal.TheVariants.{Null, Int, Text}
use Rattle.mt_tree.specs.declared.expression.Agg.{Agg}
use Rattle.mt_tree.specs.declared.expression.Agg.TheVariants as agg
use Rattle.mt_tree.specs.declared.expression.Atom.{Atom}
use Rattle.mt_tree.specs.declared.expression.Atom.TheVariants as atom
use Rattle.mt_tree.specs.declared.expression.Expr.{Expr}
use Rattle.mt_tree.specs.declared.expression.Expr.TheOpen.{Expr-F, Term-F}
use Rattle.mt_tree.specs.declared.expression.Expr.TheFolds.{fold-Expr}
use Rattle.mt_tree.specs.declared.expression.Cond.{Cond}
use Rattle.mt_tree.specs.declared.expression.Cond.TheOpen.{Cond-F}
use Rattle.mt_tree.specs.declared.expression.Cond.TheFolds.{fold-Cond}
use Rattle.mt_reader.specs.Forms.{word}
use Rattle.mt_terms.specs.Expression.{sign_of}
use Rattle.mt_terms.specs.Condition.{comparison_symbol}

-- the lists one behind the other, with the separator between each and the next
abbrev pub between : Lexeme → List (List Lexeme) → List Lexeme
between by [] = []
between by (x ∷ []) = x
between by (x ∷ y ∷ ys) = x ++ by ∷ between by (y ∷ ys)

-- in brackets
abbrev pub bracketed : List Lexeme → List Lexeme
bracketed tokens = Sign symbol.Open ∷ (tokens ++ Sign symbol.Close ∷ [])

-- '-' is a token of its own
abbrev pub int_tokens : ℤ → List Lexeme
int_tokens (pos n) = Number n ∷ []
int_tokens (negsuc n) = Sign symbol.Minus ∷ Number (suc n) ∷ []

-- a literal
abbrev pub literal_tokens : Literal → List Lexeme
literal_tokens Null = word (codes "null")
literal_tokens (Int z) = int_tokens z
literal_tokens (Text text) = Quoted text ∷ []

-- [qualifier '.'] name
abbrev pub named_tokens : Option (List ℕ) → List ℕ → List Lexeme
named_tokens None name = word name
named_tokens (Some qualifier) name = Word qualifier ∷ Sign symbol.Dot ∷ Word name ∷ []

-- a column
abbrev pub column_tokens : ColName → List Lexeme
column_tokens column = named_tokens column.qualifier column.name

-- an aggregate
abbrev pub agg_tokens : Agg → List Lexeme
agg_tokens agg.CountAll = Word (codes "count") ∷ bracketed (Sign symbol.Star ∷ [])
agg_tokens (agg.Count column) = Word (codes "count") ∷ bracketed (column_tokens column)
agg_tokens (agg.Sum column) = Word (codes "sum") ∷ bracketed (column_tokens column)
agg_tokens (agg.Min column) = Word (codes "min") ∷ bracketed (column_tokens column)
agg_tokens (agg.Max column) = Word (codes "max") ∷ bracketed (column_tokens column)

-- an atom
abbrev pub atom_tokens : Atom → List Lexeme
atom_tokens (atom.Column column) = column_tokens column
atom_tokens (atom.Literal literal) = literal_tokens literal
atom_tokens (atom.Agg agg) = agg_tokens agg

-- The tokens of an expression or a condition, by the place where it stands.
pub record Places : Type 0 where
  -- alone, or within brackets
  pub whole : List Lexeme
  -- as a member of a sum or an OR
  pub outer : List Lexeme
  -- as a member of a product or an AND, or behind NOT
  pub inner : List Lexeme

-- what needs brackets nowhere
abbrev pub never_bracketed : List Lexeme → Places
never_bracketed tokens = record { whole = tokens; outer = tokens; inner = tokens }

-- a product, or an AND
abbrev pub bracketed_inside : List Lexeme → Places
bracketed_inside tokens = record { whole = tokens; outer = tokens; inner = bracketed tokens }

-- a sum, or an OR
abbrev pub bracketed_as_member : List Lexeme → Places
bracketed_as_member tokens = record { whole = tokens; outer = bracketed tokens; inner = bracketed tokens }

-- a member of a sum, with its sign in front
abbrev pub signed_tokens : Bool × Places → List Lexeme
signed_tokens member = sign_of member.0 ∷ member.1.outer

-- the members of a sum; the first has no sign
abbrev pub sum_tokens : List (Bool × Places) → List Lexeme
sum_tokens [] = []
sum_tokens (first ∷ others) = first.1.outer ++ flat_map signed_tokens others

-- one level of an expression
abbrev pub expr_places_step : Expr-F Places (Bool × Places) → Places
expr_places_step (Expr-F.Atom a) = never_bracketed (atom_tokens a)
expr_places_step (Expr-F.Sum terms) = bracketed_as_member (sum_tokens terms)
expr_places_step (Expr-F.Product members) = bracketed_inside (between (Sign symbol.Star) (map (λ member. member.inner) members))

-- a member of a sum, and whether a minus stands in front
abbrev pub term_places_step : Term-F Places (Bool × Places) → Bool × Places
term_places_step term = (term.minus, term.expr)

-- an expression by its place
unfoldable pub expr_places : Expr → Places
expr_places e = fold-Expr Places (Bool × Places) expr_places_step term_places_step e

-- an expression
abbrev pub expr_tokens : Expr → List Lexeme
expr_tokens e = (expr_places e).whole

-- a word, where the flag is set
abbrev pub flag_tokens : List ℕ → Bool → List Lexeme
flag_tokens name true = word name
flag_tokens name false = []

-- NOT, where the predicate is negated
abbrev pub not_tokens : Bool → List Lexeme
not_tokens negated = flag_tokens (codes "not") negated

-- two atoms with a comparison between
abbrev pub comparison_tokens : Cmp → Atom → Atom → List Lexeme
comparison_tokens op left right = atom_tokens left ++ Sign (comparison_symbol op) ∷ atom_tokens right

-- an atom, and that it is one of a list
abbrev pub membership_tokens : Bool → Atom → List Atom → List Lexeme
membership_tokens negated atom list = atom_tokens atom ++ not_tokens negated ++ Word (codes "in") ∷ bracketed (between (Sign symbol.Comma) (map atom_tokens list))

-- an atom, and that it lies between two others
abbrev pub range_tokens : Bool → Atom → Atom → Atom → List Lexeme
range_tokens negated atom low high = atom_tokens atom ++ not_tokens negated ++ Word (codes "between") ∷ (atom_tokens low ++ Word (codes "and") ∷ atom_tokens high)

-- an atom, and that it is like a pattern
abbrev pub likeness_tokens : Bool → Atom → Atom → List Lexeme
likeness_tokens negated atom pattern = atom_tokens atom ++ not_tokens negated ++ Word (codes "like") ∷ atom_tokens pattern

-- an atom, and that it is NULL
abbrev pub null_test_tokens : Bool → Atom → List Lexeme
null_test_tokens negated atom = atom_tokens atom ++ Word (codes "is") ∷ (not_tokens negated ++ word (codes "null"))

-- one level of a condition
abbrev pub cond_places_step : Cond-F Places → Places
cond_places_step (Cond-F.Or members) = bracketed_as_member (between (Word (codes "or")) (map (λ member. member.outer) members))
cond_places_step (Cond-F.And members) = bracketed_inside (between (Word (codes "and")) (map (λ member. member.inner) members))
cond_places_step (Cond-F.Not inner) = never_bracketed (Word (codes "not") ∷ inner.inner)
cond_places_step (Cond-F.Compare op left right) = never_bracketed (comparison_tokens op left right)
cond_places_step (Cond-F.Member negated atom list) = never_bracketed (membership_tokens negated atom list)
cond_places_step (Cond-F.Between negated atom low high) = never_bracketed (range_tokens negated atom low high)
cond_places_step (Cond-F.Like negated atom pattern) = never_bracketed (likeness_tokens negated atom pattern)
cond_places_step (Cond-F.IsNull negated atom) = never_bracketed (null_test_tokens negated atom)

-- a condition by its place
unfoldable pub cond_places : Cond → Places
cond_places c = fold-Cond Places cond_places_step c

-- a condition
abbrev pub cond_tokens : Cond → List Lexeme
cond_tokens c = (cond_places c).whole
