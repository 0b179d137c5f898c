-- The tokens of a tree at its place are those of its parts, in brackets where it needs them.
use Rattle.std.proofs.Common.{◌≡◌, Bool, List, ◌∷◌, ◌++◌, map, codes, sym, ap, ◌∙◌}
use Rattle.std.proofs.lemmas.List.{append-nil}
use Rattle.mt_value.specs.declared.truth.Cmp.{Cmp}
use Rattle.mt_lexer.specs.Tokens.{Lexeme, Word, Sign}
use Rattle.mt_lexer.specs.declared.token.Symbol.TheVariants as symbol
use Rattle.mt_tree.specs.declared.expression.Atom.{Atom}
use Rattle.mt_tree.specs.declared.expression.Expr.{Expr}
use Rattle.mt_tree.specs.declared.expression.Expr.TheVariants as expr
use Rattle.mt_tree.specs.declared.expression.Term.{Term}
use Rattle.mt_tree.specs.declared.expression.Cond.{Cond}
use Rattle.mt_tree.specs.declared.expression.Cond.TheVariants as cond
use Rattle.mt_show.specs.declared.place.Place.{Place}
use Rattle.mt_show.specs.declared.place.Place.TheVariants.{Whole, Outer, Inner}
use Rattle.mt_show.specs.Shown.{Places, between, atom_tokens, never_bracketed, bracketed_inside, bracketed_as_member, sum_tokens, expr_places, cond_places, comparison_tokens, membership_tokens, range_tokens, likeness_tokens, null_test_tokens}
use Rattle.mt_show.specs.Printing.{placed, is_member, is_inner, where_needed}
use Rattle.mt_show.proofs.Levels.{term_places, places_atom, places_sum, places_product, places_or, places_and, places_not, places_comparison, places_membership, places_range, places_likeness, places_null_test}

-- with a bracket in front and one behind, where they are needed
abbrev pub within : Bool → List Lexeme → List Lexeme
within needed tokens = where_needed needed (Sign symbol.Open) ++ (tokens ++ where_needed needed (Sign symbol.Close))

module _ {places : Places} {tokens : List Lexeme} where
  -- what needs no brackets
  plain_placed : (place : Place) → places ≡ never_bracketed tokens → placed place places ≡ tokens
  plain_placed Whole e = ap (placed Whole) e
  plain_placed Outer e = ap (placed Outer) e
  plain_placed Inner e = ap (placed Inner) e

  -- a sum or an OR
  member_placed : (place : Place) → places ≡ bracketed_as_member tokens → placed place places ≡ within (is_member place) tokens
  member_placed Whole e = ap (placed Whole) e ∙ sym (append-nil tokens)
  member_placed Outer e = ap (placed Outer) e
  member_placed Inner e = ap (placed Inner) e

  -- a product or an AND
  inner_placed : (place : Place) → places ≡ bracketed_inside tokens → placed place places ≡ within (is_inner place) tokens
  inner_placed Whole e = ap (placed Whole) e ∙ sym (append-nil tokens)
  inner_placed Outer e = ap (placed Outer) e ∙ sym (append-nil tokens)
  inner_placed Inner e = ap (placed Inner) e

-- an atom by itself
pub atom_placed : (place : Place) (a : Atom) → placed place (expr_places (expr.Atom a)) ≡ atom_tokens a
atom_placed place a = plain_placed place (places_atom a)

-- a sum
pub sum_placed : (place : Place) (ts : List Term) → placed place (expr_places (expr.Sum ts)) ≡ within (is_member place) (sum_tokens (map term_places ts))
sum_placed place ts = member_placed place (places_sum ts)

-- a product
pub product_placed : (place : Place) (es : List Expr) → placed place (expr_places (expr.Product es)) ≡ within (is_inner place) (between (Sign symbol.Star) (map (λ e. placed Inner (expr_places e)) es))
product_placed place es = inner_placed place (places_product es)

-- an OR
pub or_placed : (place : Place) (cs : List Cond) → placed place (cond_places (cond.Or cs)) ≡ within (is_member place) (between (Word (codes "or")) (map (λ c. placed Outer (cond_places c)) cs))
or_placed place cs = member_placed place (places_or cs)

-- an AND
pub and_placed : (place : Place) (cs : List Cond) → placed place (cond_places (cond.And cs)) ≡ within (is_inner place) (between (Word (codes "and")) (map (λ c. placed Inner (cond_places c)) cs))
and_placed place cs = inner_placed place (places_and cs)

-- a NOT
pub not_placed : (place : Place) (c : Cond) → placed place (cond_places (cond.Not c)) ≡ Word (codes "not") ∷ placed Inner (cond_places c)
not_placed place c = plain_placed place (places_not c)

-- a comparison
pub comparison_placed : (place : Place) (op : Cmp) (left right : Atom) → placed place (cond_places (cond.Compare op left right)) ≡ comparison_tokens op left right
comparison_placed place op left right = plain_placed place (places_comparison op left right)

-- an IN
pub membership_placed : (place : Place) (negated : Bool) (a : Atom) (list : List Atom) → placed place (cond_places (cond.Member negated a list)) ≡ membership_tokens negated a list
membership_placed place negated a list = plain_placed place (places_membership negated a list)

-- a BETWEEN
pub range_placed : (place : Place) (negated : Bool) (a low high : Atom) → placed place (cond_places (cond.Between negated a low high)) ≡ range_tokens negated a low high
range_placed place negated a low high = plain_placed place (places_range negated a low high)

-- a LIKE
pub likeness_placed : (place : Place) (negated : Bool) (a pattern : Atom) → placed place (cond_places (cond.Like negated a pattern)) ≡ likeness_tokens negated a pattern
likeness_placed place negated a pattern = plain_placed place (places_likeness negated a pattern)

-- an IS NULL
pub null_test_placed : (place : Place) (negated : Bool) (a : Atom) → placed place (cond_places (cond.IsNull negated a)) ≡ null_test_tokens negated a
null_test_placed place negated a = plain_placed place (places_null_test negated a)
