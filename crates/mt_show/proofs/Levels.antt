-- What is shown of each level of a tree, by the place where it stands, from what is shown of its parts.
use Rattle.std.proofs.Common.{◌≡◌, Bool, List, [], ◌∷◌, map, codes, refl, sym, ap, ◌∙◌}
use Rattle.mt_value.specs.declared.truth.Cmp.{Cmp}
use Rattle.mt_lexer.specs.Tokens.{Word, Sign}
use Rattle.mt_lexer.specs.declared.token.Symbol.TheVariants as symbol
use Rattle.mt_tree.specs.declared.expression.Atom.{Atom}
use Rattle.mt_tree.specs.declared.expression.Expr.{Expr}
use Rattle.mt_tree.specs.declared.expression.Expr.TheVariants as expr
use Rattle.mt_tree.specs.declared.expression.Expr.TheVariants.{rolls-Atom, rolls-Sum, rolls-Product}
use Rattle.mt_tree.specs.declared.expression.Expr.TheOpen.{Expr-F}
use Rattle.mt_tree.specs.declared.expression.Expr.TheFolds.{fold-Term, fold-roll-Expr, fold_out-Term}
use Rattle.mt_tree.specs.declared.expression.Term.{Term}
use Rattle.mt_tree.specs.declared.expression.Cond.{Cond}
use Rattle.mt_tree.specs.declared.expression.Cond.TheVariants as cond
use Rattle.mt_tree.specs.declared.expression.Cond.TheVariants.{rolls-Or, rolls-And, rolls-Not, rolls-Compare, rolls-Member, rolls-Between, rolls-Like, rolls-IsNull}
use Rattle.mt_tree.specs.declared.expression.Cond.TheOpen.{Cond-F}
use Rattle.mt_tree.specs.declared.expression.Cond.TheFolds.{fold-roll-Cond}
use Rattle.mt_show.specs.Shown.{Places, between, atom_tokens, never_bracketed, bracketed_inside, bracketed_as_member, sum_tokens, expr_places_step, term_places_step, expr_places, cond_places_step, cond_places, comparison_tokens, membership_tokens, range_tokens, likeness_tokens, null_test_tokens}

-- what is taken of members that are mapped
map_twice : {X Y Z : Type 0} (f : Y → Z) (g : X → Y) (xs : List X) → map f (map g xs) ≡ map (λ x. f (g x)) xs
map_twice f g [] = refl
map_twice f g (x ∷ xs) = cc (map_twice f g xs)

-- expressions

-- a member of a sum, with its sign
abbrev pub term_places : Term → Bool × Places
term_places t = (t.minus, expr_places t.expr)

-- an atom by itself
pub places_atom : (a : Atom) → expr_places (expr.Atom a) ≡ never_bracketed (atom_tokens a)
unfolding expr_places
places_atom a = ap expr_places (sym (rolls-Atom a)) ∙ fold-roll-Expr Places (Bool × Places) expr_places_step term_places_step (Expr-F.Atom a)

-- the members of a sum
places_terms : (ts : List Term) → map (fold-Term Places (Bool × Places) expr_places_step term_places_step) ts ≡ map term_places ts
unfolding expr_places
places_terms [] = refl
places_terms (t ∷ ts) = cc (fold_out-Term Places (Bool × Places) expr_places_step term_places_step t, places_terms ts)

-- a sum
pub places_sum : (ts : List Term) → expr_places (expr.Sum ts) ≡ bracketed_as_member (sum_tokens (map term_places ts))
unfolding expr_places
places_sum ts =
    ap expr_places (sym (rolls-Sum ts))
    ∙ fold-roll-Expr Places (Bool × Places) expr_places_step term_places_step (Expr-F.Sum ts)
    ∙ ap (λ members. bracketed_as_member (sum_tokens members)) (places_terms ts)

-- a product
pub places_product : (es : List Expr) → expr_places (expr.Product es) ≡ bracketed_inside (between (Sign symbol.Star) (map (λ e. (expr_places e).inner) es))
unfolding expr_places
places_product es =
    ap expr_places (sym (rolls-Product es))
    ∙ fold-roll-Expr Places (Bool × Places) expr_places_step term_places_step (Expr-F.Product es)
    ∙ ap (λ members. bracketed_inside (between (Sign symbol.Star) members)) (map_twice (λ places. places.inner) expr_places es)

-- conditions

-- an OR
pub places_or : (cs : List Cond) → cond_places (cond.Or cs) ≡ bracketed_as_member (between (Word (codes "or")) (map (λ c. (cond_places c).outer) cs))
unfolding cond_places
places_or cs =
    ap cond_places (sym (rolls-Or cs))
    ∙ fold-roll-Cond Places cond_places_step (Cond-F.Or cs)
    ∙ ap (λ members. bracketed_as_member (between (Word (codes "or")) members)) (map_twice (λ places. places.outer) cond_places cs)

-- an AND
pub places_and : (cs : List Cond) → cond_places (cond.And cs) ≡ bracketed_inside (between (Word (codes "and")) (map (λ c. (cond_places c).inner) cs))
unfolding cond_places
places_and cs =
    ap cond_places (sym (rolls-And cs))
    ∙ fold-roll-Cond Places cond_places_step (Cond-F.And cs)
    ∙ ap (λ members. bracketed_inside (between (Word (codes "and")) members)) (map_twice (λ places. places.inner) cond_places cs)

-- a NOT
pub places_not : (c : Cond) → cond_places (cond.Not c) ≡ never_bracketed (Word (codes "not") ∷ (cond_places c).inner)
unfolding cond_places
places_not c = ap cond_places (sym (rolls-Not c)) ∙ fold-roll-Cond Places cond_places_step (Cond-F.Not c)

-- a comparison
pub places_comparison : (op : Cmp) (left right : Atom) → cond_places (cond.Compare op left right) ≡ never_bracketed (comparison_tokens op left right)
unfolding cond_places
places_comparison op left right = ap cond_places (sym (rolls-Compare op left right)) ∙ fold-roll-Cond Places cond_places_step (Cond-F.Compare op left right)

-- an IN
pub places_membership : (negated : Bool) (a : Atom) (list : List Atom) → cond_places (cond.Member negated a list) ≡ never_bracketed (membership_tokens negated a list)
unfolding cond_places
places_membership negated a list = ap cond_places (sym (rolls-Member negated a list)) ∙ fold-roll-Cond Places cond_places_step (Cond-F.Member negated a list)

-- a BETWEEN
pub places_range : (negated : Bool) (a low high : Atom) → cond_places (cond.Between negated a low high) ≡ never_bracketed (range_tokens negated a low high)
unfolding cond_places
places_range negated a low high = ap cond_places (sym (rolls-Between negated a low high)) ∙ fold-roll-Cond Places cond_places_step (Cond-F.Between negated a low high)

-- a LIKE
pub places_likeness : (negated : Bool) (a pattern : Atom) → cond_places (cond.Like negated a pattern) ≡ never_bracketed (likeness_tokens negated a pattern)
unfolding cond_places
places_likeness negated a pattern = ap cond_places (sym (rolls-Like negated a pattern)) ∙ fold-roll-Cond Places cond_places_step (Cond-F.Like negated a pattern)

-- an IS NULL
pub places_null_test : (negated : Bool) (a : Atom) → cond_places (cond.IsNull negated a) ≡ never_bracketed (null_test_tokens negated a)
unfolding cond_places
places_null_test negated a = ap cond_places (sym (rolls-IsNull negated a)) ∙ fold-roll-Cond Places cond_places_step (Cond-F.IsNull negated a)
