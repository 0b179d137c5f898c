-- The literals of a tree are those of its parts.
use Rattle.std.proofs.Common.{◌≡◌, Bool, Option, Some, None, List, [], ◌∷◌, ◌++◌, length, map, refl, sym, ap, ◌∙◌, subst, append-nil}
use Rattle.std.proofs.Math.Seq.{take-append_seam, drop-append_seam}
use Rattle.std.proofs.lemmas.List.Elements.{All-nil, All-cons, All-head, All-tail, All-append, All-take, All-drop}
use Rattle.std.specs.List.{All, flat_map}
use Rattle.std.specs.Option.{option_map, option_zip}
use Rattle.mt_value.specs.declared.truth.Cmp.{Cmp}
use Rattle.mt_tree.specs.declared.expression.Literal.{Literal}
use Rattle.mt_tree.specs.declared.expression.Atom.{Atom}
use Rattle.mt_tree.specs.declared.expression.Expr.{Expr}
use Rattle.mt_tree.specs.declared.expression.Expr.TheVariants as expr
use Rattle.mt_tree.specs.declared.expression.Expr.TheVariants.{rolls-Atom, rolls-Sum, rolls-Product}
use Rattle.mt_tree.specs.declared.expression.Expr.TheOpen.{Expr-F}
use Rattle.mt_tree.specs.declared.expression.Expr.TheFolds.{fold-Expr, fold-Term, fold-roll-Expr, fold_out-Term}
use Rattle.mt_tree.specs.declared.expression.Term.{Term}
use Rattle.mt_tree.specs.declared.expression.Cond.{Cond}
use Rattle.mt_tree.specs.declared.expression.Cond.TheVariants as cond
use Rattle.mt_tree.specs.declared.expression.Cond.TheVariants.{rolls-Or, rolls-And, rolls-Not, rolls-Compare, rolls-Member, rolls-Between, rolls-Like, rolls-IsNull}
use Rattle.mt_tree.specs.declared.expression.Cond.TheOpen.{Cond-F}
use Rattle.mt_tree.specs.declared.expression.Cond.TheFolds.{fold-Cond, fold-roll-Cond}
use Rattle.mt_reader.specs.Literals.{IsLiteralInside}
use Rattle.mt_reader.specs.Taken.{Keeps}
use Rattle.mt_reader.proofs.Fronts.{keeps_map}
use Rattle.mt_terms.specs.declared.test.Test.{Test}
use Rattle.mt_terms.specs.declared.test.Test.TheVariants as test
use Rattle.mt_terms.specs.Descent.{cond_with}
use Rattle.mt_terms.specs.Inside.{atom_literals, joined, expr_step, term_step, expr_literals, test_literals, cond_step, cond_literals, IsAtomInside, IsExprInside, IsTermInside, IsTestInside, IsCondInside}

-- of an atom by itself
pub expr_literals-Atom : (a : Atom) → expr_literals (expr.Atom a) ≡ atom_literals a
unfolding expr_literals
expr_literals-Atom a = ap expr_literals (sym (rolls-Atom a)) ∙ fold-roll-Expr (List Literal) (List Literal) expr_step term_step (Expr-F.Atom a)

-- of a member of a sum
term_literals : (t : Term) → fold-Term (List Literal) (List Literal) expr_step term_step t ≡ expr_literals t.expr
unfolding expr_literals
term_literals t = fold_out-Term (List Literal) (List Literal) expr_step term_step t

-- of members
joined_terms : (ts : List Term) → joined (map (fold-Term (List Literal) (List Literal) expr_step term_step) ts) ≡ flat_map (λ t. expr_literals t.expr) ts
joined_terms [] = refl
joined_terms (t ∷ ts) = cc (term_literals t, joined_terms ts)

-- of a sum
pub expr_literals-Sum : (ts : List Term) → expr_literals (expr.Sum ts) ≡ flat_map (λ t. expr_literals t.expr) ts
unfolding expr_literals
expr_literals-Sum ts =
    ap expr_literals (sym (rolls-Sum ts))
    ∙ fold-roll-Expr (List Literal) (List Literal) expr_step term_step (Expr-F.Sum ts)
    ∙ joined_terms ts

-- of members of a product
joined_members : (es : List Expr) → joined (map (fold-Expr (List Literal) (List Literal) expr_step term_step) es) ≡ flat_map expr_literals es
unfolding expr_literals
joined_members [] = refl
joined_members (e ∷ es) = cc (joined_members es)

-- of a product
pub expr_literals-Product : (es : List Expr) → expr_literals (expr.Product es) ≡ flat_map expr_literals es
unfolding expr_literals
expr_literals-Product es =
    ap expr_literals (sym (rolls-Product es))
    ∙ fold-roll-Expr (List Literal) (List Literal) expr_step term_step (Expr-F.Product es)
    ∙ joined_members es

module _ {X A : Type 0} (P : A → Type 0) (f : X → List A) where
  -- what holds in all of some lists holds in the lists one after another
  pub All-flat_map : (xs : List X) → All (λ x. All P (f x)) xs → All P (flat_map f xs)
  All-flat_map [] h = All-nil P
  All-flat_map (x ∷ xs) h =
      All-append P (f x) (flat_map f xs) (All-head (λ x. All P (f x)) x xs h) (All-flat_map xs (All-tail (λ x. All P (f x)) x xs h))

  -- and the other way round
  All-flat_map_parts : (xs : List X) → All P (flat_map f xs) → All (λ x. All P (f x)) xs
  All-flat_map_parts [] h = All-nil (λ x. All P (f x))
  All-flat_map_parts (x ∷ xs) h =
      let first : All P (f x) = subst (All P) (take-append_seam (f x) (flat_map f xs)) (All-take P (length (f x)) (f x ++ flat_map f xs) h) in
      let others : All P (flat_map f xs) = subst (All P) (drop-append_seam (f x) (flat_map f xs)) (All-drop P (length (f x)) (f x ++ flat_map f xs) h) in
      All-cons (λ x. All P (f x)) x xs first (All-flat_map_parts xs others)

-- an atom by itself is inside where the atom is
pub inside_atom : (a : Atom) → IsAtomInside a → IsExprInside (expr.Atom a)
inside_atom a h = rw (expr_literals-Atom a) h

atom_inside : (a : Atom) → IsExprInside (expr.Atom a) → IsAtomInside a
atom_inside a h = rw (expr_literals-Atom a) at h

-- a sum is inside where its members are
pub inside_sum : (ts : List Term) → All IsTermInside ts → IsExprInside (expr.Sum ts)
inside_sum ts h = rw (expr_literals-Sum ts) (All-flat_map IsLiteralInside (λ t. expr_literals t.expr) ts h)

sum_inside : (ts : List Term) → IsExprInside (expr.Sum ts) → All IsTermInside ts
sum_inside ts h = All-flat_map_parts IsLiteralInside (λ t. expr_literals t.expr) ts (rw (expr_literals-Sum ts) at h)

-- a product is inside where its members are
pub inside_product : (es : List Expr) → All IsExprInside es → IsExprInside (expr.Product es)
inside_product es h = rw (expr_literals-Product es) (All-flat_map IsLiteralInside expr_literals es h)

product_inside : (es : List Expr) → IsExprInside (expr.Product es) → All IsExprInside es
product_inside es h = All-flat_map_parts IsLiteralInside expr_literals es (rw (expr_literals-Product es) at h)

-- what is kept of an atom, a sum and a product is kept of their parts
pub keeps_atom : (kept : Option Atom) (a : Atom) → Keeps IsAtomInside kept a → Keeps IsExprInside (option_map expr.Atom kept) (expr.Atom a)
keeps_atom = keeps_map IsAtomInside IsExprInside expr.Atom inside_atom atom_inside

pub keeps_sum : (kept : Option (List Term)) (ts : List Term) → Keeps (All IsTermInside) kept ts → Keeps IsExprInside (option_map expr.Sum kept) (expr.Sum ts)
keeps_sum = keeps_map (All IsTermInside) IsExprInside expr.Sum inside_sum sum_inside

pub keeps_product : (kept : Option (List Expr)) (es : List Expr) → Keeps (All IsExprInside) kept es → Keeps IsExprInside (option_map expr.Product kept) (expr.Product es)
keeps_product = keeps_map (All IsExprInside) IsExprInside expr.Product inside_product product_inside

pub keeps_term : (minus : Bool) (kept : Option Expr) (e : Expr) → Keeps IsExprInside kept e → Keeps IsTermInside (option_map (λ e. record { minus = minus; expr = e }) kept) (record { minus = minus; expr = e })
keeps_term minus = keeps_map IsExprInside IsTermInside (λ e. record { minus = minus; expr = e }) (λ e h. h) (λ e h. h)

-- tests

-- both of two parts are kept
pub keeps_both : {A B C : Type 0} (inside : A → Type 0) (within : B → Type 0) (whole : C → Type 0) (make : A → B → C) → ((a : A) (b : B) → inside a → within b → whole (make a b)) → ((a : A) (b : B) → whole (make a b) → inside a × within b) → (kept : Option A) (a : A) (held : Option B) (b : B) → Keeps inside kept a → Keeps within held b → Keeps whole (option_map (λ (pair : A × B). make pair.0 pair.1) (option_zip kept held)) (make a b)
keeps_both inside within whole make to from None a held b k h = λ w. k (from a b w).0
keeps_both inside within whole make to from (Some x) a None b k h = λ w. h (from a b w).1
keeps_both inside within whole make to from (Some x) a (Some y) b k h = (cc (k.0, h.0), to a b k.1 h.1)

-- two lists one after another are inside where both are
All-append_parts : {X : Type 0} (P : X → Type 0) (xs ys : List X) → All P (xs ++ ys) → All P xs × All P ys
All-append_parts P xs ys h = (
  subst (All P) (take-append_seam xs ys) (All-take P (length xs) (xs ++ ys) h),
  subst (All P) (drop-append_seam xs ys) (All-drop P (length xs) (xs ++ ys) h),
)

pub keeps_member : (negated : Bool) (kept : Option (List Atom)) (list : List Atom) → Keeps (All IsAtomInside) kept list → Keeps IsTestInside (option_map (test.Member negated) kept) (test.Member negated list)
keeps_member negated = keeps_map (All IsAtomInside) IsTestInside (test.Member negated) (All-flat_map IsLiteralInside atom_literals) (All-flat_map_parts IsLiteralInside atom_literals)

pub keeps_between : (negated : Bool) (low : Option Atom) (a : Atom) (high : Option Atom) (b : Atom) → Keeps IsAtomInside low a → Keeps IsAtomInside high b → Keeps IsTestInside (option_map (λ (bounds : Atom × Atom). test.Between negated bounds.0 bounds.1) (option_zip low high)) (test.Between negated a b)
keeps_between negated = keeps_both IsAtomInside IsAtomInside IsTestInside (test.Between negated) (λ a b. All-append IsLiteralInside (atom_literals a) (atom_literals b)) (λ a b. All-append_parts IsLiteralInside (atom_literals a) (atom_literals b))

pub keeps_like : (negated : Bool) (kept : Option Atom) (a : Atom) → Keeps IsAtomInside kept a → Keeps IsTestInside (option_map (test.Like negated) kept) (test.Like negated a)
keeps_like negated = keeps_map IsAtomInside IsTestInside (test.Like negated) (λ a h. h) (λ a h. h)

-- conditions

-- of members of AND or OR
joined_conds : (cs : List Cond) → joined (map (fold-Cond (List Literal) cond_step) cs) ≡ flat_map cond_literals cs
unfolding cond_literals
joined_conds [] = refl
joined_conds (c ∷ cs) = cc (joined_conds cs)

-- of OR, of AND, and of NOT
cond_literals-Or : (cs : List Cond) → cond_literals (cond.Or cs) ≡ flat_map cond_literals cs
unfolding cond_literals
cond_literals-Or cs = ap cond_literals (sym (rolls-Or cs)) ∙ fold-roll-Cond (List Literal) cond_step (Cond-F.Or cs) ∙ joined_conds cs

cond_literals-And : (cs : List Cond) → cond_literals (cond.And cs) ≡ flat_map cond_literals cs
unfolding cond_literals
cond_literals-And cs = ap cond_literals (sym (rolls-And cs)) ∙ fold-roll-Cond (List Literal) cond_step (Cond-F.And cs) ∙ joined_conds cs

cond_literals-Not : (c : Cond) → cond_literals (cond.Not c) ≡ cond_literals c
unfolding cond_literals
cond_literals-Not c = ap cond_literals (sym (rolls-Not c)) ∙ fold-roll-Cond (List Literal) cond_step (Cond-F.Not c)

-- of a predicate
cond_literals-with : (a : Atom) (t : Test) → cond_literals (cond_with a t) ≡ atom_literals a ++ test_literals t
unfolding cond_literals
cond_literals-with a (test.Member negated list) = ap cond_literals (sym (rolls-Member negated a list)) ∙ fold-roll-Cond (List Literal) cond_step (Cond-F.Member negated a list)
cond_literals-with a (test.Between negated low high) = ap cond_literals (sym (rolls-Between negated a low high)) ∙ fold-roll-Cond (List Literal) cond_step (Cond-F.Between negated a low high)
cond_literals-with a (test.Like negated pattern) = ap cond_literals (sym (rolls-Like negated a pattern)) ∙ fold-roll-Cond (List Literal) cond_step (Cond-F.Like negated a pattern)
cond_literals-with a (test.IsNull negated) = ap cond_literals (sym (rolls-IsNull negated a)) ∙ fold-roll-Cond (List Literal) cond_step (Cond-F.IsNull negated a) ∙ sym (append-nil (atom_literals a))

-- a predicate is inside where its parts are
inside_with : (a : Atom) (t : Test) → IsAtomInside a → IsTestInside t → IsCondInside (cond_with a t)
inside_with a t h k = rw (cond_literals-with a t) (All-append IsLiteralInside (atom_literals a) (test_literals t) h k)

with_inside : (a : Atom) (t : Test) → IsCondInside (cond_with a t) → IsAtomInside a × IsTestInside t
with_inside a t h = All-append_parts IsLiteralInside (atom_literals a) (test_literals t) (rw (cond_literals-with a t) at h)

-- a comparison is inside where both atoms are
cond_literals-Compare : (op : Cmp) (a b : Atom) → cond_literals (cond.Compare op a b) ≡ atom_literals a ++ atom_literals b
unfolding cond_literals
cond_literals-Compare op a b = ap cond_literals (sym (rolls-Compare op a b)) ∙ fold-roll-Cond (List Literal) cond_step (Cond-F.Compare op a b)

inside_compare : (op : Cmp) (a b : Atom) → IsAtomInside a → IsAtomInside b → IsCondInside (cond.Compare op a b)
inside_compare op a b h k = rw (cond_literals-Compare op a b) (All-append IsLiteralInside (atom_literals a) (atom_literals b) h k)

compare_inside : (op : Cmp) (a b : Atom) → IsCondInside (cond.Compare op a b) → IsAtomInside a × IsAtomInside b
compare_inside op a b h = All-append_parts IsLiteralInside (atom_literals a) (atom_literals b) (rw (cond_literals-Compare op a b) at h)

-- conditions that are joined are inside where all are
module _ (join : List Cond → Cond) (literals : (cs : List Cond) → cond_literals (join cs) ≡ flat_map cond_literals cs) where
  inside_all : (cs : List Cond) → All IsCondInside cs → IsCondInside (join cs)
  inside_all cs h = rw (literals cs) (All-flat_map IsLiteralInside cond_literals cs h)

  all_inside : (cs : List Cond) → IsCondInside (join cs) → All IsCondInside cs
  all_inside cs h = All-flat_map_parts IsLiteralInside cond_literals cs (rw (literals cs) at h)

-- what is kept of a predicate, of NOT, of AND and of OR is kept of their parts
pub keeps_with : (kept : Option Atom) (a : Atom) (held : Option Test) (t : Test) → Keeps IsAtomInside kept a → Keeps IsTestInside held t → Keeps IsCondInside (option_map (λ (parts : Atom × Test). cond_with parts.0 parts.1) (option_zip kept held)) (cond_with a t)
keeps_with = keeps_both IsAtomInside IsTestInside IsCondInside cond_with inside_with with_inside

pub keeps_compare : (op : Cmp) (left : Option Atom) (a : Atom) (right : Option Atom) (b : Atom) → Keeps IsAtomInside left a → Keeps IsAtomInside right b → Keeps IsCondInside (option_map (λ (pair : Atom × Atom). cond.Compare op pair.0 pair.1) (option_zip left right)) (cond.Compare op a b)
keeps_compare op = keeps_both IsAtomInside IsAtomInside IsCondInside (cond.Compare op) (inside_compare op) (compare_inside op)

pub keeps_not : (kept : Option Cond) (c : Cond) → Keeps IsCondInside kept c → Keeps IsCondInside (option_map cond.Not kept) (cond.Not c)
keeps_not = keeps_map IsCondInside IsCondInside cond.Not (λ c h. rw (cond_literals-Not c) h) (λ c h. rw (cond_literals-Not c) at h)

pub keeps_and : (kept : Option (List Cond)) (cs : List Cond) → Keeps (All IsCondInside) kept cs → Keeps IsCondInside (option_map cond.And kept) (cond.And cs)
keeps_and = keeps_map (All IsCondInside) IsCondInside cond.And (inside_all cond.And cond_literals-And) (all_inside cond.And cond_literals-And)

pub keeps_or : (kept : Option (List Cond)) (cs : List Cond) → Keeps (All IsCondInside) kept cs → Keeps IsCondInside (option_map cond.Or kept) (cond.Or cs)
keeps_or = keeps_map (All IsCondInside) IsCondInside cond.Or (inside_all cond.Or cond_literals-Or) (all_inside cond.Or cond_literals-Or)
