-- Expressions are shown with the brackets that the same tree needs.
use Rattle.std.proofs.Common.{ℕ, zero, suc, Bool, true, false, List, [], ◌∷◌, ◌++◌, map, ap, ◌∙◌, inl, inr}
use Rattle.std.specs.List.{All, flat_map}
use Rattle.mt_lexer.specs.Tokens.{Lexeme, Sign}
use Rattle.mt_lexer.specs.declared.token.Symbol.TheVariants as symbol
use Rattle.mt_tree.specs.declared.expression.Expr.{Expr}
use Rattle.mt_tree.specs.declared.expression.Expr.TheVariants as expr
use Rattle.mt_tree.specs.declared.expression.Term.{Term}
use Rattle.mt_reader.specs.Forms.{Form, Bracketed, Parts}
use Rattle.mt_terms.specs.Expression.{SpellsAtomAlone, SpellsTerm, SpellsTail, SpellsSum, SpellsFactor, SpellsExpr, sign_of}
use Rattle.mt_show.specs.Text.{IsWritten}
use Rattle.mt_show.specs.Shown.{between, atom_tokens, signed_tokens, sum_tokens, expr_places, expr_tokens}
use Rattle.mt_show.proofs.ShownForms.{Gives, Shows, Grows, nothing_gives, written_inside, parts_give, behind_shows, bracketed_grows, behind_grows, joined_grows, written_one}
use Rattle.mt_show.proofs.ShownAtoms.{atom_shows}
use Rattle.mt_show.proofs.Levels.{term_places, places_atom, places_sum, places_product}
use Rattle.mt_show.proofs.ShownLevels.{At, at_never, at_inside, at_member, at_grows, many_shows}

-- what is shown of an expression as a member of a product
abbrev factor_tokens : Expr → List Lexeme
factor_tokens e = (expr_places e).inner

-- and of a sum
abbrev term_tokens : Expr → List Lexeme
term_tokens e = (expr_places e).outer

-- and of the members of a sum behind the first
abbrev tail_tokens : List Term → List Lexeme
tail_tokens ts = flat_map signed_tokens (map term_places ts)

-- forms that spell more

-- a product
term_grows : {from to : Form Expr} → Grows from to → Grows (SpellsTerm from) (SpellsTerm to)
term_grows grows = joined_grows grows (Sign symbol.Star) expr.Product

module _ {from to : Form Expr} (grows : Grows from to) where
  -- the members of a sum behind the first
  tail_grows : Grows (SpellsTail from) (SpellsTail to)
  tail_grows tokens [] s = s
  tail_grows tokens (t ∷ ts) s = record {
    front = s.front;
    back = s.back;
    split = s.split;
    is_left = behind_grows grows (sign_of t.minus ∷ []) s.front t.expr s.is_left;
    is_right = tail_grows s.back ts s.is_right;
  }

-- a sum
sum_grows : {from to : Form Expr} → Grows from to → Grows (SpellsSum from) (SpellsSum to)
sum_grows grows tokens e (inl alone) = inl (term_grows grows tokens e alone)
sum_grows grows tokens e (inr sum) = inr (record {
  first = sum.first;
  second = sum.second;
  others = sum.others;
  sum = sum.sum;
  parts = record {
    front = sum.parts.front;
    back = sum.parts.back;
    split = sum.parts.split;
    is_left = term_grows grows sum.parts.front sum.first sum.parts.is_left;
    is_right = tail_grows (term_grows grows) sum.parts.back (sum.second ∷ sum.others) sum.parts.is_right;
  };
})

-- brackets one deeper
factor_grows : (depth : ℕ) → Grows (SpellsFactor depth) (SpellsFactor (suc depth))
factor_grows zero tokens e s = inl s
factor_grows (suc depth) tokens e (inl alone) = inl alone
factor_grows (suc depth) tokens e (inr closed) = inr (bracketed_grows (sum_grows (factor_grows depth)) tokens e closed)

-- the members of a sum, of terms that are shown
module _ {form : Form Expr} (shows : Shows form term_tokens) where
  -- a sign can be written
  sign_written : (minus : Bool) → IsWritten (sign_of minus)
  sign_written true = tt
  sign_written false = tt

  -- those behind the first
  tail_shows : Shows (SpellsTail form) tail_tokens
  tail_shows [] = nothing_gives
  tail_shows (t ∷ ts) =
      parts_give (signed_tokens (term_places t)) (tail_tokens ts) (behind_shows term_tokens shows (sign_of t.minus ∷ []) (written_one (sign_of t.minus) (sign_written t.minus)) t.expr) (tail_shows ts)

  -- and with the first
  members_give : (first : Expr) (ts : List Term) → Gives (Parts (λ front. form front first) (λ back. SpellsTail form back ts)) (term_tokens first ++ tail_tokens ts)
  members_give first ts = parts_give (term_tokens first) (tail_tokens ts) (shows first) (tail_shows ts)

-- the levels of expressions

-- at which places an expression is spelled with the brackets of two depths
abbrev AtDepths : ℕ → ℕ → ℕ → Expr → Type 0
AtDepths inner outer whole e = At (SpellsFactor inner) (SpellsTerm (SpellsFactor outer)) (SpellsSum (SpellsFactor whole)) (expr_places e) e

-- what written tokens spell in the form is spelled so
abbrev ShowsDepths : Form Expr → ℕ → ℕ → ℕ → Type 0
ShowsDepths form inner outer whole = (e : Expr) (tokens : List Lexeme) → All IsWritten tokens → form tokens e → AtDepths inner outer whole e

-- an atom
alone_shows : (depth : ℕ) → Grows SpellsAtomAlone (SpellsFactor depth) → ShowsDepths SpellsAtomAlone depth depth depth
alone_shows depth grows e tokens w s =
    let p = atom_shows s.0 tokens w s.2 in
    at_never (atom_tokens s.0) (ap expr_places s.1 ∙ places_atom s.0) (λ tokens e s. inl s) (λ tokens e s. inl s) (grows (atom_tokens s.0) e (s.0, s.1, p.0), p.1)

-- a sum in brackets is a factor
closed : (depth : ℕ) → Grows (Bracketed (SpellsSum (SpellsFactor depth))) (SpellsFactor (suc depth))
closed depth tokens e s = inr s

-- a product
product_shows : (depth : ℕ) → ShowsDepths (SpellsFactor depth) depth depth depth → ShowsDepths (SpellsTerm (SpellsFactor depth)) (suc depth) depth depth
product_shows depth factor e tokens w (inl alone) = at_grows (factor e tokens w alone) (factor_grows depth) (λ tokens e s. s) (λ tokens e s. s)
product_shows depth factor e tokens w (inr many) =
    let members : Shows (SpellsFactor depth) factor_tokens = λ e tokens w s. (factor e tokens w s).as_inner in
    let shown = between (Sign symbol.Star) (map factor_tokens many.members) in
    at_inside shown (ap expr_places many.joined ∙ places_product many.members) (closed depth) (λ tokens e s. inl s) (many_shows factor_tokens members (Sign symbol.Star) expr.Product tt e tokens w many)

-- a sum
sum_shows : (depth : ℕ) → ShowsDepths (SpellsTerm (SpellsFactor depth)) (suc depth) depth depth → ShowsDepths (SpellsSum (SpellsFactor depth)) (suc depth) (suc depth) depth
sum_shows depth term e tokens w (inl alone) = at_grows (term e tokens w alone) (λ tokens e s. s) (term_grows (factor_grows depth)) (λ tokens e s. s)
sum_shows depth term e tokens w (inr sum) =
    let first : Term = record { minus = false; expr = sum.first } in
    let behind : List Term = sum.second ∷ sum.others in
    let terms : Shows (SpellsTerm (SpellsFactor depth)) term_tokens = λ e tokens w s. (term e tokens w s).as_outer in
    let p = members_give terms sum.first behind tokens w sum.parts in
    at_member (sum_tokens (map term_places (first ∷ behind))) (ap expr_places sum.sum ∙ places_sum (first ∷ behind)) (closed depth) (λ tokens e s. inl s)
    (inr (record { first = sum.first; second = sum.second; others = sum.others; sum = sum.sum; parts = p.0 }), p.1)

-- what is in brackets needs none more
factor_shows : (depth : ℕ) → ShowsDepths (SpellsFactor depth) depth depth depth
factor_shows zero e tokens w s = alone_shows zero (λ tokens e s. s) e tokens w s
factor_shows (suc depth) e tokens w (inl alone) = alone_shows (suc depth) (λ tokens e s. inl s) e tokens w alone
factor_shows (suc depth) e tokens w (inr inner) =
    let written : All IsWritten inner.inner = written_inside inner.inner tokens inner.brackets w in
    at_grows (sum_shows depth (product_shows depth (factor_shows depth)) e inner.inner written inner.body) (λ tokens e s. s) (λ tokens e s. s) (sum_grows (factor_grows depth))

-- an expression
pub expr_shows : Shows SpellsExpr expr_tokens
unfolding SpellsExpr
expr_shows e tokens w s = (sum_shows 64 (product_shows 64 (factor_shows 64)) e tokens w s).as_whole
