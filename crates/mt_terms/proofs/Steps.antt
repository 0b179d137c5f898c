-- One step of a reader of expressions.
use Rattle.std.proofs.Common.{◌≡◌, ℕ, zero, suc, ◌-◌, ◌<◌, ◌≤◌, true, false, Option, Some, None, List, [], ◌∷◌, length, refl, ap, ◌∙◌, arith}
use Rattle.std.specs.Option.{is_some, option_and_then, option_map}
use Rattle.mt_lexer.specs.declared.token.Symbol.TheVariants as symbol
use Rattle.mt_lexer.specs.Tokens.{Lexeme, Sign}
use Rattle.mt_tree.specs.declared.expression.Expr.{Expr}
use Rattle.mt_tree.specs.declared.expression.Expr.TheVariants as expr
use Rattle.mt_tree.specs.declared.expression.Term.{Term}
use Rattle.mt_reader.specs.declared.fault.ReadFault.{ReadFault}
use Rattle.mt_reader.specs.Descent.{after, either, closed_of, bracketed_of, with_front}
use Rattle.mt_reader.specs.Taken.{Took, Fails}
use Rattle.mt_reader.proofs.Joining.{is_none}
use Rattle.mt_reader.proofs.Literals.{fails_bind}
use Rattle.mt_terms.specs.Descent.{alone_of, term_of, sign_of, tail_of, terms_of, sum_tree, sum_of, factor_of}
use Rattle.mt_terms.specs.Inside.{IsExprInside, IsTermInside}
use Rattle.mt_terms.proofs.Inside.{keeps_sum}
use Rattle.mt_terms.proofs.Tails.{TermsSoFar, tail_of-end, terms_so_far_all}

-- what is there is read
pub opened : {X : Type 0} (found : Option (List Lexeme)) (read : List Lexeme → Option X) (other : Option X) → is_some found ≡ true → either found read other ≡ option_and_then read found
opened None read other h = cc
opened (Some rest) read other h = refl

-- two terms or more are a sum
sum_many : (terms : List Term) → 2 ≤ length terms → sum_tree terms ≡ expr.Sum terms
sum_many [] h = absurd (omega arith)
sum_many (t ∷ []) h = absurd (omega arith)
sum_many (t ∷ u ∷ us) h = refl

-- what reads as terms reads as their sum
abbrev summed : Option (List Term × List Lexeme) → Option (Expr × List Lexeme)
summed = option_and_then (λ (terms : List Term × List Lexeme). Some (sum_tree terms.0, terms.1))

module _ (factor : List Lexeme → Option (Expr × List Lexeme)) (lexemes : List Lexeme) where
  -- a term by itself is a sum
  pub sum_alone : (left : List Lexeme) (kept : Option Expr) → is_some (sign_of left) ≡ false → Took IsExprInside kept left (term_of factor lexemes) → Took IsExprInside kept left (sum_of factor lexemes)
  unfolding sum_of terms_of
  sum_alone left kept none t = record {
    tree = t.tree;
    reads =
        ap summed
        (ap (option_and_then (λ (first : Expr × List Lexeme). with_front (record { minus = false; expr = first.0 } ∷ []) (tail_of (term_of factor) (length first.1) first.1))) t.reads
        ∙ ap (with_front (record { minus = false; expr = t.tree } ∷ [])) (tail_of-end (term_of factor) (length left) left (is_none (sign_of left) none)));
    keeps = t.keeps;
  }

  -- terms are taken, and so a sum
  pub sum_took : (left : List Lexeme) (terms : Option (List Term)) → TermsSoFar (term_of factor) IsTermInside (terms_of (term_of factor) lexemes) left terms → sign_of left ≡ None → Took IsExprInside (option_map expr.Sum terms) left (sum_of factor lexemes)
  unfolding sum_of
  sum_took left terms s none = record {
    tree = expr.Sum s.front;
    reads = ap summed (terms_so_far_all (term_of factor) IsTermInside _ left terms s none) ∙ ap (λ tree. Some (tree, left)) (sum_many s.front (s.many (ap is_some none)));
    keeps = keeps_sum terms s.front s.keeps;
  }

  -- why terms fail is why a sum does
  pub sum_fails : (e : ReadFault) → Fails e (terms_of (term_of factor) lexemes) → Fails e (sum_of factor lexemes)
  unfolding sum_of
  sum_fails e f = fails_bind e (terms_of (term_of factor) lexemes) _ f

-- depths

-- with no bracket left a factor is an atom
pub factor_of-none : (depth : ℕ) (lexemes : List Lexeme) → depth ≡ 0 → factor_of depth lexemes ≡ alone_of lexemes
unfolding factor_of
factor_of-none zero lexemes h = refl
factor_of-none (suc depth) lexemes h = absurd (omega arith)

-- a bracket takes one of the depth
factor_of-some : (depth : ℕ) (lexemes : List Lexeme) → 0 < depth → factor_of depth lexemes ≡ either (after (Sign symbol.Open) lexemes) (closed_of (sum_of (factor_of (depth - 1)))) (alone_of lexemes)
unfolding factor_of
factor_of-some zero lexemes h = absurd (omega arith)
factor_of-some (suc depth) lexemes h = let same : depth ≡ suc depth - 1 = omega arith in ap (λ d. either (after (Sign symbol.Open) lexemes) (closed_of (sum_of (factor_of d))) (alone_of lexemes)) same

-- where no bracket opens a factor is an atom
pub factor_of-atom : (depth : ℕ) (lexemes : List Lexeme) → (depth ≡ 0 → ⊥) → is_some (after (Sign symbol.Open) lexemes) ≡ false → factor_of depth lexemes ≡ alone_of lexemes
factor_of-atom depth lexemes h a =
    factor_of-some depth lexemes (omega arith) ∙ ap (λ found. either found (closed_of (sum_of (factor_of (depth - 1)))) (alone_of lexemes)) (is_none (after (Sign symbol.Open) lexemes) a)

-- where a bracket opens a factor is a sum in brackets
pub factor_of-open : (depth : ℕ) (lexemes : List Lexeme) → (depth ≡ 0 → ⊥) → is_some (after (Sign symbol.Open) lexemes) ≡ true → factor_of depth lexemes ≡ bracketed_of (sum_of (factor_of (depth - 1))) lexemes
unfolding bracketed_of
factor_of-open depth lexemes h a = factor_of-some depth lexemes (omega arith) ∙ opened (after (Sign symbol.Open) lexemes) (closed_of (sum_of (factor_of (depth - 1)))) (alone_of lexemes) a
