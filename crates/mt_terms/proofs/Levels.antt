-- One step of a reader of conditions.
use Rattle.std.proofs.Common.{◌≡◌, ℕ, zero, suc, ◌-◌, true, false, Option, Some, None, is_some, List, refl, ap, ◌∙◌, arith}
use Rattle.std.specs.Prelude.{codes, ◌||◌}
use Rattle.mt_lexer.specs.declared.token.Symbol.TheVariants as symbol
use Rattle.mt_lexer.specs.Tokens.{Lexeme, Word, Sign}
use Rattle.mt_tree.specs.declared.expression.Cond.{Cond}
use Rattle.mt_reader.specs.Descent.{after, either, closed_of, bracketed_of}
use Rattle.mt_reader.proofs.Joining.{is_none}
use Rattle.mt_terms.specs.Descent.{plain_of, or_of, denied_of, not_of, neg_of}
use Rattle.mt_terms.proofs.Steps.{opened}

-- in brackets, where one opens
abbrev open_or_plain : ℕ → Option (List Lexeme) → List Lexeme → Option (Cond × List Lexeme)
open_or_plain depth found lexemes = either found (closed_of (or_of (neg_of depth))) (plain_of lexemes)

-- behind NOT, where it comes first
abbrev denied_or_not : ℕ → Option (List Lexeme) → List Lexeme → Option (Cond × List Lexeme)
denied_or_not depth found lexemes = either found (denied_of (neg_of depth)) (open_or_plain depth (after (Sign symbol.Open) lexemes) lexemes)

-- with no level left there is a predicate
pub neg_of-none : (depth : ℕ) (lexemes : List Lexeme) → depth ≡ 0 → neg_of depth lexemes ≡ plain_of lexemes
unfolding neg_of
neg_of-none zero lexemes h = refl
neg_of-none (suc depth) lexemes h = absurd (omega arith)

-- NOT and a bracket take one level
neg_of-some : (depth : ℕ) (lexemes : List Lexeme) → (depth ≡ 0 → ⊥) → neg_of depth lexemes ≡ denied_or_not (depth - 1) (after (Word (codes "not")) lexemes) lexemes
unfolding neg_of
neg_of-some zero lexemes h = absurd (omega arith)
neg_of-some (suc depth) lexemes h = let same : depth ≡ suc depth - 1 = omega arith in ap (λ d. denied_or_not d (after (Word (codes "not")) lexemes) lexemes) same

module _ (depth : ℕ) (lexemes : List Lexeme) (some : depth ≡ 0 → ⊥) where
  -- behind NOT
  pub neg_of-not : is_some (after (Word (codes "not")) lexemes) ≡ true → neg_of depth lexemes ≡ not_of (neg_of (depth - 1)) lexemes
  unfolding not_of
  neg_of-not taken = neg_of-some depth lexemes some ∙ opened (after (Word (codes "not")) lexemes) _ _ taken

  module _ (no_not : is_some (after (Word (codes "not")) lexemes) ≡ false) where
    -- without NOT
    neg_of-open_or_plain : neg_of depth lexemes ≡ open_or_plain (depth - 1) (after (Sign symbol.Open) lexemes) lexemes
    neg_of-open_or_plain = neg_of-some depth lexemes some ∙ ap (λ found. denied_or_not (depth - 1) found lexemes) (is_none (after (Word (codes "not")) lexemes) no_not)

    -- in brackets
    pub neg_of-open : is_some (after (Sign symbol.Open) lexemes) ≡ true → neg_of depth lexemes ≡ bracketed_of (or_of (neg_of (depth - 1))) lexemes
    unfolding bracketed_of
    neg_of-open taken = neg_of-open_or_plain ∙ opened (after (Sign symbol.Open) lexemes) _ _ taken

    -- without a bracket there is a predicate
    pub neg_of-plain : is_some (after (Sign symbol.Open) lexemes) ≡ false → neg_of depth lexemes ≡ plain_of lexemes
    neg_of-plain none = neg_of-open_or_plain ∙ ap (λ found. open_or_plain (depth - 1) found lexemes) (is_none (after (Sign symbol.Open) lexemes) none)

-- where neither NOT nor a bracket comes first there is a predicate, at every level
pub neg_of-flat : (depth : ℕ) (lexemes : List Lexeme) → (is_some (after (Word (codes "not")) lexemes) || is_some (after (Sign symbol.Open) lexemes)) ≡ false → neg_of depth lexemes ≡ plain_of lexemes
unfolding neg_of
neg_of-flat zero lexemes h = refl
neg_of-flat (suc depth) lexemes h = by_first (after (Word (codes "not")) lexemes) (after (Sign symbol.Open) lexemes) h where
  by_first : (denied opened : Option (List Lexeme)) → (is_some denied || is_some opened) ≡ false → either denied (denied_of (neg_of depth)) (either opened (closed_of (or_of (neg_of depth))) (plain_of lexemes)) ≡ plain_of lexemes
  by_first None None h = refl
  by_first None (Some rest) h = cc
  by_first (Some rest) opened h = cc
