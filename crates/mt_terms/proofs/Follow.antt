-- What is spelled is read, where nothing comes behind it with which the form goes on.
use Rattle.std.proofs.Common.{◌≡◌, Bool, true, false, Option, Some, None, List, ◌∷◌, refl}
use Rattle.std.specs.Prelude.{codes}
use Rattle.mt_lexer.specs.declared.token.Symbol.TheVariants as symbol
use Rattle.mt_lexer.specs.Tokens.{Lexeme, Word, Sign}
use Rattle.mt_reader.specs.Fronts.{BeginsWithNone}
use Rattle.mt_reader.proofs.Fronts.{none_after}
use Rattle.mt_reader.proofs.Spelling.{IsCompleteBefore}
use Rattle.mt_terms.specs.Condition.{SpellsCond}
use Rattle.mt_terms.specs.Expression.{SpellsColumn, SpellsExpr}
use Rattle.mt_terms.specs.Descent.{column_of, sign_of, expr_of, cond_of}
use Rattle.mt_terms.specs.Follow.{atom_goes_on, expr_goes_on, cond_goes_on}
use Rattle.mt_terms.proofs.Atoms.{column_complete}
use Rattle.mt_terms.proofs.Conditions.{EndsOr, cond_complete}
use Rattle.mt_terms.proofs.Expressions.{EndsSum, expr_complete}
use Rattle.mt_terms.proofs.Tails.{sign_is}

-- a column
pub column_follows : IsCompleteBefore SpellsColumn (BeginsWithNone atom_goes_on) column_of
column_follows front more tree end s = column_complete front more tree (none_after (Sign symbol.Dot) more end.0) s

-- no sign comes first
no_sign : (tokens : List Lexeme) → ((rest : List Lexeme) → tokens ≡ Sign symbol.Plus ∷ rest → ⊥) → ((rest : List Lexeme) → tokens ≡ Sign symbol.Minus ∷ rest → ⊥) → sign_of tokens ≡ None
no_sign tokens plus minus = by_sign (sign_of tokens) refl where
  by_sign : (sign : Option (Bool × List Lexeme)) → sign_of tokens ≡ sign → sign_of tokens ≡ None
  by_sign None a = a
  by_sign (Some (true, rest)) a = absurd (minus rest (sign_is tokens rest true a))
  by_sign (Some (false, rest)) a = absurd (plus rest (sign_is tokens rest false a))

-- an expression
pub expr_follows : IsCompleteBefore SpellsExpr (BeginsWithNone expr_goes_on) expr_of
expr_follows front more tree end s =
    let ends : EndsSum more = (
      (none_after (Sign symbol.Dot) more end.0, none_after (Sign symbol.Star) more end.1.0),
      no_sign more end.1.1.0 end.1.1.1.0,
    ) in
    expr_complete front more tree ends s

-- a condition
pub cond_follows : IsCompleteBefore SpellsCond (BeginsWithNone cond_goes_on) cond_of
cond_follows front more tree end s =
    let ends : EndsOr more = (
      (none_after (Sign symbol.Dot) more end.0, none_after (Word (codes "and")) more end.1.0),
      none_after (Word (codes "or")) more end.1.1.0,
    ) in
    cond_complete front more tree ends s
