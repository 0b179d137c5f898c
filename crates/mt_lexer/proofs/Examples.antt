-- Worked examples of what a text says.
use Rattle.std.proofs.Common.{◌≡◌, ℕ, List, [], true, refl, arith}
use Rattle.std.specs.Prelude.{codes}
use Rattle.std.proofs.lemmas.List.Elements.{All-from_recursion}
use Rattle.mt_lexer.specs.declared.token.Symbol.TheVariants as symbol
use Rattle.mt_lexer.specs.Tokens.{Word, Number, Quoted, Sign, Spells, EndsBefore, Says, symbol_bytes, is_in_word, is_digit, is_blank}

-- a quote in a text stands twice
pub quoted_example : Spells (codes "'it''s'") (Quoted (codes "it's"))
quoted_example = refl

-- the shortest text, and one that is a quote
pub empty_example : Spells (codes "''") (Quoted [])
empty_example = refl

-- a text that is one quote
pub quote_example : Spells (codes "''''") (Quoted (codes "'"))
quote_example = refl

-- words are kept in lower case
pub word_example : Spells (codes "Id_2") (Word (codes "id_2"))
word_example = (refl, All-from_recursion (λ b. is_in_word b ≡ true) (codes "d_2") (refl, (refl, (refl, tt))), omega arith, refl)

-- a run of 31 is no word
pub long_example : (name : List ℕ) → Spells (codes "abcdefghijklmnopqrstuvwxyzabcde") (Word name) → ⊥
long_example name h = omega (arith, h.2)

-- a number may begin with zeros
pub number_example : Spells (codes "042") (Number 42)
number_example = (omega arith, All-from_recursion (λ b. is_digit b ≡ true) (codes "042") (refl, (refl, (refl, tt))), refl)

-- a symbol of two bytes
pub sign_example : Spells (codes "<=") (Sign symbol.LessEqual)
unfolding symbol_bytes
sign_example = refl

-- the first of these bytes is no symbol of its own before the second
pub longest_example : EndsBefore (Sign symbol.Less) (codes "=1") → ⊥
longest_example h = cc

-- a number ends before no letter
pub number_before_letter_example : EndsBefore (Number 5) (codes "a") → ⊥
number_before_letter_example h = cc

-- no text at all is no token
pub nothing_example : Says [] [] []
nothing_example = record { upto = 0; stand = refl; rest = record { forward = omega arith; within = omega arith; blank = All-from_recursion (λ b. is_blank b ≡ true) [] tt } }
