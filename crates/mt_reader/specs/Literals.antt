-- Literals, and the numbers that 64 bits hold.
use Rattle.std.specs.Prelude.{◌≡◌, ◌⊎◌, ℕ, ◌^◌, pos, neg_ℤ, ◌≤ℤ◌, ◌<ℤ◌, List, [], ◌∷◌, codes}
use Rattle.mt_lexer.specs.Tokens.{Lexeme, Word, Number, Quoted, Sign}
use Rattle.mt_lexer.specs.declared.token.Symbol.TheVariants.{Minus}
use Rattle.mt_tree.specs.declared.expression.Literal.{Literal}
use Rattle.mt_tree.specs.declared.expression.Literal.TheVariants.{Null, Int, Text}

-- a number, perhaps with a minus sign, a text, or NULL
abbrev pub SpellsLiteral : List Lexeme → Literal → Type 0
SpellsLiteral tokens Null = tokens ≡ Word (codes "null") ∷ []
SpellsLiteral tokens (Int z) = (n : ℕ) × (((tokens ≡ Number n ∷ []) × (z ≡ pos n)) ⊎ ((tokens ≡ Sign Minus ∷ Number n ∷ []) × (z ≡ neg_ℤ (pos n))))
SpellsLiteral tokens (Text text) = tokens ≡ Quoted text ∷ []

-- every number of the language is at most 2^63 - 1, also where its limits are narrower
abbrev pub limit_64 : ℕ
limit_64 = 2 ^ 63

-- each number is inside 64 bits
abbrev pub IsLiteralInside : Literal → Type 0
IsLiteralInside Null = Unit {0}
IsLiteralInside (Int z) = (neg_ℤ (pos limit_64) ≤ℤ z) × (z <ℤ pos limit_64)
IsLiteralInside (Text text) = Unit {0}
