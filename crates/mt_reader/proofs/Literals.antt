-- A literal by its first lexeme.
use Rattle.std.proofs.Common.{◌≡◌, ℕ, Bool, true, false, not, Option, Some, None, List, [], ◌∷◌, drop, refl, sym, ap, ◌∙◌, pos, neg_ℤ}
use Rattle.std.proofs.lemmas.Bool.{not-true}
use Rattle.std.specs.Str.{bytes_eq}
use Rattle.std.specs.Option.{option_and_then}
use Rattle.std.specs.Prelude.{codes}
use Rattle.mt_lexer.specs.declared.token.Symbol.{Symbol}
use Rattle.mt_lexer.specs.declared.token.Symbol.TheVariants as symbol
use Rattle.mt_lexer.specs.Tokens.{Lexeme, Word, Number, Quoted, Sign}
use Rattle.mt_tree.specs.declared.expression.Literal.{Literal}
use Rattle.mt_tree.specs.declared.expression.Literal.TheVariants.{Null, Int, Text}
use Rattle.mt_reader.specs.declared.fault.ReadFault.{ReadFault}
use Rattle.mt_reader.specs.declared.fault.ReadFault.TheVariants as fault
use Rattle.mt_reader.specs.Descent.{after, is_same_symbol, literal_of, number_of}
use Rattle.mt_reader.specs.Taken.{Fails}
use Rattle.mt_reader.proofs.Steps.{stays, skips}

-- why a first step fails is why both do
pub fails_bind : {A B : Type 0} (e : ReadFault) (o : Option A) (f : A → Option B) → Fails e o → Fails e (option_and_then f o)
fails_bind fault.Unread o f h = ap (option_and_then f) h
fails_bind fault.Memory o f h = tt

-- what reads behind NULL
abbrev null_behind : List Lexeme → Option (Literal × List Lexeme)
null_behind rest = Some (Null, rest)

-- what reads behind a minus and a number
abbrev pub negative_behind : ℕ × List Lexeme → Option (Literal × List Lexeme)
negative_behind number = Some (Int (neg_ℤ (pos number.0)), number.1)

-- at the end there is no literal
pub literal_of_end : (lexemes : List Lexeme) → lexemes ≡ [] → literal_of lexemes ≡ None
unfolding literal_of
literal_of_end lexemes e = ap literal_of e

-- a word is NULL
literal_of_word : (word : List ℕ) (lexemes : List Lexeme) → lexemes ≡ Word word ∷ drop 1 lexemes → literal_of lexemes ≡ option_and_then null_behind (after (Word (codes "null")) lexemes)
unfolding literal_of
literal_of_word word lexemes e = ap literal_of e ∙ ap (λ ls. option_and_then null_behind (after (Word (codes "null")) ls)) (sym e)

-- NULL is taken
pub literal_of_null : (word : List ℕ) (lexemes rest : List Lexeme) → lexemes ≡ Word word ∷ drop 1 lexemes → bytes_eq word (codes "null") ≡ true → rest ≡ drop 1 lexemes → literal_of lexemes ≡ Some (Null, rest)
literal_of_null word lexemes rest e same r = literal_of_word word lexemes e ∙ ap (option_and_then null_behind) (skips (Word word) (Word (codes "null")) lexemes rest e same r)

-- any other word is no literal
pub literal_of_other_word : (word : List ℕ) (lexemes : List Lexeme) → lexemes ≡ Word word ∷ drop 1 lexemes → bytes_eq word (codes "null") ≡ false → literal_of lexemes ≡ None
literal_of_other_word word lexemes e other = literal_of_word word lexemes e ∙ ap (option_and_then null_behind) (stays (Word word) (Word (codes "null")) lexemes e other).0

-- a number is an integer
pub literal_of_number : (value : ℕ) (lexemes rest : List Lexeme) → lexemes ≡ Number value ∷ drop 1 lexemes → rest ≡ drop 1 lexemes → literal_of lexemes ≡ Some (Int (pos value), rest)
unfolding literal_of
literal_of_number value lexemes rest e r = ap literal_of e ∙ ap (λ ls. Some (Int (pos value), ls)) (sym r)

-- a text in quotes is a text
pub literal_of_quoted : (text : List ℕ) (lexemes rest : List Lexeme) → lexemes ≡ Quoted text ∷ drop 1 lexemes → rest ≡ drop 1 lexemes → literal_of lexemes ≡ Some (Text text, rest)
unfolding literal_of
literal_of_quoted text lexemes rest e r = ap literal_of e ∙ ap (λ ls. Some (Text text, ls)) (sym r)

-- the number behind a minus
abbrev minus_behind : List Lexeme → Option (Literal × List Lexeme)
minus_behind rest = option_and_then negative_behind (number_of rest)

-- a symbol is a minus, with a number behind it
literal_of_sign : (sign : Symbol) (lexemes : List Lexeme) → lexemes ≡ Sign sign ∷ drop 1 lexemes → literal_of lexemes ≡ option_and_then minus_behind (after (Sign symbol.Minus) lexemes)
unfolding literal_of
literal_of_sign sign lexemes e = ap literal_of e ∙ ap (λ ls. option_and_then minus_behind (after (Sign symbol.Minus) ls)) (sym e)

-- a minus is taken, and a number is read behind it
pub literal_of_minus : (sign : Symbol) (lexemes rest : List Lexeme) → lexemes ≡ Sign sign ∷ drop 1 lexemes → not (is_same_symbol sign symbol.Minus) ≡ false → rest ≡ drop 1 lexemes → literal_of lexemes ≡ option_and_then negative_behind (number_of rest)
literal_of_minus sign lexemes rest e same r = literal_of_sign sign lexemes e ∙ ap (option_and_then minus_behind) (skips (Sign sign) (Sign symbol.Minus) lexemes rest e (holds (is_same_symbol sign symbol.Minus) same) r) where
  holds : (test : Bool) → not test ≡ false → test ≡ true
  holds true e = refl
  holds false e = cc

-- any other symbol begins no literal
pub literal_of_other_sign : (sign : Symbol) (lexemes : List Lexeme) → lexemes ≡ Sign sign ∷ drop 1 lexemes → not (is_same_symbol sign symbol.Minus) ≡ true → literal_of lexemes ≡ None
literal_of_other_sign sign lexemes e other = literal_of_sign sign lexemes e ∙ ap (option_and_then minus_behind) (stays (Sign sign) (Sign symbol.Minus) lexemes e (not-true (is_same_symbol sign symbol.Minus) other)).0
