-- The forms as functions, which read lexemes from the left: the tree, and the lexemes behind it.
use Rattle.std.specs.Prelude.{ℕ, zero, suc, Bool, true, false, not, if◌then◌else◌, Option, Some, None, option_and_then, unwrap_or, pos, neg_ℤ, List, [], ◌∷◌, ◌++◌, length, codes}
use Rattle.std.specs.Str.{bytes_eq}
use denote.Enum.Bare.{sameb}
use Rattle.mt_lexer.specs.contracts.token.Symbol.{the_type}
use Rattle.mt_lexer.specs.declared.token.Symbol.{Symbol}
use Rattle.mt_lexer.specs.declared.token.Symbol.TheVariants as symbol
use Rattle.mt_lexer.specs.Tokens.{Lexeme, Word, Number, Quoted, Sign}
use Rattle.mt_tree.specs.declared.expression.Literal.{Literal}
use Rattle.mt_tree.specs.declared.expression.Literal.TheVariants.{Null, Int, Text}
use Rattle.mt_lexer.specs.Reserved.{is_reserved_name}

infixl 10 ◌>>=◌
-- what is read next from what was read, if there is anything
abbrev pub ◌>>=◌ : {A B : Type 0} → Option A → (A → Option B) → Option B
o >>= f = option_and_then f o

-- words and symbols are told apart by a test
abbrev pub is_same_symbol : Symbol → Symbol → Bool
is_same_symbol a b = sameb the_type a b

-- whether two words, or two symbols, are one
abbrev pub is_same : Lexeme → Lexeme → Bool
is_same (Word a) (Word b) = bytes_eq a b
is_same (Sign a) (Sign b) = is_same_symbol a b
is_same a b = false

-- behind this word or symbol
unfoldable pub after : Lexeme → List Lexeme → Option (List Lexeme)
after lexeme [] = None
after lexeme (first ∷ rest) = if is_same first lexeme then Some rest else None

-- what reads behind a word or symbol, where it is there, and else the other
abbrev pub either : {X : Type 0} → Option (List Lexeme) → (List Lexeme → Option X) → Option X → Option X
either None read other = other
either (Some rest) read other = read rest

-- a word that is not reserved
unfoldable pub name_of : List Lexeme → Option (List ℕ × List Lexeme)
name_of [] = None
name_of (Word name ∷ rest) = if is_reserved_name name then None else Some (name, rest)
name_of (lexeme ∷ rest) = None

-- whether a word comes first that is not reserved
abbrev pub begins_with_name : List Lexeme → Bool
begins_with_name [] = false
begins_with_name (Word name ∷ rest) = not (is_reserved_name name)
begins_with_name (lexeme ∷ rest) = false

-- whether a word comes first
abbrev pub begins_with_word : List Lexeme → Bool
begins_with_word [] = false
begins_with_word (Word name ∷ rest) = true
begins_with_word (lexeme ∷ rest) = false

-- the symbol that comes first
abbrev pub first_symbol : List Lexeme → Option Symbol
first_symbol [] = None
first_symbol (Sign sign ∷ rest) = Some sign
first_symbol (lexeme ∷ rest) = None

-- a number
unfoldable pub number_of : List Lexeme → Option (ℕ × List Lexeme)
number_of [] = None
number_of (Number value ∷ rest) = Some (value, rest)
number_of (lexeme ∷ rest) = None

-- NULL, a number, a text, or a minus and a number
unfoldable pub literal_of : List Lexeme → Option (Literal × List Lexeme)
literal_of [] = None
literal_of (Word name ∷ rest) = do
  null ← after (Word (codes "null")) (Word name ∷ rest)
  Some (Null, null)
literal_of (Number value ∷ rest) = Some (Int (pos value), rest)
literal_of (Quoted text ∷ rest) = Some (Text text, rest)
literal_of (Sign sign ∷ rest) = do
  minus ← after (Sign symbol.Minus) (Sign sign ∷ rest)
  number ← number_of minus
  Some (Int (neg_ℤ (pos number.0)), number.1)

-- behind more items of a list
abbrev pub with_front : {X : Type 0} → List X → Option (List X × List Lexeme) → Option (List X × List Lexeme)
with_front front read = option_and_then (λ more. Some (front ++ more.0, more.1)) read

-- all items with one more, where all are there
abbrev pub pushed : {X : Type 0} → Option (List X) → Option X → Option (List X)
pushed None item = None
pushed (Some items) None = None
pushed (Some items) (Some item) = Some (items ++ item ∷ [])

-- no more items where no separator comes
abbrev pub items_behind : {X : Type 0} → (List Lexeme → Option (List X × List Lexeme)) → List Lexeme → Option (List Lexeme) → Option (List X × List Lexeme)
items_behind more lexemes None = Some ([], lexemes)
items_behind more lexemes (Some rest) = more rest

-- one item, and more behind each separator, as many as fuel at most
abbrev pub items_of : {X : Type 0} → (List Lexeme → Option (X × List Lexeme)) → Lexeme → ℕ → List Lexeme → Option (List X × List Lexeme)
items_of item by zero lexemes = None
items_of item by (suc fuel) lexemes = do
  first ← item lexemes
  with_front (first.0 ∷ []) (items_behind (items_of item by fuel) first.1 (after by first.1))

-- items with the separator between them, as many as there are
unfoldable pub separated_of : {X : Type 0} → (List Lexeme → Option (X × List Lexeme)) → Lexeme → List Lexeme → Option (List X × List Lexeme)
separated_of item by lexemes = items_of item by (length lexemes) lexemes

-- what is read, up to the bracket that closes behind it
abbrev pub closed_of : {X : Type 0} → (List Lexeme → Option (X × List Lexeme)) → List Lexeme → Option (X × List Lexeme)
closed_of read lexemes = do
  inner ← read lexemes
  close ← after (Sign symbol.Close) inner.1
  Some (inner.0, close)

-- what is read in brackets
unfoldable pub bracketed_of : {X : Type 0} → (List Lexeme → Option (X × List Lexeme)) → List Lexeme → Option (X × List Lexeme)
bracketed_of read lexemes = do
  open_ ← after (Sign symbol.Open) lexemes
  closed_of read open_

-- names in brackets
abbrev pub names_of : List Lexeme → Option (List (List ℕ) × List Lexeme)
names_of lexemes = bracketed_of (separated_of name_of (Sign symbol.Comma)) lexemes

-- an item behind the word, where the word is there
abbrev pub maybe_behind : {X : Type 0} → (List Lexeme → Option (X × List Lexeme)) → List Lexeme → Option (List Lexeme) → Option (Option X × List Lexeme)
maybe_behind item lexemes None = Some (None, lexemes)
maybe_behind item lexemes (Some rest) = do
  found ← item rest
  Some (Some found.0, found.1)

-- perhaps a word, and an item behind it
unfoldable pub maybe_of : {X : Type 0} → (List Lexeme → Option (X × List Lexeme)) → Lexeme → List Lexeme → Option (Option X × List Lexeme)
maybe_of item by lexemes = maybe_behind item lexemes (after by lexemes)

-- one item is itself, and more are joined
abbrev pub joined_tree : {X : Type 0} → (List X → X) → List X → X
joined_tree join [] = join []
joined_tree join (x ∷ []) = x
joined_tree join (x ∷ y ∷ ys) = join (x ∷ y ∷ ys)

-- items with the separator between them, joined into one tree where there are more than one
unfoldable pub joined_of : {X : Type 0} → (List Lexeme → Option (X × List Lexeme)) → Lexeme → (List X → X) → List Lexeme → Option (X × List Lexeme)
joined_of item by join lexemes = do
  items ← separated_of item by lexemes
  Some (joined_tree join items.0, items.1)

-- whether nothing is left
abbrev pub is_end : List Lexeme → Bool
is_end [] = true
is_end (lexeme ∷ lexemes) = false

-- nothing is left but perhaps a semicolon
unfoldable pub end_of : List Lexeme → Option (Unit {0})
end_of lexemes = if is_end (unwrap_or (after (Sign symbol.Semicolon) lexemes) lexemes) then Some tt else None

-- the tree, where nothing is left
abbrev pub ended : {X : Type 0} → Option (X × List Lexeme) → Option X
ended read = do
  found ← read
  nothing ← end_of found.1
  Some found.0
