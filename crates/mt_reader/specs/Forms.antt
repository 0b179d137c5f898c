-- What the rules of the grammar are made of. A form says which tokens spell which trees.
use Rattle.std.specs.Prelude.{◌≡◌, ◌⊎◌, ℕ, ◌≤◌, Bool, true, false, List, [], ◌∷◌, ◌++◌, length, Option, Some, None}
use Rattle.mt_lexer.specs.Tokens.{Lexeme, Word, Sign}
use Rattle.mt_lexer.specs.declared.token.Symbol.TheVariants.{Open, Close, Comma, Semicolon}

-- List Lexeme → T → Type 0
abbrev pub Form : Type 0 → Type 1
Form T = List Lexeme → T → Type 0

-- one item, or an item, the separator, and more of the same
pub record Both {T : Type 0} (item : Form T) (by : Lexeme) (more : List Lexeme → Type 0) (tokens : List Lexeme) (tree : T) : Type 0 where
  pub front : List Lexeme
  pub back : List Lexeme
  pub split : tokens ≡ front ++ by ∷ back
  pub first : item front tree
  pub others : more back

-- one item or more, with the separator between each and the next
abbrev pub Separated : {T : Type 0} → Form T → Lexeme → List Lexeme → List T → Type 0
Separated item by tokens [] = ⊥
Separated item by tokens (x ∷ []) = item tokens x
Separated item by tokens (x ∷ y ∷ ys) = Both item by (λ back. Separated item by back (y ∷ ys)) tokens x

-- one item or more, with commas between
abbrev pub Commas : {T : Type 0} → Form T → List Lexeme → List T → Type 0
Commas item tokens xs = Separated item (Sign Comma) tokens xs

-- perhaps with a semicolon at the end
pub record WithSemicolon {T : Type 0} (form : Form T) (tokens : List Lexeme) (tree : T) : Type 0 where
  pub front : List Lexeme
  pub end : (tokens ≡ front) ⊎ (tokens ≡ front ++ Sign Semicolon ∷ [])
  pub body : form front tree

-- one item is itself; two or more, with the separator between, are joined into one tree
pub record Many {T : Type 0} (item : Form T) (by : Lexeme) (join : List T → T) (tokens : List Lexeme) (tree : T) : Type 0 where
  pub members : List T
  pub joined : tree ≡ join members
  pub many : 2 ≤ length members
  pub separated : Separated item by tokens members

-- one item alone, or many that are joined
abbrev pub Joined : {T : Type 0} → Form T → Lexeme → (List T → T) → List Lexeme → T → Type 0
Joined item by join tokens tree = item tokens tree ⊎ Many item by join tokens tree

-- one word
abbrev pub word : List ℕ → List Lexeme
word name = Word name ∷ []

-- in brackets
pub record Bracketed {T : Type 0} (form : Form T) (tokens : List Lexeme) (tree : T) : Type 0 where
  pub inner : List Lexeme
  pub brackets : tokens ≡ Sign Open ∷ (inner ++ Sign Close ∷ [])
  pub body : form inner tree

-- behind words
pub record Behind {T : Type 0} (words : List Lexeme) (form : Form T) (tokens : List Lexeme) (tree : T) : Type 0 where
  pub inner : List Lexeme
  pub prefix : tokens ≡ words ++ inner
  pub body : form inner tree

-- two parts, one behind the other
pub record Parts (left right : List Lexeme → Type 0) (tokens : List Lexeme) : Type 0 where
  pub front : List Lexeme
  pub back : List Lexeme
  pub split : tokens ≡ front ++ back
  pub is_left : left front
  pub is_right : right back

-- these tokens and no others
abbrev pub Just : List Lexeme → List Lexeme → Type 0
Just words tokens = tokens ≡ words

-- a part that need not be written
abbrev pub Maybe : {T : Type 0} → Form T → List Lexeme → Option T → Type 0
Maybe form tokens None = tokens ≡ []
Maybe form tokens (Some tree) = form tokens tree

-- a part that is written exactly where the list has a member
abbrev pub MaybeList : {T : Type 0} → Form (List T) → List Lexeme → List T → Type 0
MaybeList form tokens [] = tokens ≡ []
MaybeList form tokens (x ∷ xs) = form tokens (x ∷ xs)

-- words that are written exactly where the flag is set
abbrev pub Flag : List Lexeme → List Lexeme → Bool → Type 0
Flag words tokens true = tokens ≡ words
Flag words tokens false = tokens ≡ []
