-- Conditions. Brackets and NOT nest, and a depth counts both.
use Rattle.std.specs.Prelude.{◌≡◌, ◌⊎◌, ℕ, zero, suc, Bool, Option, List, [], ◌∷◌, codes}
use Rattle.mt_lexer.specs.Tokens.{Lexeme, Word, Sign}
use Rattle.mt_lexer.specs.declared.token.Symbol.{Symbol}
use Rattle.mt_lexer.specs.declared.token.Symbol.TheVariants.{Equal, NotEqual, Less, LessEqual, Greater, GreaterEqual}
use Rattle.mt_value.specs.declared.truth.Cmp.{Cmp}
use Rattle.mt_value.specs.declared.truth.Cmp.TheVariants.{Eq, Ne, Lt, Le, Gt, Ge}
use Rattle.mt_tree.specs.declared.expression.Atom.{Atom}
use Rattle.mt_tree.specs.declared.expression.Cond.{Cond}
use Rattle.mt_tree.specs.declared.expression.Cond.TheVariants as cond
use Rattle.mt_reader.specs.Forms.{Form, Joined, Commas, Bracketed, Behind, Parts, Just, Maybe, Flag, word}
use Rattle.mt_terms.specs.Expression.{SpellsAtom}

-- '=' | '<>' | '<' | '<=' | '>' | '>='
abbrev pub comparison_symbol : Cmp → Symbol
comparison_symbol Eq = Equal
comparison_symbol Ne = NotEqual
comparison_symbol Lt = Less
comparison_symbol Le = LessEqual
comparison_symbol Gt = Greater
comparison_symbol Ge = GreaterEqual

-- NOT, where the predicate is negated
abbrev pub SpellsNot : List Lexeme → Bool → Type 0
SpellsNot tokens negated = Flag (Word (codes "not") ∷ []) tokens negated

-- an atom, and more behind it
abbrev pub AtomThen : Atom → (List Lexeme → Type 0) → List Lexeme → Type 0
AtomThen atom more tokens = Parts (λ front. SpellsAtom front atom) more tokens

-- perhaps NOT, and more behind it
abbrev pub NotThen : Bool → (List Lexeme → Type 0) → List Lexeme → Type 0
NotThen negated more tokens = Parts (λ front. SpellsNot front negated) more tokens

-- a word, and more behind it
abbrev pub WordThen : List ℕ → (List Lexeme → Type 0) → List Lexeme → Type 0
WordThen word more tokens = Parts (Just (Word word ∷ [])) more tokens

-- atom cmp atom | atom [NOT] IN '(' atom {',' atom} ')' | atom [NOT] BETWEEN atom AND atom
-- | atom [NOT] LIKE atom | atom IS [NOT] NULL
abbrev pub SpellsPlain : List Lexeme → Cond → Type 0
SpellsPlain tokens (cond.Compare op left right) = AtomThen left (λ back. Behind (Sign (comparison_symbol op) ∷ []) SpellsAtom back right) tokens
SpellsPlain tokens (cond.Member negated atom list) = AtomThen atom (NotThen negated (WordThen (codes "in") (λ back. Bracketed (Commas SpellsAtom) back list))) tokens
SpellsPlain tokens (cond.Between negated atom low high) = AtomThen atom (NotThen negated (WordThen (codes "between") (AtomThen low (λ back. Behind (Word (codes "and") ∷ []) SpellsAtom back high)))) tokens
SpellsPlain tokens (cond.Like negated atom pattern) = AtomThen atom (NotThen negated (λ back. Behind (Word (codes "like") ∷ []) SpellsAtom back pattern)) tokens
SpellsPlain tokens (cond.IsNull negated atom) = AtomThen atom (WordThen (codes "is") (NotThen negated (Just (Word (codes "null") ∷ [])))) tokens
SpellsPlain tokens other = ⊥

-- NOT neg
abbrev pub SpellsNegated : Form Cond → List Lexeme → Cond → Type 0
SpellsNegated neg tokens c = (inner : Cond) × (c ≡ cond.Not inner) × Behind (Word (codes "not") ∷ []) neg tokens inner

-- conj {OR conj}, where conj is neg {AND neg}
abbrev pub SpellsOr : Form Cond → List Lexeme → Cond → Type 0
SpellsOr neg tokens c = Joined (Joined neg (Word (codes "and")) cond.And) (Word (codes "or")) cond.Or tokens c

-- NOT neg | pred, with so many brackets and NOT about one another at most
abbrev pub SpellsNeg : ℕ → List Lexeme → Cond → Type 0
SpellsNeg zero tokens c = SpellsPlain tokens c
SpellsNeg (suc depth) tokens c = SpellsPlain tokens c ⊎ (SpellsNegated (SpellsNeg depth) tokens c ⊎ Bracketed (SpellsOr (SpellsNeg depth)) tokens c)

-- a condition, with 64 brackets and NOT about one another at most
unfoldable pub SpellsCond : List Lexeme → Cond → Type 0
SpellsCond tokens c = SpellsOr (SpellsNeg 64) tokens c

-- [WHERE cond]
abbrev pub SpellsWhere : List Lexeme → Option Cond → Type 0
SpellsWhere tokens cond = Maybe (Behind (word (codes "where")) SpellsCond) tokens cond
