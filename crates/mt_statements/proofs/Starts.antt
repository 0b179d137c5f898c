-- What stands behind a part: nothing, or one of a few words and symbols.
use Rattle.std.proofs.Common.{◌≡◌, ◌⊎◌, Bool, true, false, not, ◌||◌, Option, Some, None, List, [], ◌∷◌, ◌++◌, refl, sym, ap, ◌∙◌, subst, inl, inr}
use Rattle.std.proofs.lemmas.Bool.{cond-false}
use Rattle.std.specs.List.{list_any}
use Rattle.std.specs.Prelude.{codes}
use Rattle.mt_lexer.specs.declared.token.Symbol.TheVariants as symbol
use Rattle.mt_lexer.specs.Tokens.{Lexeme, Word, Number, Quoted, Sign}
use Rattle.mt_reader.specs.Descent.{is_same, after, begins_with_name}
use Rattle.mt_reader.specs.Forms.{Form, Behind, Commas, MaybeList}
use Rattle.mt_reader.specs.Fronts.{AtEnd, BeginsWithNone}
use Rattle.mt_reader.proofs.Fronts.{after_none}
use Rattle.mt_reader.proofs.Maybes.{MaybeBehind}

-- nothing is left, or one of these comes first
abbrev pub StartsAmong : List Lexeme → List Lexeme → Type 0
StartsAmong [] tokens = tokens ≡ []
StartsAmong (lexeme ∷ lexemes) tokens = ((rest : List Lexeme) × (tokens ≡ lexeme ∷ rest)) ⊎ StartsAmong lexemes tokens

-- the starts of what may stand behind each clause, from the last one on
abbrev pub behind_limit : List Lexeme
behind_limit = Sign symbol.Semicolon ∷ []

-- behind ORDER BY
abbrev pub behind_order : List Lexeme
behind_order = Word (codes "limit") ∷ behind_limit

-- behind HAVING
abbrev pub behind_having : List Lexeme
behind_having = Word (codes "order") ∷ behind_order

-- behind GROUP BY
abbrev pub behind_group : List Lexeme
behind_group = Word (codes "having") ∷ behind_having

-- behind WHERE
abbrev pub behind_where : List Lexeme
behind_where = Word (codes "group") ∷ behind_group

-- behind the references
abbrev pub behind_refs : List Lexeme
behind_refs = Word (codes "where") ∷ behind_where

-- neither of two tests holds
or_none : (a b : Bool) → (a || b) ≡ false → (a ≡ false) × (b ≡ false)
or_none true b e = cc
or_none false b e = (refl, e)

-- what is none of these does not come first
pub among_none : (x : Lexeme) (lexemes tokens : List Lexeme) → list_any (λ lexeme. is_same lexeme x) lexemes ≡ false → StartsAmong lexemes tokens → after x tokens ≡ None
unfolding after
among_none x [] tokens other s = ap (after x) s
among_none x (lexeme ∷ lexemes) tokens other s =
    let h = or_none (is_same lexeme x) (list_any (λ lexeme. is_same lexeme x) lexemes) other in
    elim s [
      | inl first ↦ ap (after x) first.1 ∙ cond-false (is_same lexeme x) (Some first.0) None h.0
      | inr more ↦ among_none x lexemes tokens h.1 more
    ]

-- whether one of the first list is one of the second
abbrev pub clash : List Lexeme → List Lexeme → Bool
clash lexemes others = list_any (λ other. list_any (λ lexeme. is_same lexeme other) lexemes) others

-- whether one of these is told apart from itself
abbrev pub unlike : List Lexeme → Bool
unlike lexemes = list_any (λ lexeme. not (is_same lexeme lexeme)) lexemes

-- a test that does not fail holds
not_none : (a : Bool) → not a ≡ false → a ≡ true
not_none true e = refl
not_none false e = cc

-- none of the others comes first
pub among_begins_none : (lexemes others tokens : List Lexeme) → clash lexemes others ≡ false → unlike others ≡ false → StartsAmong lexemes tokens → BeginsWithNone others tokens
among_begins_none lexemes [] tokens other same s = tt
among_begins_none lexemes (x ∷ xs) tokens other same s =
    let h = or_none (list_any (λ lexeme. is_same lexeme x) lexemes) (clash lexemes xs) other in
    let i = or_none (not (is_same x x)) (unlike xs) same in
    (after_none x tokens (not_none (is_same x x) i.0) (among_none x lexemes tokens h.0 s), among_begins_none lexemes xs tokens h.1 i.1 s)

-- one lexeme decides whether a name comes first
name_first : (lexeme : Lexeme) (rest : List Lexeme) → begins_with_name (lexeme ∷ rest) ≡ begins_with_name (lexeme ∷ [])
name_first (Word name) rest = refl
name_first (Number value) rest = refl
name_first (Quoted text) rest = refl
name_first (Sign sign) rest = refl

-- where none of these is a name, no name comes first
pub among_no_name : (lexemes tokens : List Lexeme) → list_any (λ lexeme. begins_with_name (lexeme ∷ [])) lexemes ≡ false → StartsAmong lexemes tokens → begins_with_name tokens ≡ false
among_no_name [] tokens other s = ap begins_with_name s
among_no_name (lexeme ∷ lexemes) tokens other s =
    let h = or_none (begins_with_name (lexeme ∷ [])) (list_any (λ lexeme. begins_with_name (lexeme ∷ [])) lexemes) other in
    elim s [
      | inl first ↦ ap begins_with_name first.1 ∙ name_first lexeme first.0 ∙ h.0
      | inr more ↦ among_no_name lexemes tokens h.1 more
    ]

-- in front of these perhaps a part with a word before it
pub among_maybe : {T : Type 0} (form : Form T) (by : Lexeme) (lexemes front more : List Lexeme) (tree : Option T) → MaybeBehind form by front tree → StartsAmong lexemes more → StartsAmong (by ∷ lexemes) (front ++ more)
among_maybe form by lexemes front more None s m = inr (subst (StartsAmong lexemes) (ap (λ ls. ls ++ more) (sym s)) m)
among_maybe form by lexemes front more (Some tree) s m = inl (s.inner ++ more, ap (λ ls. ls ++ more) s.prefix)

-- a word, another one, and items with commas between, or nothing
abbrev pub MaybeListed : {T : Type 0} → Form T → Lexeme → List Lexeme → List T → Type 0
MaybeListed form by tokens trees = MaybeList (Behind (by ∷ Word (codes "by") ∷ []) (Commas form)) tokens trees

-- in front of these perhaps a list with words before it
pub among_listed : {T : Type 0} (form : Form T) (by : Lexeme) (lexemes front more : List Lexeme) (trees : List T) → MaybeListed form by front trees → StartsAmong lexemes more → StartsAmong (by ∷ lexemes) (front ++ more)
among_listed form by lexemes front more [] s m = inr (subst (StartsAmong lexemes) (ap (λ ls. ls ++ more) (sym s)) m)
among_listed form by lexemes front more (x ∷ xs) s m = inl (Word (codes "by") ∷ (s.inner ++ more), ap (λ ls. ls ++ more) s.prefix)

-- the end of the tokens
pub at_end_among : (tokens : List Lexeme) → AtEnd tokens → StartsAmong behind_limit tokens
at_end_among tokens end = elim end [ inl none ↦ inr none | inr one ↦ inl ([], one) ]
