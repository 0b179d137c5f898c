-- What is printed of a token spells it.
use Rattle.std.proofs.Common.{◌≡◌, ℕ, true, List, [], ◌∷◌, map, refl, sym, ◌∙◌, subst, arith}
use Rattle.std.proofs.lemmas.Bool.{cond_both}
use Rattle.std.proofs.lemmas.Bool.Decides.{nat_tests}
use Rattle.std.proofs.lemmas.List.{length-map}
use Rattle.std.proofs.lemmas.List.Elements.{All-map, All-weaker}
use Rattle.mt_lexer.specs.Tokens.{Lexeme, Word, Number, Quoted, Sign, Spells, begins_word, is_in_word, lower}
use Rattle.mt_lexer.specs.Reserved.{is_reserved_name}
use Rattle.mt_show.specs.Text.{upper, lexeme_text, IsWritten}
use Rattle.mt_show.proofs.Numerals.{spells_numeral}

-- a byte in lower case is in lower case
lower-lower : (b : ℕ) → lower (lower b) ≡ lower b
lower-lower b = grind (arith, nat_tests)

-- a capital letter is the small one without regard to case
lower-upper : (b : ℕ) → lower (upper b) ≡ lower b
lower-upper b = grind (arith, nat_tests)

-- what may stand in a word may do so in lower case
in_word_lower : (b : ℕ) → is_in_word b ≡ true → is_in_word (lower b) ≡ true
in_word_lower b h = grind (arith, nat_tests)

-- and in upper case
in_word_upper : (b : ℕ) → is_in_word b ≡ true → is_in_word (upper b) ≡ true
in_word_upper b h = grind (arith, nat_tests)

-- what begins a word does so in lower case
begins_word_lower : (b : ℕ) → begins_word b ≡ true → begins_word (lower b) ≡ true
begins_word_lower b h = grind (arith, nat_tests)

-- and in upper case
begins_word_upper : (b : ℕ) → begins_word b ≡ true → begins_word (upper b) ≡ true
begins_word_upper b h = grind (arith, nat_tests)

-- A change of letters that keeps what a word is.
record KeepsWords (f : ℕ → ℕ) : Type 0 where
  same : (b : ℕ) → lower (f b) ≡ lower b
  inside : (b : ℕ) → is_in_word b ≡ true → is_in_word (f b) ≡ true
  first : (b : ℕ) → begins_word b ≡ true → begins_word (f b) ≡ true

-- such a change keeps a text without regard to case
map_same : (f : ℕ → ℕ) → KeepsWords f → (bytes : List ℕ) → map lower (map f bytes) ≡ map lower bytes
map_same f keeps [] = refl
map_same f keeps (b ∷ bs) = cc (keeps.same b, map_same f keeps bs)

-- and the word that it spells
spells_changed : (f : ℕ → ℕ) → KeepsWords f → (bytes name : List ℕ) → Spells bytes (Word name) → Spells (map f bytes) (Word name)
spells_changed f keeps [] name s = absurd s
spells_changed f keeps (b ∷ bs) name s =
    let P : ℕ → Type 0 = λ b. is_in_word b ≡ true in
    let Q : ℕ → Type 0 = λ b. is_in_word (f b) ≡ true in (
      keeps.first b s.0,
      All-map P f bs (All-weaker P Q keeps.inside bs s.1),
      omega (arith, length-map bs f, s.2),
      s.3 ∙ sym (map_same f keeps (b ∷ bs)),
    )

-- a word that some bytes spell spells itself
spells_itself : (bytes name : List ℕ) → Spells bytes (Word name) → Spells name (Word name)
spells_itself [] name s = absurd s
spells_itself (b ∷ bs) name s =
    let keeps : KeepsWords lower = record { same = lower-lower; inside = in_word_lower; first = begins_word_lower } in
    subst (λ text. Spells text (Word name)) (sym s.3) (spells_changed lower keeps (b ∷ bs) name s)

-- and in upper case too
spells_in_capitals : (name : List ℕ) → Spells name (Word name) → Spells (map upper name) (Word name)
spells_in_capitals name s = spells_changed upper (record { same = lower-upper; inside = in_word_upper; first = begins_word_upper }) name name s

-- the text of each token spells it
pub spells_printed : (lexeme : Lexeme) → IsWritten lexeme → Spells (lexeme_text lexeme) lexeme
spells_printed (Word name) written =
    let itself = spells_itself written.0 name written.1 in
    cond_both (is_reserved_name name) (map upper name) name (λ text. Spells text (Word name)) (λ _. spells_in_capitals name itself) (λ _. itself)
spells_printed (Number value) written = spells_numeral value
spells_printed (Quoted text) written = refl
spells_printed (Sign sign) written = refl
