-- Reserved words have no capital letters.
use Rattle.std.proofs.Common.{◌≡◌, ℕ, Bool, true, false, ◌&&◌, not, List, [], ◌∷◌, map, refl, sym, ap, ◌∙◌, arith, inl, inr}
use Rattle.std.proofs.Math.Bool.{and-true}
use Rattle.std.proofs.lemmas.Bool.{false≢true, or_cases, and_parts, and_right, not-true, false_from_ne_true}
use Rattle.std.proofs.lemmas.Slice.Eq.{bytes_eq-Decides}
use Rattle.std.proofs.lemmas.Bool.Decides.{nat_tests}
use Rattle.std.specs.Char.{to_ascii_uppercase}
use Rattle.std.specs.List.{list_any, list_all}
use Rattle.std.specs.Str.{bytes_eq}
use Rattle.mt_lexer.specs.Tokens.{is_upper, lower}
use Rattle.mt_lexer.proofs.LowerWords.{lower_text}
use Rattle.mt_lexer.specs.Reserved.{reserved}
use Rattle.mt_lexer.specs.Reserved.{is_reserved_name}
use Rattle.mt_show.specs.Text.{upper}

-- std's upper case of a byte is the crate's
upper_is_ascii : (b : ℕ) → to_ascii_uppercase b ≡ upper b
upper_is_ascii b = grind (arith, nat_tests)

-- and so is that of a text
pub map_upper : (bytes : List ℕ) → map to_ascii_uppercase bytes ≡ map upper bytes
map_upper [] = refl
map_upper (b ∷ bs) = cc (upper_is_ascii b, map_upper bs)

-- a text equal to one of these has no capital letter, where none of them has one
among_small : (bytes : List ℕ) (words : List (List ℕ)) → list_all (λ word. not (list_any is_upper word)) words ≡ true → list_any (bytes_eq bytes) words ≡ true → list_any is_upper bytes ≡ false
among_small bytes [] small found = absurd (false≢true found)
among_small bytes (word ∷ words) small found =
    let parts = and_parts (not (list_any is_upper word)) (list_all (λ word. not (list_any is_upper word)) words) small in
    elim (or_cases (bytes_eq bytes word) (list_any (bytes_eq bytes) words) found) [
      | inl same ↦ ap (list_any is_upper) ((bytes_eq-Decides bytes word).0 same) ∙ not-true (list_any is_upper word) parts.0
      | inr behind ↦ among_small bytes words parts.1 behind
    ]

-- among words without capital letters, a word stands where it does in lower case and has none
among_exactly : (words : List (List ℕ)) → list_all (λ word. not (list_any is_upper word)) words ≡ true → (word : List ℕ) (capitals : Bool) → list_any is_upper word ≡ capitals → list_any (bytes_eq word) words ≡ (list_any (bytes_eq (map lower word)) words && not capitals)
among_exactly words small word true e =
    let none : list_any (bytes_eq word) words ≡ false = false_from_ne_true (list_any (bytes_eq word) words) (λ found. false≢true (sym (among_small word words small found) ∙ e)) in
    none ∙ sym (and_right (list_any (bytes_eq (map lower word)) words) false refl)
among_exactly words small word false e =
    ap (λ text. list_any (bytes_eq text) words) (sym (lower_text word e)) ∙ sym (and-true (list_any (bytes_eq (map lower word)) words))

-- no reserved word has a capital letter
reserved_small : list_all (λ word. not (list_any is_upper word)) reserved ≡ true
unfolding reserved
reserved_small = refl

-- a word is a reserved one where it is without regard to case, and has no capital letter
pub reserved_exactly : (word : List ℕ) → is_reserved_name word ≡ (is_reserved_name (map lower word) && not (list_any is_upper word))
reserved_exactly word = among_exactly reserved reserved_small word (list_any is_upper word) refl
