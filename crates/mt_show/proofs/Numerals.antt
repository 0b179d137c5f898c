-- A number of any size in decimal spells it, and is what std prints of a machine's word.
use Rattle.std.proofs.Common.{◌≡◌, ℕ, zero, suc, ◌+◌, ◌*◌, ◌^◌, ◌<◌, ◌==◌, true, List, [], ◌∷◌, length, map, decimal, codes, refl, sym, ap, ◌∙◌, subst, arith}
use Rattle.std.proofs.lemmas.Bool.{cond-false, ne_eqb}
use Rattle.std.proofs.lemmas.Bool.Decides.{nat_tests}
use Rattle.std.proofs.lemmas.Fmt.{decimal_digit, decimal-digits_of}
use Rattle.std.proofs.lemmas.Int.Digits.{length-digits_of_step, all_below_base_digits_of, number_digits_of}
use Rattle.std.proofs.lemmas.List.{length-map}
use Rattle.std.proofs.lemmas.List.Elements.{All-nil, All-cons}
use Rattle.std.specs.Char.{digit_value}
use Rattle.std.specs.Int.Digits.{digits_of, number_from_digits_after, AllBelowBase}
use Rattle.std.specs.List.{AllPass}
use Rattle.std.specs.Str.Parse.{digits_value_after, digits_value}
use Rattle.mt_lexer.specs.Tokens.{Number, Spells, is_digit}
use Rattle.mt_show.specs.Text.{numeral}

-- the code of a digit
abbrev code : ℕ → ℕ
code digit = 48 + digit

-- codes of digits are digits
codes_are_digits : (digits : List ℕ) → AllBelowBase 10 digits → AllPass is_digit (map code digits)
codes_are_digits [] below = All-nil (λ b. is_digit b ≡ true)
codes_are_digits (d ∷ ds) below = All-cons (λ b. is_digit b ≡ true) (code d) (map code ds) (grind (arith, nat_tests, below.0)) (codes_are_digits ds below.1)

-- the code of a digit has the digit's value
value_of_code : (d : ℕ) → d < 10 → digit_value (code d) ≡ d
value_of_code d below = grind (arith, nat_tests)

-- what codes of digits write is what the digits write
value_of_codes : (n : ℕ) (digits : List ℕ) → AllBelowBase 10 digits → digits_value_after 10 n (map code digits) ≡ number_from_digits_after 10 n digits
value_of_codes n [] below = refl
value_of_codes n (d ∷ ds) below = ap (λ v. digits_value_after 10 (n * 10 + v) (map code ds)) (value_of_code d below.0) ∙ value_of_codes (n * 10 + d) ds below.1

-- a number that is not 0 is written with its digits
numeral-nonzero : (n : ℕ) → 0 < n → numeral n ≡ map code (digits_of 10 n)
unfolding numeral
numeral-nonzero n some = cond-false (n == 0) (codes "0") (map code (digits_of 10 n)) (ne_eqb n 0 (λ none. omega arith))

-- a number in decimal spells it
pub spells_numeral : (value : ℕ) → Spells (numeral value) (Number value)
unfolding numeral
spells_numeral zero = (omega arith, All-cons (λ b. is_digit b ≡ true) 48 [] refl (All-nil (λ b. is_digit b ≡ true)), refl)
spells_numeral (suc n) =
    let digits = digits_of 10 (suc n) in
    let below = all_below_base_digits_of 10 (suc n) (omega arith) in
    let long : 0 < length (map code digits) = omega (arith, length-map digits code, length-digits_of_step 10 (suc n) (omega arith) (omega arith)) in
    let value : suc n ≡ digits_value 10 (map code digits) = sym (value_of_codes 0 digits below ∙ number_digits_of 10 (suc n) (omega arith)) in
    subst (λ bytes. Spells bytes (Number (suc n))) (sym (numeral-nonzero (suc n) (omega arith))) (long, codes_are_digits digits below, value)

-- std's decimal of a machine's word is the same
pub decimal_is_numeral : (n : ℕ) → n < 2 ^ 64 → decimal n ≡ numeral n
unfolding numeral
decimal_is_numeral zero small = decimal_digit 0 (omega arith)
decimal_is_numeral (suc n) small = decimal-digits_of (suc n) (omega arith) small ∙ sym (numeral-nonzero (suc n) (omega arith))
