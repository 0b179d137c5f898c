-- Digits and the number that they spell.
use Rattle.std.proofs.Common.{◌≡◌, ℕ, ◌+◌, ◌-◌, ◌*◌, ◌<◌, ◌≤◌, true, List, length, take, get_or, leb, arith}
use Rattle.std.proofs.lemmas.Bool.{and_parts, leb-true}
use Rattle.std.proofs.lemmas.Int.Digits.{digits_value_more}
use Rattle.std.proofs.lemmas.Str.{digit_value_digit}
use Rattle.std.proofs.lemmas.Str.Parse.{digits_value-take-le}
use Rattle.std.specs.Char.{digit_value}
use Rattle.std.specs.List.{AllPass}
use Rattle.std.specs.Str.Parse.{digits_value}
use Rattle.mt_lexer.specs.Tokens.{is_digit}

-- one more digit
pub digits_value_step : (digits : List ℕ) (i : ℕ) → AllPass is_digit digits → i < length digits → digits_value 10 (take (i + 1) digits) ≡ digits_value 10 (take i digits) * 10 + (get_or digits i 0 - 48)
digits_value_step digits i all h =
    let b = get_or digits i 0 in
    let test : is_digit b ≡ true = all i 0 h in
    let range = and_parts (leb 48 b) (leb b 57) test in
    let low : 48 ≤ b = leb-true 48 b range.0 in
    let high : b ≤ 57 = leb-true b 57 range.1 in
    let value : digit_value b + 48 ≡ b = digit_value_digit b (low, high) in
    omega (arith, digits_value_more 10 digits i h)

-- what the first digits spell is not above what all do
pub digits_value_above : (digits : List ℕ) (i : ℕ) → AllPass is_digit digits → i < length digits → digits_value 10 (take i digits) * 10 + (get_or digits i 0 - 48) ≤ digits_value 10 digits
digits_value_above digits i all h = omega (arith, digits_value_step digits i all h, digits_value-take-le 10 digits (i + 1) (omega arith))
