-- What stands at the front of a line that spells a command.
use Rattle.std.proofs.Common.{◌≡◌, ℕ, ◌+◌, ◌<◌, ◌≤◌, ◌^◌, List, [], ◌∷◌, ◌++◌, ◌&&◌, length, take, drop, cond, true, false, Bool, refl, sym, ◌∙◌, ap, arith, append_assoc}
use Rattle.std.specs.Prelude.{codes, decimal, take_while}
use Rattle.std.specs.Char.{is_ascii_digit}
use Rattle.std.specs.Str.{all_ascii_digits}
use Rattle.std.specs.List.{prefix_len}
use Rattle.std.proofs.lemmas.Grind.{common_steps}
use Rattle.std.proofs.lemmas.Fmt.{digits_decimal}
use Rattle.std.proofs.lemmas.Str.Parse.{numerals_by_value, tells_all_ascii_digits}
use Rattle.std.proofs.lemmas.List.{append-nil}
use Rattle.std.proofs.Math.Seq.{take-append_seam, drop-append_seam}
use Rattle.std.proofs.lemmas.List.Prefix.{front_rest}
use Rattle.mt_model.specs.FirstPath.{SpellsCreateTenant}

-- the digits of a number pass the test of digits
pub decimal_passes : (n : ℕ) → n < 2 ^ 32 → all_ascii_digits (decimal n) ≡ true
decimal_passes n small = digits_decimal (numerals_by_value _ tells_all_ascii_digits) n (omega arith)

-- no more pass from the front on than there are
pub prefix_len-le : (p : ℕ → Bool) (xs : List ℕ) → prefix_len p xs ≤ length xs
prefix_len-le p [] = omega arith
prefix_len-le p (x ∷ xs) = let rest = prefix_len-le p xs in elim (p x) as (λ b. cond b (1 + prefix_len p xs) 0 ≤ length (x ∷ xs)) [ true ↦ omega arith | false ↦ omega arith ]

-- where nothing is taken, no element passes from the front on
none_passes : (xs : List ℕ) → take_while is_ascii_digit xs ≡ [] → prefix_len is_ascii_digit xs ≡ 0
none_passes [] e = refl
none_passes (x ∷ xs) e = elim (is_ascii_digit x) as (λ b. take (cond b (1 + prefix_len is_ascii_digit xs) 0) (x ∷ xs) ≡ [] → cond b (1 + prefix_len is_ascii_digit xs) 0 ≡ 0) [ true ↦ λ h. absurd (grind (arith, common_steps)) | false ↦ λ h. refl ] e

-- digits in front of what begins with no digit are all that pass
prefix_len-digits : (ds rest : List ℕ) → all_ascii_digits ds ≡ true → take_while is_ascii_digit rest ≡ [] → prefix_len is_ascii_digit (ds ++ rest) ≡ length ds
prefix_len-digits [] rest digits front = none_passes rest front
prefix_len-digits (d ∷ ds) rest digits front =
    elim (is_ascii_digit d) as (λ b. (b && all_ascii_digits ds) ≡ true → cond b (1 + prefix_len is_ascii_digit (ds ++ rest)) 0 ≡ length (d ∷ ds)) [
      | true ↦ λ h. let further : prefix_len is_ascii_digit (ds ++ rest) ≡ length ds = prefix_len-digits ds rest h front in omega arith
      | false ↦ λ h. absurd (cc)
    ] digits

-- what stands behind the same front is the same
same_behind : (bytes front xs ys : List ℕ) → bytes ≡ front ++ xs → bytes ≡ front ++ ys → xs ≡ ys
same_behind bytes front xs ys left right = sym (front_rest bytes front xs left) ∙ front_rest bytes front ys right

-- a number in front of what begins with no digit is cut off by its digits
cut_number : (bytes : List ℕ) (n : ℕ) (rest : List ℕ) → n < 2 ^ 32 → take_while is_ascii_digit rest ≡ [] → bytes ≡ decimal n ++ rest → (take (prefix_len is_ascii_digit bytes) bytes ≡ decimal n) × (drop (prefix_len is_ascii_digit bytes) bytes ≡ rest)
cut_number bytes n rest small front e =
    let count : prefix_len is_ascii_digit bytes ≡ length (decimal n) = ap (prefix_len is_ascii_digit) e ∙ prefix_len-digits (decimal n) rest (decimal_passes n small) front in
    (rw (count, e) (take-append_seam (decimal n) rest), rw (count, e) (drop-append_seam (decimal n) rest))

-- so is a number behind words
pub cut_number_behind : (bytes words behind : List ℕ) → bytes ≡ words ++ behind → (n : ℕ) (rest : List ℕ) → n < 2 ^ 32 → take_while is_ascii_digit rest ≡ [] → bytes ≡ words ++ (decimal n ++ rest) → (take (prefix_len is_ascii_digit behind) behind ≡ decimal n) × (drop (prefix_len is_ascii_digit behind) behind ≡ rest)
cut_number_behind bytes words behind begins n rest small front spelling = cut_number behind n rest small front (same_behind bytes words behind (decimal n ++ rest) begins spelling)

-- the form of the command, with what follows each word behind it
pub spelled : (bytes : List ℕ) (t q : ℕ) → SpellsCreateTenant bytes t q → bytes ≡ codes "@admin CREATE TENANT " ++ (decimal t ++ (codes " QUOTA " ++ (decimal q ++ [])))
spelled bytes t q s = s.spelling ∙ grouped (codes "@admin CREATE TENANT ") (decimal t) (codes " QUOTA ") (decimal q)
  where
    grouped : (a b c d : List ℕ) → ((a ++ b) ++ c) ++ d ≡ a ++ (b ++ (c ++ (d ++ [])))
    grouped a b c d = simp (append_assoc, append-nil)
