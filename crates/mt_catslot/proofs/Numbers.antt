-- The bytes of a number that was read of bytes are these.
use Rattle.std.proofs.Common.{◌≡◌, ℕ, zero, suc, ◌+◌, ◌*◌, ◌^◌, ◌/◌, ◌%◌, ◌<◌, ◌≤◌, List, [], ◌∷◌, ◌++◌, length, take, drop, All, refl, sym, ap, ◌∙◌, arith}
use Rattle.std.proofs.Math.Nat.{div-div-eq-div-mul, div-one, pow-succ'}
use Rattle.std.proofs.lemmas.List.{take_all, take-append-drop}
use Rattle.std.specs.Int.{byte_at, bytes_low_first}
use Rattle.byteorder.specs.Endian.{little_bytes, little_number}
use Rattle.byteorder.specs.Numbers.{little_from-cons}

-- a byte of a number, by its place
at_power : (k x : ℕ) → byte_at k x ≡ x / 256 ^ k % 256
at_power zero x = ap (λ (y : ℕ). y % 256) (sym (div-one x))
at_power (suc k) x = refl

-- what stands above the lowest byte of a number
above : (k b m : ℕ) → b < 256 → (b + 256 * m) / 256 ^ suc k ≡ m / 256 ^ k
above k b m small =
    let x : ℕ = b + 256 * m in
    let rest : x / 256 ≡ m = omega arith in
    ap (λ (p : ℕ). x / p) (pow-succ' 256 k) ∙ sym (div-div-eq-div-mul x 256 (256 ^ k)) ∙ ap (λ (y : ℕ). y / 256 ^ k) rest

-- its bytes from the second on
cons_same : (a b : ℕ) (xs ys : List ℕ) → a ≡ b → xs ≡ ys → a ∷ xs ≡ b ∷ ys
cons_same a b xs ys first rest = cc

bytes_above : (i n b m : ℕ) → b < 256 → bytes_low_first (suc i) n (b + 256 * m) ≡ bytes_low_first i n m
bytes_above i zero b m small = refl
bytes_above i (suc n) b m small =
    cons_same _ _ _ _ (ap (λ (y : ℕ). y % 256) (above i b m small) ∙ sym (at_power i m)) (bytes_above (suc i) n b m small)

-- the bytes of the number in the first n bytes
front_again : (n : ℕ) (xs : List ℕ) → n ≤ length xs → All (λ byte. byte < 256) xs → little_bytes n (little_number n xs) ≡ take n xs
front_again zero xs long all = refl
front_again (suc n) [] long all = absurd (omega arith)
front_again (suc n) (b ∷ xs) long all =
    let m : ℕ = little_number n xs in
    let small : b < 256 = all 0 b (omega arith) in
    let others : All (λ byte. byte < 256) xs = λ k d within. all (suc k) d (omega arith) in
    let lowest : (b + 256 * m) % 256 ≡ b = omega arith in
    ap (λ (rest : ℕ). bytes_low_first 0 (suc n) (b + 256 * rest)) (little_from-cons 0 n b xs)
    ∙ cons_same _ _ _ _ lowest (bytes_above 0 n b m small ∙ front_again n xs (omega arith) others)

-- a number and what stands behind it
pub next : (n : ℕ) (xs rest : List ℕ) → n ≤ length xs → All (λ byte. byte < 256) xs → rest ≡ drop n xs → little_bytes n (little_number n xs) ++ rest ≡ xs
next n xs rest long all behind = rw (front_again n xs long all, behind) (take-append-drop n xs)

-- a number that is all
pub last : (n : ℕ) (xs : List ℕ) → length xs ≡ n → All (λ byte. byte < 256) xs → little_bytes n (little_number n xs) ≡ xs
last n xs long all = front_again n xs (omega arith) all ∙ take_all n xs (omega arith)
