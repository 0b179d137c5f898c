-- Numbers that stand in an area as bytes.
use Rattle.std.proofs.Common.{◌≡◌, ℕ, zero, suc, ◌+◌, ◌^◌, ◌<◌, ◌≤◌, List, [], length, refl, sym, ap, ◌∙◌, arith}
use Rattle.byteorder.specs.Endian.{little_from, little_bytes}
use Rattle.byteorder.specs.Numbers.{little_number-reads_back, length-bytes_low_first}
use Rattle.std.proofs.lemmas.List.{append-nil}
use Rattle.mt_journal.specs.Layout.{Area, StandAt, number_at}

-- the number in an area is that in the bytes that stand there
pub number_from : (n : ℕ) (area : Area) (at i : ℕ) (bytes : List ℕ) → StandAt area at bytes → i + n ≤ length bytes → number_at n area (at + i) ≡ little_from i n bytes
number_from zero area at i bytes stand fits = refl
number_from (suc n) area at i bytes stand fits =
    let byte = stand i (omega arith) in
    let e : at + i + 1 ≡ at + suc i = omega arith in
    let rest : number_at n area (at + i + 1) ≡ little_from (suc i) n bytes = ap (λ (k : ℕ). number_at n area k) e ∙ number_from n area at (suc i) bytes stand (omega arith) in
    omega (arith, byte, rest)

-- the bytes of a number read back
pub number_stands : (n : ℕ) (area : Area) (at x : ℕ) → x < 256 ^ n → StandAt area at (little_bytes n x) → number_at n area at ≡ x
number_stands n area at x small stand =
    let e : at ≡ at + 0 = omega arith in
    let size = length-bytes_low_first 0 n x in
    ap (λ (k : ℕ). number_at n area k) e ∙ number_from n area at 0 (little_bytes n x) stand (omega (arith, size))
    ∙ ap (λ (l : List ℕ). little_from 0 n l) (sym (append-nil (little_bytes n x))) ∙ little_number-reads_back n x [] small

-- two areas that are the same from a place on have the same number there
pub number_above : (n : ℕ) (area other : Area) (at : ℕ) → ((k : ℕ) → at ≤ k → other k ≡ area k) → number_at n other at ≡ number_at n area at
number_above zero area other at same = refl
number_above (suc n) area other at same =
    let byte = same at (omega arith) in
    let rest = number_above n area other (at + 1) (λ k h. same k (omega arith)) in
    omega (arith, byte, rest)
