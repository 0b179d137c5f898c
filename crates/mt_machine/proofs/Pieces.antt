-- A piece of a list that stands at the front of a buffer.
use Rattle.std.proofs.Common.{◌≡◌, ℕ, ◌≤◌, List, ◌++◌, length, take, drop, arith, length-take}
use Rattle.std.proofs.lemmas.List.{take-append-drop, take_at}

-- the piece that stands at the front of the buffer, and what comes behind it, are the whole
pub piece_and_rest : (xs rest : List ℕ) (n : ℕ) → n ≤ length xs → take n (take n xs ++ rest) ++ drop n xs ≡ xs
piece_and_rest xs rest n within =
    let whole : length (take n xs) ≡ n = omega (arith, length-take n xs) in
    rw (take_at (take n xs) rest n whole) (take-append-drop n xs)
