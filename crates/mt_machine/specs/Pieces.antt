-- Bytes that come in pieces.
use Rattle.std.specs.Prelude.{ℕ, List}

-- the bytes still to come, the length of the longest piece of them that is given at once, the last
-- piece, and how many there were
pub record Pieces : Type 0 where
  pub left : List ℕ
  pub longest : ℕ
  pub last : List ℕ
  pub takes : ℕ
