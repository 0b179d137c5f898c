-- Three-valued logic (SQL:1999, 6.30).
use Rattle.std.specs.Prelude.{ℕ, nat_le, if◌then◌else◌}
use Rattle.mt_value.specs.declared.truth.Truth.{Truth}
use Rattle.mt_value.specs.declared.truth.Truth.TheVariants.{False, Unknown, True}

-- the place in the order False, Unknown, True
abbrev pub rank : Truth → ℕ
rank False = 0
rank Unknown = 1
rank True = 2

-- AND is the least
abbrev pub and_of : Truth → Truth → Truth
and_of a b = if nat_le (rank a) (rank b) then a else b

-- OR is the greatest
abbrev pub or_of : Truth → Truth → Truth
or_of a b = if nat_le (rank a) (rank b) then b else a

-- NOT exchanges False and True
abbrev pub not_of : Truth → Truth
not_of False = True
not_of Unknown = Unknown
not_of True = False
