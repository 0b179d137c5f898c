-- The lines of an input.
use Rattle.std.specs.Prelude.{ℕ, Bool, true, not, nat_eq, nat_lt, ◌==◌, ◌||◌, if◌then◌else◌, List, [], ◌∷◌, length, map, filter, codes}
use Rattle.std.specs.List.{list_any, list_all, starts_with}

-- a line: its bytes, or more of them than a line may have
pub data Line : Type 0 where
  TooLong : Line
  Text : (bytes : List ℕ) → Line

-- a byte in front of the first line
abbrev pub put_in_front : ℕ → List (List ℕ) → List (List ℕ)
put_in_front b [] = (b ∷ []) ∷ []
put_in_front b (line ∷ lines) = (b ∷ line) ∷ lines

-- the input cut at its line feeds; what follows the last one is a line where it has a byte
abbrev pub cut : List ℕ → List (List ℕ)
cut [] = []
cut (b ∷ bs) = if b == 10 then [] ∷ cut bs else put_in_front b (cut bs)

-- the bytes without a carriage return at their end
abbrev pub without_return : List ℕ → List ℕ
without_return [] = []
without_return (b ∷ []) = if b == 13 then [] else b ∷ []
without_return (b ∷ c ∷ bs) = b ∷ without_return (c ∷ bs)

-- a line of more than 65,536 bytes, a carriage return counted, is too long
abbrev pub line_of : List ℕ → Line
line_of bytes = if nat_lt 65536 (length bytes) then TooLong else Text (without_return bytes)

-- each line, also those that get no reply
abbrev pub every_line : List ℕ → List Line
every_line bytes = map line_of (cut bytes)

-- a space or a tab
abbrev pub is_blank : ℕ → Bool
is_blank b = (b == 32) || (b == 9)

-- a comment, or blanks alone
abbrev pub is_silent : List ℕ → Bool
is_silent bytes = list_all is_blank bytes || starts_with nat_eq bytes (codes "--")

-- each line but the silent ones gets a reply
abbrev pub is_answered : Line → Bool
is_answered TooLong = true
is_answered (Text bytes) = not (is_silent bytes)

-- the lines of the input that get a reply, in order
abbrev pub lines_of : List ℕ → List Line
lines_of bytes = filter is_answered (every_line bytes)

-- whether some line ends in these bytes
abbrev pub has_line_feed : List ℕ → Bool
has_line_feed bytes = list_any (λ b. b == 10) bytes

-- the bytes up to and with the last line feed
abbrev pub ended_part : List ℕ → List ℕ
ended_part [] = []
ended_part (b ∷ bs) = if has_line_feed (b ∷ bs) then b ∷ ended_part bs else []

-- the lines that get a reply, without a last one that has no line feed
abbrev pub ended_lines_of : List ℕ → List Line
ended_lines_of bytes = lines_of (ended_part bytes)
