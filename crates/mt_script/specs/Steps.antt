-- What the parts of a reader do on the way to its next line.
use Rattle.std.specs.Prelude.{◌≡◌, ◌⊎◌, ℕ, ◌+◌, ◌<◌, ◌≤◌, true, false, IsTrue, if◌then◌else◌, Option, MatchOption, Result, Ok, Err, List, [], ◌∷◌, ◌++◌, length, take, drop, slice_range}
use Rattle.mt_machine.specs.Meaning.{Supply, Rose}
use Rattle.mt_script.specs.Lines.{TooLong, Text, line_of, every_line, ended_part, has_line_feed}
use Rattle.mt_script.specs.declared.reader.Took.{Took}
use Rattle.mt_script.specs.declared.reader.Took.TheVariants as took
use Rattle.mt_script.specs.declared.reader.ReadStop.{ReadStop}
use Rattle.mt_script.specs.declared.reader.ReadStop.TheVariants as stop
use Rattle.mt_script.specs.Reader.{Reading, Outcome, GoesOn, AsksForLine}

-- where the held bytes and the last line stand in the buffer
pub record IsPlaced (buffer : List ℕ) (from upto searched line_from line_upto : ℕ) : Type 0 where
  pub size : length buffer ≡ 131072
  pub ordered : from + searched ≤ upto
  pub within : upto ≤ length buffer
  pub none_searched : has_line_feed (take searched (slice_range buffer from upto)) ≡ false
  pub line_ordered : line_from ≤ line_upto
  pub line_within : line_upto ≤ length buffer

-- the first line feed of the bytes
pub record IsFirstFeed (bytes : List ℕ) (at : ℕ) : Type 0 where
  pub within : at < length bytes
  pub split : bytes ≡ take at bytes ++ 10 ∷ drop (at + 1) bytes
  pub none_before : has_line_feed (take at bytes) ≡ false

-- where the first line feed is
abbrev pub FindsFeed : List ℕ → Option ℕ → Type 0
FindsFeed bytes found = MatchOption found (has_line_feed bytes ≡ false) (IsFirstFeed bytes)

-- a line gives this front of its bytes
pub record GivesFront (line : List ℕ) (n : ℕ) : Type 0 where
  pub within : n ≤ length line
  pub given : line_of line ≡ Text (take n line)

-- how many bytes of a line are given out, where it is not too long
abbrev pub FindsEnd : List ℕ → Option ℕ → Type 0
FindsEnd line found = MatchOption found (line_of line ≡ TooLong) (GivesFront line)

-- which line it is, and that its bytes are lent
abbrev pub IsLineOf : Took → List ℕ → List ℕ → Type 0
IsLineOf took.Line bytes lent = line_of bytes ≡ Text lent
IsLineOf took.TooLong bytes lent = line_of bytes ≡ TooLong
IsLineOf took.End bytes lent = ⊥

-- The first bytes that are held are given out as a line, and the first that are used are let go.
pub record LetsGo (took : Took) (line used : ℕ) (old new : Reading) : Type 0 where
  pub given : IsLineOf took (take line old.held) new.line
  pub held : new.held ≡ drop used old.held
  pub budget : new.budget ≡ old.budget
  pub ended : new.ended ≡ old.ended

-- a line out of what is held, with no byte taken
pub record GivesLine (took : Took) (old new : Reading) : Type 0 where
  pub outcome : Outcome (Ok took) old.held new
  pub goes_on : GoesOn (Ok took) old new
  pub budget : new.budget ≡ old.budget
  pub ended : new.ended ≡ old.ended

-- no whole line is held, and the input goes on
pub record NeedsMore (old new : Reading) : Type 0 where
  pub unended : has_line_feed old.held ≡ false
  pub not_ended : old.ended ≡ false
  pub unchanged : new ≡ old

-- what is held gives a line, or more bytes are needed
abbrev pub LooksFor : Option Took → Reading → Reading → Type 0
LooksFor given old new = MatchOption given (NeedsMore old new) (λ took. GivesLine took old new)

-- Whatever follows, both give the same lines.
pub record StandsFor (bytes held : List ℕ) : Type 0 where
  pub feeds : has_line_feed bytes ≡ has_line_feed held
  pub every : (rest : List ℕ) → every_line (bytes ++ rest) ≡ every_line (held ++ rest)
  pub every_ended : (rest : List ℕ) → every_line (ended_part (bytes ++ rest)) ≡ every_line (ended_part (held ++ rest))

-- no take was made, and the source is as before; or before the last take no line had ended in what was held
abbrev pub TakesInTurn : List ℕ → List ℕ → Supply → Supply → Type 0
TakesInTurn held taken before after = ((taken ≡ []) × (after ≡ before)) ⊎ AsksForLine held taken after

-- Bytes were taken, no line was given out, and what is held stands for the bytes.
pub record TakesOn (old new : Reading) (before after : Supply) : Type 0 where
  pub taken : List ℕ
  pub told : IsTrue after.tells → IsTrue before.tells
  pub input : IsTrue after.tells → before.left ≡ taken ++ after.left
  pub budget : new.budget + length taken ≡ old.budget
  pub asks : has_line_feed old.held ≡ true → taken ≡ []
  pub in_turn : IsTrue after.tells → TakesInTurn old.held taken before after
  pub asks_no_more : old.ended ≡ true → (taken ≡ []) × (new.ended ≡ true) × (IsTrue after.tells → after.takes ≡ before.takes)
  pub ends : new.ended ≡ true → (old.ended ≡ true) ⊎ (IsTrue after.tells → after.left ≡ [])
  pub ends_within : new.ended ≡ true → (old.ended ≡ true) ⊎ (0 < new.budget)
  pub stands : StandsFor (old.held ++ taken) new.held
  pub no_more : new.budget + length new.held ≤ old.budget + length old.held

-- how many takes may still come at most
abbrev pub takes_left : Reading → ℕ
takes_left reading = reading.budget + (if reading.ended then 0 else 1)

-- why a take did not come, and what it did to the count of faults
abbrev pub StopCause : ReadStop → Reading → ℕ → ℕ → Type 0
StopCause stop.Source new before now = (before ≤ now) × Rose before now × (0 < new.budget)
StopCause stop.Budget new before now = (now ≡ before) × (new.budget ≡ 0)

-- A take came, and with no fault; or the input goes on and no whole line is held.
abbrev pub ComesOrStops : Result (Unit {0}) ReadStop → Reading → Reading → ℕ → ℕ → Type 0
ComesOrStops (Ok _) old new before now = (now ≡ before) × (takes_left new < takes_left old)
ComesOrStops (Err e) old new before now = (new.ended ≡ false) × (has_line_feed new.held ≡ false) × StopCause e new before now
