-- What a reader of lines stands for, and what its next line is.
use Rattle.std.specs.Prelude.{◌≡◌, ◌⊎◌, ℕ, ◌+◌, ◌<◌, ◌≤◌, Bool, true, false, IsTrue, Result, Ok, Err, List, [], ◌∷◌, ◌++◌, length}
use Rattle.mt_machine.specs.Meaning.{Supply, Rose}
use Rattle.mt_script.specs.Lines.{Line, TooLong, Text, every_line, ended_part, has_line_feed}
use Rattle.mt_script.specs.declared.reader.Took.{Took}
use Rattle.mt_script.specs.declared.reader.Took.TheVariants as took
use Rattle.mt_script.specs.declared.reader.ReadStop.{ReadStop}
use Rattle.mt_script.specs.declared.reader.ReadStop.TheVariants as stop

-- A reader between two calls.
pub record Reading : Type 0 where
  -- bytes that were taken and not given out yet; of a line too long, no more than decide that it is
  pub held : List ℕ
  -- how many bytes it may still take
  pub budget : ℕ
  -- a take has answered that the input ends
  pub ended : Bool
  -- the line that was given out last, without its line feed and a carriage return before that
  pub line : List ℕ

-- a reader that has taken nothing
abbrev pub fresh : ℕ → Reading
fresh budget = record { held = []; budget = budget; ended = false; line = [] }

-- Whatever follows, the bytes give this line first, and then the lines of what is held.
pub record BeginsWith (bytes : List ℕ) (line : Line) (held : List ℕ) : Type 0 where
  pub every : (rest : List ℕ) → every_line (bytes ++ rest) ≡ line ∷ every_line (held ++ rest)
  pub every_ended : (rest : List ℕ) → every_line (ended_part (bytes ++ rest)) ≡ line ∷ every_line (ended_part (held ++ rest))

-- The input has ended, and the bytes are one last line without a line feed.
pub record IsLast (bytes : List ℕ) (line : Line) (new : Reading) : Type 0 where
  pub only : every_line bytes ≡ line ∷ []
  pub unended : has_line_feed bytes ≡ false
  pub ended : new.ended ≡ true
  pub nothing : new.held ≡ []

-- the line is given out, and what is held stands for the bytes behind it
abbrev pub GivesOut : List ℕ → Line → Reading → Type 0
GivesOut bytes line new = BeginsWith bytes line new.held ⊎ IsLast bytes line new

-- No whole line is there; whatever follows, what is held gives the lines that the bytes give.
pub record HoldsBack (bytes : List ℕ) (new : Reading) : Type 0 where
  pub not_ended : new.ended ≡ false
  pub unended : has_line_feed bytes ≡ false
  pub unended_held : has_line_feed new.held ≡ false
  pub every : (rest : List ℕ) → every_line (bytes ++ rest) ≡ every_line (new.held ++ rest)
  pub every_ended : (rest : List ℕ) → every_line (ended_part (bytes ++ rest)) ≡ every_line (ended_part (new.held ++ rest))

-- a line that is given out is no longer than a line may be, and has no line feed
pub record IsGivenLine (line : List ℕ) : Type 0 where
  pub short : length line ≤ 65536
  pub whole : has_line_feed line ≡ false

-- Which answer it is. The bytes are those that were held and, behind them, those that were taken.
abbrev pub Outcome : Result Took ReadStop → List ℕ → Reading → Type 0
Outcome (Ok took.Line) bytes new = GivesOut bytes (Text new.line) new × IsGivenLine new.line
Outcome (Ok took.TooLong) bytes new = GivesOut bytes TooLong new
Outcome (Ok took.End) bytes new = (bytes ≡ []) × (new.held ≡ []) × (new.ended ≡ true)
Outcome (Err stop.Source) bytes new = HoldsBack bytes new × (0 < new.budget)
Outcome (Err stop.Budget) bytes new = HoldsBack bytes new × (new.budget ≡ 0)

-- A line that was given out takes at least a byte out of what is held or may be taken.
abbrev pub GoesOn : Result Took ReadStop → Reading → Reading → Type 0
GoesOn (Ok took.Line) old new = new.budget + length new.held < old.budget + length old.held
GoesOn (Ok took.TooLong) old new = new.budget + length new.held < old.budget + length old.held
GoesOn (Ok took.End) old new = Unit {0}
GoesOn (Err e) old new = Unit {0}

-- a fault of the source is told where its count rose, and with any other answer the count stands
abbrev pub SourceCause : Result Took ReadStop → ℕ → ℕ → Type 0
SourceCause (Err stop.Source) before now = Rose before now
SourceCause (Err stop.Budget) before now = now ≡ before
SourceCause (Ok took) before now = now ≡ before

-- no take was made
pub record AsksNothing (taken : List ℕ) (before after : Supply) : Type 0 where
  pub nothing : taken ≡ []
  pub takes : after.takes ≡ before.takes

-- Takes were made, and before the last of them no line had ended in what was held: so there was none
-- before the others either.
pub record AsksForLine (held taken : List ℕ) (after : Supply) : Type 0 where
  -- what the takes before the last one gave
  pub front : List ℕ
  pub split : taken ≡ front ++ after.last
  pub unended : has_line_feed (held ++ front) ≡ false

-- Bytes are asked for only while no whole line is held.
abbrev pub AsksInTurn : List ℕ → List ℕ → Supply → Supply → Type 0
AsksInTurn held taken before after = AsksNothing taken before after ⊎ AsksForLine held taken after

-- The next line of the input, or why there is none.
pub record Nexts (result : Result Took ReadStop) (old new : Reading) (before after : Supply) : Type 0 where
  -- the bytes that this call took, in order
  pub taken : List ℕ
  pub told : IsTrue after.tells → IsTrue before.tells
  pub input : IsTrue after.tells → before.left ≡ taken ++ after.left
  pub budget : new.budget + length taken ≡ old.budget
  -- it asks for bytes only while it holds no whole line, and for none once the input has ended
  pub asks : has_line_feed old.held ≡ true → taken ≡ []
  pub asks_in_turn : IsTrue after.tells → AsksInTurn old.held taken before after
  pub asks_no_more : old.ended ≡ true → (taken ≡ []) × (new.ended ≡ true) × (IsTrue after.tells → after.takes ≡ before.takes)
  pub ends : new.ended ≡ true → (old.ended ≡ true) ⊎ (IsTrue after.tells → after.left ≡ [])
  -- a take that answered the end of the input was asked with some of the budget left
  pub ends_within : new.ended ≡ true → (old.ended ≡ true) ⊎ (0 < new.budget)
  pub outcome : Outcome result (old.held ++ taken) new
  pub goes_on : GoesOn result old new
  pub faults : before.faults ≤ after.faults
  pub cause : SourceCause result before.faults after.faults
