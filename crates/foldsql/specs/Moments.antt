-- What a stop at a moment of a run leaves.
use Rattle.std.specs.Prelude.{◌≡◌, ◌≢◌, ◌⊎◌, ℕ, ◌+◌, ◌≤◌, List, [], ◌∷◌, ◌++◌, length, take, drop}
use Rattle.mt_machine.specs.Meaning.{Disk}
use Rattle.mt_tree.specs.declared.reply.Reply.{Reply}
use Rattle.mt_tree.specs.Replies.{reply_bytes}
use Rattle.mt_script.specs.Lines.{Line}
use Rattle.mt_model.specs.Request.{Request}
use Rattle.mt_model.specs.Service.{Service}
use Rattle.mt_model.specs.Run.{Rules, IsRun, replies_bytes}

-- a service that is kept in memory alone: every disk holds it
abbrev pub on_any_disk : Service → Disk → Type 0
on_any_disk service disk = Unit {0}

-- a disk that holds the service before a line or after it
abbrev pub LaidEither : (Service → Disk → Type 0) → Service → Service → Disk → Type 0
LaidEither laid service next image = laid service image ⊎ laid next image

-- The bytes break off within the next reply, which is then not whole; where there is none, within the
-- last line or at its end.
abbrev pub BreaksOff : List ℕ → List Reply → List ℕ → Type 0
BreaksOff front [] tail = (rest : List ℕ) × (tail ≡ front ++ rest)
BreaksOff front (reply ∷ replies) tail = (rest : List ℕ) × (reply_bytes reply ≡ front ++ rest) × (rest ≢ [])

-- A moment of a run. The lines were begun, with these replies; those to be put out, in their order, are
-- these, and behind them comes the last line, the tail. So many of them are whole in what was put out, and
-- the disk holds the service after as many lines, or after one line more, if it was begun.
pub record IsMoment (rules : Rules) (laid : Service → Disk → Type 0) (first : Service) (lines : List Line) (requests : List Request) (replies put : List Reply) (tail : List ℕ) (image : Disk) (bytes : List ℕ) : Type 0 where
  -- how many replies are out, whole
  pub whole : ℕ
  pub front : List ℕ
  pub put_out : bytes ≡ replies_bytes (take whole put) ++ front
  pub within : whole ≤ length put
  pub breaks_off : BreaksOff front (drop whole put) tail
  -- after how many lines the disk holds the service
  pub counted : ℕ
  pub one_more : (counted ≡ whole) ⊎ (counted ≡ whole + 1)
  pub begun : counted ≤ length lines
  pub service : Service
  pub run : IsRun rules first (take counted lines) (take counted requests) (take counted replies) service
  pub is_laid : laid service image
