-- One turn of a run: the next line is read and answered, or the run ends.
use Rattle.std.specs.Prelude.{◌≡◌, ◌≢◌, ◌⊎◌, ℕ, ◌≤◌, ◌<◌, ◌^◌, true, IsTrue, Result, Ok, Err, Option, None, Some, List, [], ◌∷◌, ◌++◌, filter, length}
use Rattle.mt_machine.specs.Meaning.{Disk, Meaning, Supply, Rose}
use Rattle.mt_machine.specs.Calls.{PutsOutFront}
use Rattle.mt_machine.specs.Keeps.{Keeps, DiskMayFail}
use Rattle.mt_machine.specs.Leaves.{Leaves}
use Rattle.mt_machine.specs.Passes.{Passes}
use Rattle.mt_tree.specs.declared.reply.Reply.{Reply}
use Rattle.mt_script.specs.Lines.{Line, TooLong, Text, lines_of, is_answered}
use Rattle.mt_script.specs.declared.reader.Took.{Took}
use Rattle.mt_script.specs.declared.reader.Took.TheVariants as took
use Rattle.mt_script.specs.declared.reader.ReadStop.{ReadStop}
use Rattle.mt_script.specs.declared.reader.ReadStop.TheVariants as stop
use Rattle.mt_script.specs.Reader.{Reading, Nexts}
use Rattle.mt_model.specs.Request.{Request}
use Rattle.mt_model.specs.Service.{Service}
use Rattle.mt_model.specs.Run.{Rules, Answers, IsRun, replies_bytes}
use Rattle.foldsql.specs.declared.status.Status.{Status}
use Rattle.foldsql.specs.declared.status.Status.TheVariants.{Done, Words, DiskFault, EmitFault, SourceFault, InputTooLong, NoMemory}
use Rattle.foldsql.specs.Moments.{IsMoment, LaidEither}
use Rattle.foldsql.specs.Serves.{Ahead, CutsReply}
use Rattle.foldsql.specs.Status.{CoversInput, IsBegunAt, IsPrefixOf, last_line}

-- an engine answered the line, and nothing is put out yet
pub record Answered (rules : Rules) (laid : Service → Disk → Type 0) (keeps : Service → Type 0) (reply : Reply) (line : Line) (service : Service) (old new : Meaning) : Type 0 where
  pub request : Request
  pub next : Service
  pub answers : Answers rules service line request reply next
  pub kept : keeps next
  pub leaves : Leaves (LaidEither laid service next) old new

-- an engine failed within the line
pub record FailsWithin (rules : Rules) (laid : Service → Disk → Type 0) (line : Line) (service : Service) (old new : Meaning) : Type 0 where
  pub request : Request
  pub said : rules.says line request
  pub leaves : Leaves (LaidEither laid service (rules.step service request).next) old new

-- what an engine makes of a line; it then keeps the services of which `keeps` says so
abbrev pub DoesLine : {E : Type 0} → Rules → (Service → Disk → Type 0) → (Service → Type 0) → Result Reply E → Line → Service → Meaning → Meaning → Type 0
DoesLine rules laid keeps (Ok reply) line service old new = Answered rules laid keeps reply line service old new
DoesLine rules laid keeps (Err e) line service old new = FailsWithin rules laid line service old new

-- the line as one that gets a reply, where it does
abbrev pub answered_line : Line → List Line
answered_line line = filter is_answered (line ∷ [])

-- These lines got their whole replies, and nothing else was put out.
pub record Replied (rules : Rules) (laid : Service → Disk → Type 0) (first : Service) (lines : List Line) (service : Service) (old new : Meaning) : Type 0 where
  pub requests : List Request
  pub replies : List Reply
  pub run : IsRun rules first lines requests replies service
  pub output : new.output ≡ old.output ++ replies_bytes replies
  pub moments : Passes (IsMoment rules laid first lines requests replies replies []) old new

-- what stands behind the whole replies before the last line
abbrev pub StopsWith : Status → List Line → List Reply → List Reply → List ℕ → Type 0
StopsWith EmitFault begun replies put front = CutsReply begun replies put [] front
StopsWith status begun replies put front = (front ≡ []) × (put ≡ [])

-- The first lines got their whole replies, and then the run came to the status, after it had begun these.
pub record Stops (rules : Rules) (laid : Service → Disk → Type 0) (first : Service) (status : Status) (lines begun : List Line) (old new : Meaning) : Type 0 where
  pub requests : List Request
  pub replies : List Reply
  pub last : Service
  pub run : IsRun rules first lines requests replies last
  pub ahead : Ahead rules last begun
  pub front : List ℕ
  pub output : new.output ≡ old.output ++ replies_bytes replies ++ front
  pub ends : StopsWith status begun ahead.replies ahead.put front
  pub moments : Passes (IsMoment rules laid first (lines ++ begun) (requests ++ ahead.requests) (replies ++ ahead.replies) (replies ++ ahead.put) []) old new
  pub images : IsTrue new.tells_moments → (image : Disk) → new.images image → LaidEither laid last ahead.next image

-- where the machine tells, each service that is kept before goes on by this line
abbrev pub GoesOn : Rules → (Service → Disk → Type 0) → (Service → Type 0) → (Service → Type 0) → List Line → Meaning → Meaning → Type 0
GoesOn rules laid kept keeps lines old new = IsTrue new.tells → (service : Service) → kept service → (next : Service) × keeps next × Replied rules laid service lines next old new

-- the same where the run comes to a status
abbrev pub ComesTo : Rules → (Service → Disk → Type 0) → (Service → Type 0) → Status → List Line → Meaning → Meaning → Type 0
ComesTo rules laid kept status begun old new = IsTrue new.tells → (service : Service) → kept service → Stops rules laid service status [] begun old new

-- a line ends a run with a fault of the output or of the disk
abbrev pub IsLineFault : Status → Type 0
IsLineFault status = (status ≡ EmitFault) ⊎ (status ≡ DiskFault)

-- what comes of a line: a whole reply, or none to a silent one; or the end of the run within it
abbrev pub LineOutcome : Rules → (Service → Disk → Type 0) → (Service → Type 0) → (Service → Type 0) → Option Status → Line → Meaning → Meaning → Type 0
LineOutcome rules laid kept keeps None line old new = GoesOn rules laid kept keeps (answered_line line) old new
LineOutcome rules laid kept keeps (Some status) line old new = IsLineFault status × (is_answered line ≡ true) × ComesTo rules laid kept status (line ∷ []) old new

-- no line was begun, and the run comes to this status
abbrev pub EndOutcome : Rules → (Service → Disk → Type 0) → (Service → Type 0) → Status → Option Status → Meaning → Meaning → Type 0
EndOutcome rules laid kept status ends old new = (ends ≡ Some status) × ComesTo rules laid kept status [] old new

-- what comes of what the reader gave
abbrev pub TurnOutcome : Rules → (Service → Disk → Type 0) → (Service → Type 0) → (Service → Type 0) → Result Took ReadStop → Option Status → List ℕ → Meaning → Meaning → Type 0
TurnOutcome rules laid kept keeps (Ok took.Line) ends line old new = LineOutcome rules laid kept keeps ends (Text line) old new
TurnOutcome rules laid kept keeps (Ok took.TooLong) ends line old new = LineOutcome rules laid kept keeps ends TooLong old new
TurnOutcome rules laid kept keeps (Ok took.End) ends line old new = EndOutcome rules laid kept Done ends old new
TurnOutcome rules laid kept keeps (Err stop.Source) ends line old new = EndOutcome rules laid kept SourceFault ends old new
TurnOutcome rules laid kept keeps (Err stop.Budget) ends line old new = EndOutcome rules laid kept InputTooLong ends old new

-- The reader gives the next line or tells why there is none, and that has its outcome. The services that
-- are kept are those before the turn and those behind it.
pub record Turns (rules : Rules) (laid : Service → Disk → Type 0) (kept keeps : Service → Type 0) (ends : Option Status) (reading further : Reading) (before after : Supply) (old new : Meaning) : Type 0 where
  pub took : Result Took ReadStop
  pub nexts : Nexts took reading further before after
  pub outcome : TurnOutcome rules laid kept keeps took ends further.line old new

-- A count of faults rose where the run ended for it, and else stood.
pub record Counts (failed : Type 0) (before now : ℕ) : Type 0 where
  pub no_lower : before ≤ now
  pub rose : failed → Rose before now
  pub stood : (failed → ⊥) → now ≡ before

-- Nothing more is told, and the counts of the machine's faults say why the run ended, if it did.
pub record MachineCounts (ends : Option Status) (old new : Meaning) : Type 0 where
  pub told : IsTrue new.tells → IsTrue old.tells
  pub emits : Counts (ends ≡ Some EmitFault) old.emit_faults new.emit_faults
  pub disk : old.disk_faults ≤ new.disk_faults
  pub disk_failed : ends ≡ Some DiskFault → DiskMayFail old new
  pub disk_stood : ends ≢ Some DiskFault → new.disk_faults ≡ old.disk_faults

-- A run up to its last line: what it is to serve, but for that line.
pub record AnswersInput (rules : Rules) (laid : Service → Disk → Type 0) (first : Service) (status : Status) (old new : Meaning) (before after : Supply) : Type 0 where
  pub taken : List ℕ
  pub input : IsTrue after.tells → before.left ≡ taken ++ after.left
  pub lines : List Line
  pub begun : List Line
  pub covers : CoversInput status taken lines after
  pub among : IsPrefixOf (lines ++ begun) (lines_of taken)
  pub is_begun : status ≢ EmitFault → IsBegunAt status begun
  pub told : IsTrue new.tells → Stops rules laid first status lines begun old new

-- what was put out of the last line: all of it, or a front where the output failed
abbrev pub SaysLast : Status → Status → Meaning → Meaning → Type 0
SaysLast status result old new =
    ((result ≡ status) × (IsTrue new.tells → new.output ≡ old.output ++ last_line status))
    ⊎ ((result ≡ EmitFault) × (IsTrue new.tells → PutsOutFront (last_line status) old.output new.output))

-- the end of a run whose status has a last line
pub record Finishes (status result : Status) (old new : Meaning) : Type 0 where
  pub says : SaysLast status result old new
  pub images : IsTrue new.tells_moments → (image : Disk) → new.images image → old.images image
  pub moments : Passes (λ image bytes. old.images image × IsPrefixOf bytes (last_line status)) old new

-- The status that a run ends with, and the count of the output's faults.
pub record FinishCounts (status result : Status) (old new : Meaning) : Type 0 where
  pub no_lower : old.emit_faults ≤ new.emit_faults
  pub fault : result ≡ EmitFault → (status ≡ EmitFault) ⊎ Rose old.emit_faults new.emit_faults
  pub stood : result ≢ EmitFault → (result ≡ status) × (new.emit_faults ≡ old.emit_faults)

-- why a run has its status
pub record HasStatusCause (status : Status) (old new : Meaning) (before after : Supply) : Type 0 where
  pub words : status ≢ Words
  pub emits : Counts (status ≡ EmitFault) old.emit_faults new.emit_faults
  pub faults : before.faults ≤ after.faults
  pub source_fault : status ≡ SourceFault → Rose before.faults after.faults
  pub source_stood : status ≢ SourceFault → status ≢ EmitFault → after.faults ≡ before.faults
  pub disk_fault : status ≡ DiskFault → DiskMayFail old new
  pub disk_stood : status ≢ DiskFault → status ≢ EmitFault → new.disk_faults ≡ old.disk_faults
  -- where neither fails, and the input is not too long, each line is answered, or there was no memory to
  -- begin, or the disk failed
  pub complete : (Rose old.emit_faults new.emit_faults → ⊥) → (Rose before.faults after.faults → ⊥) → IsTrue after.tells → length before.left < 2 ^ 40
      → (status ≡ Done) ⊎ ((status ≡ NoMemory) ⊎ (status ≡ DiskFault))
