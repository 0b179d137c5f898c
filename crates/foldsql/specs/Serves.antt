-- What a call of the program leaves: its status, what it put out, which lines it answered, and what a stop
-- at each moment leaves.
use Rattle.std.specs.Prelude.{◌≡◌, ◌≢◌, ◌⊎◌, ℕ, ◌≤◌, IsTrue, List, [], ◌∷◌, ◌++◌, length, map, codes, string_bytes, String}
use Rattle.std.specs.declared.alloc.Global.{Global}
use Rattle.mt_machine.specs.Meaning.{Disk, Meaning, Supply}
use Rattle.mt_machine.specs.Calls.{SameImages}
use Rattle.mt_machine.specs.Passes.{Passes}
use Rattle.mt_tree.specs.declared.reply.Reply.{Reply}
use Rattle.mt_script.specs.Lines.{Line, lines_of}
use Rattle.mt_model.specs.Request.{Request}
use Rattle.mt_model.specs.Service.{Service, empty_service, view_of}
use Rattle.mt_model.specs.Run.{Rules, IsRun, replies_bytes}
use Rattle.mt_model.specs.Isolation.{service_rules, own_events, replies_to, private_replies}
use Rattle.foldsql.specs.declared.status.Status.{Status}
use Rattle.foldsql.specs.declared.status.Status.TheVariants.{Words, EmitFault, SourceFault}
use Rattle.foldsql.specs.Moments.{IsMoment, LaidEither, on_any_disk}
use Rattle.foldsql.specs.Status.{CoversInput, IsBegunAt, IsPrefixOf, last_line}

-- the command line is the one word `run`
abbrev pub AsksRun : List (String Global) → Type 0
AsksRun words = map string_bytes words ≡ codes "run" ∷ []

-- the command line is the one word `plain`
abbrev pub AsksPlain : List (String Global) → Type 0
AsksPlain words = map string_bytes words ≡ codes "plain" ∷ []

-- The lines that were begun and have no whole reply, at most one, and what comes of them.
pub record Ahead (rules : Rules) (service : Service) (lines : List Line) : Type 0 where
  pub few : length lines ≤ 1
  pub requests : List Request
  pub replies : List Reply
  pub next : Service
  pub run : IsRun rules service lines requests replies next
  -- the reply that was begun to be put out, where the output failed within it
  pub put : List Reply
  pub put_is : (put ≡ []) ⊎ (put ≡ replies)

-- the output failed within the reply to the line that was begun
pub record CutsReply (begun : List Line) (replies put : List Reply) (tail front : List ℕ) : Type 0 where
  pub one : length begun ≡ 1
  pub is_put : put ≡ replies
  pub nothing : tail ≡ []
  pub cut : IsPrefixOf front (replies_bytes replies)

-- the output failed within the last line of another status
pub record CutsLastLine (taken : List ℕ) (lines begun : List Line) (after : Supply) (put : List Reply) (tail front : List ℕ) : Type 0 where
  pub status : Status
  pub some : last_line status ≢ []
  pub covers : CoversInput status taken lines after
  pub is_begun : IsBegunAt status begun
  pub nothing : put ≡ []
  pub last : tail ≡ last_line status
  pub cut : IsPrefixOf front (last_line status)

-- the last line of the status was put out, where it has one
pub record SaysWhy (status : Status) (begun : List Line) (put : List Reply) (tail front : List ℕ) : Type 0 where
  pub is_begun : IsBegunAt status begun
  pub nothing : put ≡ []
  pub last : tail ≡ last_line status
  pub whole : front ≡ last_line status

-- what was put out behind the whole replies
abbrev pub EndsWith : Status → List ℕ → List Line → List Line → Supply → List Reply → List Reply → List ℕ → List ℕ → Type 0
EndsWith EmitFault taken lines begun after replies put tail front = CutsReply begun replies put tail front ⊎ CutsLastLine taken lines begun after put tail front
EndsWith status taken lines begun after replies put tail front = SaysWhy status begun put tail front

-- What a run over these lines said and did, on a machine that tells.
pub record Runs (rules : Rules) (laid : Service → Disk → Type 0) (first : Service) (status : Status) (taken : List ℕ) (lines : List Line) (old new : Meaning) (after : Supply) : Type 0 where
  -- what the lines say, the replies to them, and the service behind them
  pub requests : List Request
  pub replies : List Reply
  pub last : Service
  pub run : IsRun rules first lines requests replies last
  pub begun : List Line
  pub ahead : Ahead rules last begun
  pub among : IsPrefixOf (lines ++ begun) (lines_of taken)
  -- what stands behind the whole replies, and the last line that it is of
  pub front : List ℕ
  pub tail : List ℕ
  pub output : new.output ≡ old.output ++ replies_bytes replies ++ front
  pub ends : EndsWith status taken lines begun after ahead.replies ahead.put tail front
  pub moments : Passes (IsMoment rules laid first (lines ++ begun) (requests ++ ahead.requests) (replies ++ ahead.replies) (replies ++ ahead.put) tail) old new
  -- what a stop now leaves
  pub images : IsTrue new.tells_moments → (image : Disk) → new.images image → LaidEither laid last ahead.next image

-- A whole run over an input: it answers lines of the input in order, from this service on.
pub record Serves (rules : Rules) (laid : Service → Disk → Type 0) (first : Service) (status : Status) (old new : Meaning) (before after : Supply) : Type 0 where
  -- the bytes that were taken, in order
  pub taken : List ℕ
  pub input : IsTrue after.tells → before.left ≡ taken ++ after.left
  -- the lines that got a whole reply
  pub lines : List Line
  pub covers : CoversInput status taken lines after
  -- where the input failed the status says so, or the output failed within the line that says so
  pub source_fault : (after.faults ≡ before.faults) ⊎ ((status ≡ SourceFault) ⊎ ((status ≡ EmitFault) × CoversInput SourceFault taken lines after))
  pub told : IsTrue new.tells → Runs rules laid first status taken lines old new after

-- Each tenant's replies are those of a private database that is given its own events alone.
abbrev pub AreIsolated : Service → List Request → List Reply → Type 0
AreIsolated first requests replies = (tenant : ℕ) → replies_to tenant requests replies ≡ private_replies (view_of first tenant) (own_events tenant requests replies)

-- A whole run of the service in memory, in which no tenant learns of another.
pub record ServesTenants (status : Status) (old new : Meaning) (before after : Supply) : Type 0 where
  pub served : Serves service_rules on_any_disk empty_service status old new before after
  pub isolated : (tells : IsTrue new.tells) → AreIsolated empty_service (served.told tells).requests (served.told tells).replies

-- The words ask for nothing that there is: that is said, or a front of it, and nothing is read.
abbrev pub IsRefusal : Status → Meaning → Meaning → Type 0
IsRefusal Words old new = IsTrue new.tells → new.output ≡ old.output ++ last_line Words
IsRefusal EmitFault old new = IsTrue new.tells → (front : List ℕ) × (new.output ≡ old.output ++ front) × IsPrefixOf front (last_line Words)
IsRefusal status old new = ⊥

-- What stays as it is whatever the words are: neither area changes, a stop at each moment leaves what a stop
-- before it might have left, and so does a stop now; what was put out stays, and no fault of the disk is counted.
pub record KeepsAreas (old new : Meaning) : Type 0 where
  pub told : IsTrue new.tells → IsTrue old.tells
  pub content : IsTrue new.tells → new.content ≡ old.content
  pub output : IsTrue new.tells → IsPrefixOf old.output new.output
  pub images : IsTrue new.tells_moments → SameImages old.images new.images
  pub moments : Passes (λ image bytes. old.images image) old new
  pub disk_faults : new.disk_faults ≡ old.disk_faults

-- a call ends with one of these numbers
abbrev pub IsEnd : ℕ → Type 0
IsEnd code = (code ≡ 0) ⊎ ((code ≡ 2) ⊎ ((code ≡ 5) ⊎ ((code ≡ 6) ⊎ ((code ≡ 7) ⊎ (code ≡ 8)))))
