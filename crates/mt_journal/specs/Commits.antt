-- What the calls of a journal leave.
use Rattle.std.specs.Prelude.{◌≡◌, ◌⊎◌, ℕ, ◌+◌, IsTrue, List, [], ◌∷◌, ◌++◌, sum_by, Result, Ok, Err}
use Rattle.mt_machine.specs.declared.machine.Area.TheVariants.{Log, Pages}
use Rattle.mt_machine.specs.Meaning.{Disk, Meaning, Rose}
use Rattle.mt_journal.specs.declared.journal.RecoverFault.{RecoverFault}
use Rattle.mt_journal.specs.declared.journal.RecoverFault.TheVariants as faults
use Rattle.mt_journal.specs.Layout.{Area, Range, StandAt, range_size}
use Rattle.mt_journal.specs.Chain.{IsChain, IsDamaged}
use Rattle.mt_journal.specs.Replay.{Replays, with_ranges}
use Rattle.mt_journal.specs.Spelling.{spelling_of}

-- how long the payload of a group is: the count, and the ranges
abbrev pub payload_size : List Range → ℕ
payload_size ranges = 4 + sum_by range_size ranges

-- the answer `Disk` comes with a fault that was counted, and each other answer with none
abbrev pub DiskCause : {T : Type 0} → Result T RecoverFault → ℕ → ℕ → Type 0
DiskCause (Ok value) before now = now ≡ before
DiskCause (Err faults.Disk) before now = Rose before now
DiskCause (Err faults.Damaged) before now = now ≡ before

-- A journal with this tail stands for the machine: the chain of open groups of the content ends
-- there; each image has the same chain, its gate at the tail is closed, and it replays to the pages
-- of the content.
pub record StandsFor (tail : ℕ) (machine : Meaning) : Type 0 where
  pub content : IsTrue machine.tells → (groups : List (List Range)) × IsChain (machine.content Log) groups tail
  pub chains : IsTrue machine.tells_moments → (image : Disk) → machine.images image → (groups : List (List Range)) → IsChain (machine.content Log) groups tail → IsChain (image Log) groups tail
  pub replays : IsTrue machine.tells_moments → (image : Disk) → machine.images image → Replays image (machine.content Pages)

-- a disk has a chain that ends at this tail
abbrev pub HasChain : ℕ → Disk → Type 0
HasChain tail content = (groups : List (List Range)) × IsChain (content Log) groups tail

-- an image has the chain of a content with this tail, and replays to its pages
abbrev pub MayLeave : ℕ → Disk → Disk → Type 0
MayLeave tail content image = ((groups : List (List Range)) → IsChain (content Log) groups tail → IsChain (image Log) groups tail) × Replays image (content Pages)

-- a stop leaves a disk that replays to these pages
abbrev pub ReplaysTo : Area → Disk → Type 0
ReplaysTo pages image = Replays image pages

-- a stop leaves a disk that replays to the pages before or to the pages after
abbrev pub ReplaysToEither : Area → Area → Disk → Type 0
ReplaysToEither before after image = Replays image before ⊎ Replays image after

-- A group of ranges was committed, and the journal's tail went on.
pub record Committed (ranges : List Range) (tail new_tail : ℕ) (old new : Meaning) : Type 0 where
  pub tail_is : new_tail ≡ tail + 9 + payload_size ranges
  pub stands : StandsFor new_tail new
  -- the pages have all ranges
  pub pages : IsTrue new.tells → new.content Pages ≡ with_ranges ranges (old.content Pages)
  -- its payload stands behind its gate and its length
  pub payload : IsTrue new.tells → StandAt (new.content Log) (tail + 9) (spelling_of ranges)
  -- the chain is the old one with the new group at its end
  pub chain : IsTrue new.tells → (groups : List (List Range)) → IsChain (old.content Log) groups tail → IsChain (new.content Log) (groups ++ ranges ∷ []) new_tail

-- The journal was emptied; the pages stand.
pub record Emptied (old new : Meaning) : Type 0 where
  pub stands : StandsFor 0 new
  pub pages : IsTrue new.tells → new.content Pages ≡ old.content Pages
  pub chain : IsTrue new.tells → IsChain (new.content Log) [] 0

-- The log of the disk was replayed, and the journal emptied.
pub record Recovered (old new : Meaning) : Type 0 where
  pub stands : StandsFor 0 new
  pub pages : IsTrue new.tells → Replays old.content (new.content Pages)
  pub chain : IsTrue new.tells → IsChain (new.content Log) [] 0

-- One of the images from before, or a disk that replays to what the content from before replays to.
abbrev pub OldOrReplays : Meaning → Disk → Type 0
OldOrReplays old image = old.images image ⊎ ((pages : Area) × Replays old.content pages × Replays image pages)

-- What a disk replays to it replays to still; where its log does not decode, it is as before.
pub record KeepsReplay (old new : Disk) : Type 0 where
  pub replays : (pages : Area) → Replays old pages → Replays new pages
  pub damaged : IsDamaged (old Log) → new ≡ old
