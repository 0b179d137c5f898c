-- What each call on a machine or a source does, as a relation between what it stands for before and after.
use Rattle.std.specs.Prelude.{◌≡◌, ◌≢◌, ◌⊎◌, ℕ, ◌+◌, ◌<◌, ◌≤◌, IsTrue, IsErr, IfOk, OnOk, OnErr, List, [], ◌++◌, length, take, slice_index, Result}
use Rattle.mt_machine.specs.declared.machine.Area.{Area}
use Rattle.mt_machine.specs.Faults.{one_more}
use Rattle.mt_machine.specs.Meaning.{Disk, Meaning, Supply, Rose}

-- these bytes stand in the area from a position on
abbrev pub Stand : Disk → Area → ℕ → List ℕ → Type 0
Stand content area at bytes = (k : ℕ) → k < length bytes → content area (at + k) ≡ slice_index bytes k

-- the contents are the same but for n bytes of one area
pub record Torn (area : Area) (at n : ℕ) (old new : Disk) : Type 0 where
  pub before : (k : ℕ) → k < at → new area k ≡ old area k
  pub after : (k : ℕ) → at + n ≤ k → new area k ≡ old area k
  pub other : (b : Area) → b ≢ area → new b ≡ old b

-- a front of the bytes was put behind the output
pub record PutsOutFront (bytes old new : List ℕ) : Type 0 where
  pub front : List ℕ
  pub rest : List ℕ
  pub split : bytes ≡ front ++ rest
  pub output : new ≡ old ++ front

-- a failure has a fault behind it, and else none is counted; the count never falls
pub record HasCause {T E : Type 0} (before now : ℕ) (result : Result T E) : Type 0 where
  pub no_lower : before ≤ now
  pub failed : IsErr result → Rose before now
  pub none : OnOk result (now ≡ before)

-- the same images
abbrev pub SameImages : (Disk → Type 0) → (Disk → Type 0) → Type 0
SameImages old new = (image : Disk) → (new image → old image) × (old image → new image)

-- each image now is an image from before with any bytes in a range of one area
abbrev pub TornImages : Area → ℕ → ℕ → (Disk → Type 0) → (Disk → Type 0) → Type 0
TornImages area at n old new = (image : Disk) → new image → (before : Disk) × old before × Torn area at n before image

-- Time goes on: since an earlier time there is what there was, and what arises in the call.
pub record Elapses (old new : Meaning) (arises : Disk → List ℕ → Type 0) : Type 0 where
  pub told : IsTrue new.tells_moments → IsTrue old.tells_moments × IsTrue new.tells
  pub later : old.clock ≤ new.clock
  -- since the time of the call there was just the moment before it
  pub start : IsTrue new.tells_moments → (image : Disk) (out : List ℕ) → old.since old.clock image out → old.images image × (out ≡ old.output)
  pub nothing_else : IsTrue new.tells_moments → (t : ℕ) (image : Disk) (out : List ℕ) → t ≤ old.clock → new.since t image out → old.since t image out ⊎ arises image out
  pub keeps : IsTrue new.tells_moments → (t : ℕ) (image : Disk) (out : List ℕ) → t ≤ old.clock → old.since t image out → new.since t image out

-- a moment at which the images and the output are those of before
abbrev pub Before : Meaning → Disk → List ℕ → Type 0
Before old image out = old.images image × (out ≡ old.output)

-- a moment within a write
abbrev pub WithinWrite : Area → ℕ → ℕ → Meaning → Disk → List ℕ → Type 0
WithinWrite area at n old image out = ((before : Disk) × old.images before × Torn area at n before image) × (out ≡ old.output)

-- a moment within an emit
abbrev pub WithinEmit : List ℕ → Meaning → Disk → List ℕ → Type 0
WithinEmit bytes old image out = old.images image × PutsOutFront bytes old.output out

-- what a read answers, and that it changes nothing but the count of faults
pub record Reads {T E : Type 0} (result : Result T E) (area : Area) (at : ℕ) (buf : List ℕ) (old new : Meaning) : Type 0 where
  pub told : IsTrue new.tells → IsTrue old.tells
  pub content : IsTrue new.tells → new.content ≡ old.content
  pub output : IsTrue new.tells → new.output ≡ old.output
  pub bytes : OnOk result (IsTrue new.tells → Stand old.content area at buf)
  pub images : IsTrue new.tells_moments → SameImages old.images new.images
  pub time : Elapses old new (Before old)
  pub cause : HasCause old.disk_faults new.disk_faults result
  pub emit_faults : new.emit_faults ≡ old.emit_faults

-- the bytes stand after a write that succeeds; after one that fails its range may hold anything
pub record Writes {T E : Type 0} (result : Result T E) (area : Area) (at : ℕ) (bytes : List ℕ) (old new : Meaning) : Type 0 where
  pub told : IsTrue new.tells → IsTrue old.tells
  pub outside : IsTrue new.tells → Torn area at (length bytes) old.content new.content
  pub inside : OnOk result (IsTrue new.tells → Stand new.content area at bytes)
  pub output : IsTrue new.tells → new.output ≡ old.output
  pub images : IsTrue new.tells_moments → TornImages area at (length bytes) old.images new.images
  pub time : Elapses old new (WithinWrite area at (length bytes) old)
  pub cause : HasCause old.disk_faults new.disk_faults result
  pub emit_faults : new.emit_faults ≡ old.emit_faults

-- a sync changes no content; where it succeeds, the content is durable
pub record Syncs {T E : Type 0} (result : Result T E) (old new : Meaning) : Type 0 where
  pub told : IsTrue new.tells → IsTrue old.tells
  pub content : IsTrue new.tells → new.content ≡ old.content
  pub output : IsTrue new.tells → new.output ≡ old.output
  -- no new image arises; after a sync that succeeds the content is the only one
  pub images : IsTrue new.tells_moments → (image : Disk) → new.images image → old.images image
  pub durable : OnOk result (IsTrue new.tells_moments → (image : Disk) → new.images image → image ≡ new.content)
  pub time : Elapses old new (Before old)
  pub cause : HasCause old.disk_faults new.disk_faults result
  pub emit_faults : new.emit_faults ≡ old.emit_faults

-- all bytes are put out, or a front of them by an emit that fails
pub record Emits {T E : Type 0} (result : Result T E) (bytes : List ℕ) (old new : Meaning) : Type 0 where
  pub told : IsTrue new.tells → IsTrue old.tells
  pub content : IsTrue new.tells → new.content ≡ old.content
  pub all : OnOk result (IsTrue new.tells → new.output ≡ old.output ++ bytes)
  pub front : OnErr result (IsTrue new.tells → PutsOutFront bytes old.output new.output)
  pub images : IsTrue new.tells_moments → SameImages old.images new.images
  pub time : Elapses old new (WithinEmit bytes old)
  pub cause : HasCause old.emit_faults new.emit_faults result
  pub disk_faults : new.disk_faults ≡ old.disk_faults

-- a take moves a front of what is left into the buffer
pub record Takes {E : Type 0} (result : Result ℕ E) (buf : List ℕ) (old new : Supply) : Type 0 where
  pub told : IsTrue new.tells → IsTrue old.tells
  pub count : IfOk result (λ n. n ≤ length buf)
  pub moved : IfOk result (λ n. IsTrue new.tells → old.left ≡ take n buf ++ new.left)
  -- 0 comes only where nothing is left, and by the line above it comes wherever nothing is
  pub end : IfOk result (λ n. n ≡ 0 → IsTrue new.tells → old.left ≡ [])
  pub failed : OnErr result (IsTrue new.tells → new.left ≡ old.left)
  pub gave : IfOk result (λ n. IsTrue new.tells → new.last ≡ take n buf)
  pub gave_nothing : OnErr result (IsTrue new.tells → new.last ≡ [])
  pub counted : IsTrue new.tells → new.takes ≡ one_more old.takes
  pub cause : HasCause old.faults new.faults result
