-- Which call is the next of its kind, and whether it is to fail.
use Rattle.std.specs.Prelude.{◌≡◌, ◌≢◌, ℕ, List, Contains}
use Rattle.mt_machine.specs.Faults.{one_more}
use Rattle.mt_machine.specs.declared.fails.CallKind.{CallKind}
use Rattle.mt_machine.specs.declared.fails.CallKind.TheVariants.{Read, Write, Sync, Emit, Take}
use Rattle.mt_machine.specs.declared.schedule.Counts.{Counts}
use Rattle.mt_machine.specs.declared.schedule.Schedule.{Schedule}

-- how many calls of a kind were made
abbrev pub count_of : Counts → CallKind → ℕ
count_of counts Read = counts.reads
count_of counts Write = counts.writes
count_of counts Sync = counts.syncs
count_of counts Emit = counts.emits
count_of counts Take = counts.takes

-- no call of any kind was made
abbrev pub no_calls : Counts
no_calls = record { reads = 0; writes = 0; syncs = 0; emits = 0; takes = 0 }

-- one more call of this kind is counted, and no other
pub record CountsOne (kind : CallKind) (old new : Counts) : Type 0 where
  pub counted : count_of new kind ≡ one_more (count_of old kind)
  pub others : (other : CallKind) → other ≢ kind → count_of new other ≡ count_of old other

-- the list of fails names the next call of this kind
abbrev pub FailsNext : Schedule → CallKind → Type 0
FailsNext schedule kind = Contains schedule.fails (kind, one_more (count_of schedule.counts kind))

-- a call of this kind is counted, and the list of fails stays
pub record CountsCall (kind : CallKind) (old new : Schedule) : Type 0 where
  pub fails : new.fails ≡ old.fails
  pub counts : CountsOne kind old.counts new.counts

-- no call was made yet, and these calls are to fail
pub record IsUncalled (named : List (CallKind × ℕ)) (schedule : Schedule) : Type 0 where
  pub fails : schedule.fails ≡ named
  pub counts : schedule.counts ≡ no_calls
