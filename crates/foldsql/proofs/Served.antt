-- A whole run, with or without a last line.
use Rattle.std.proofs.Common.{◌≡◌, ◌≢◌, ◌⊎◌, inl, inr, ℕ, List, [], ◌++◌, refl, sym, ◌∙◌, ap, subst}
use Rattle.std.specs.Prelude.{IsTrue}
use Rattle.mt_machine.specs.Meaning.{Disk, Meaning, Supply}
use Rattle.mt_machine.specs.Calls.{PutsOutFront}
use Rattle.mt_script.specs.Lines.{Line, lines_of}
use Rattle.mt_model.specs.Isolation.{service_rules, own_events, replies_to, private_replies}
use Rattle.mt_model.specs.Request.{Request}
use Rattle.mt_model.specs.Service.{Service, empty_service, view_of}
use Rattle.mt_model.specs.Run.{Rules, IsRun}
use Rattle.mt_tree.specs.declared.reply.Reply.{Reply}
use Rattle.foldsql.specs.declared.status.Status.{Status}
use Rattle.foldsql.specs.declared.status.Status.TheVariants.{Done, Words, DiskFault, EmitFault, SourceFault, InputTooLong, NoMemory}
use Rattle.foldsql.specs.Moments.{on_any_disk}
use Rattle.foldsql.specs.Serves.{EndsWith, IsRefusal, Runs, Serves, ServesTenants}
use Rattle.foldsql.specs.Status.{CoversInput, IsBegunAt, IsPrefixOf, last_line}
use Rattle.foldsql.specs.Turns.{AnswersInput, Counts, Finishes, SaysLast, Stops, StopsWith}
use Rattle.foldsql.proofs.Covering.{covered_first}
use Rattle.foldsql.proofs.Ending.{runs_end}

has_last_line : (status : Status) → (last_line status ≡ []) ⊎ (last_line status ≢ [])
unfolding last_line
has_last_line Done = inl refl
has_last_line Words = inr (λ e. cc)
has_last_line DiskFault = inr (λ e. cc)
has_last_line EmitFault = inl refl
has_last_line SourceFault = inr (λ e. cc)
has_last_line InputTooLong = inr (λ e. cc)
has_last_line NoMemory = inr (λ e. cc)

-- the status has no last line, and what was put out ends as the lines left it
ends_silent : (status : Status) (taken : List ℕ) (lines begun : List Line) (after : Supply) (replies put : List Reply) (front : List ℕ) → last_line status ≡ [] → (status ≢ EmitFault → IsBegunAt status begun)
    → StopsWith status begun replies put front → EndsWith status taken lines begun after replies put [] front
unfolding last_line
ends_silent Done taken lines begun after replies put front none is_begun ends = record { is_begun = is_begun (λ e. cc); nothing = ends.1; last = refl; whole = ends.0 }
ends_silent Words taken lines begun after replies put front none is_begun ends = absurd (cc)
ends_silent DiskFault taken lines begun after replies put front none is_begun ends = absurd (cc)
ends_silent EmitFault taken lines begun after replies put front none is_begun ends = inl ends
ends_silent SourceFault taken lines begun after replies put front none is_begun ends = absurd (cc)
ends_silent InputTooLong taken lines begun after replies put front none is_begun ends = absurd (cc)
ends_silent NoMemory taken lines begun after replies put front none is_begun ends = absurd (cc)

runs_silent : (rules : Rules) (laid : Service → Disk → Type 0) (first : Service) (status : Status) (taken : List ℕ) (lines begun : List Line) (old new : Meaning) (after : Supply) → last_line status ≡ [] → IsPrefixOf (lines ++ begun) (lines_of taken)
    → (status ≢ EmitFault → IsBegunAt status begun) → Stops rules laid first status lines begun old new → Runs rules laid first status taken lines old new after
runs_silent rules laid first status taken lines begun old new after none among is_begun a = record {
  requests = a.requests;
  replies = a.replies;
  last = a.last;
  run = a.run;
  begun = begun;
  ahead = a.ahead;
  among = among;
  front = a.front;
  tail = [];
  output = a.output;
  ends = ends_silent status taken lines begun after a.ahead.replies a.ahead.put a.front none is_begun a.ends;
  moments = a.moments;
  images = a.images;
}

-- where the status has a last line, it is not that of the output
not_cut : (status : Status) → last_line status ≢ [] → status ≢ EmitFault
unfolding last_line
not_cut status some e = some (ap last_line e)

-- the status at the end: as it was, or the output failed within the last line
abbrev IsEnding : Status → Status → Type 0
IsEnding status result = (result ≡ status) ⊎ (result ≡ EmitFault)

says_ending : (status result : Status) (old new : Meaning) → SaysLast status result old new → IsEnding status result
says_ending status result old new (inl says) = inl says.0
says_ending status result old new (inr cuts) = inr cuts.0

covers_ending : (status result : Status) (taken : List ℕ) (lines : List Line) (after : Supply) → CoversInput status taken lines after → IsEnding status result → CoversInput result taken lines after
covers_ending status result taken lines after covers (inl e) = subst (λ st. CoversInput st taken lines after) (sym e) covers
covers_ending status result taken lines after covers (inr e) = subst (λ st. CoversInput st taken lines after) (sym e) (covered_first status taken lines after covers)

-- where the count of the source rose, its status tells it
source_ending : (status result : Status) (taken : List ℕ) (lines : List Line) (before after : Supply) → CoversInput status taken lines after → Counts (status ≡ SourceFault) before.faults after.faults → IsEnding status result
    → (after.faults ≡ before.faults) ⊎ ((result ≡ SourceFault) ⊎ ((result ≡ EmitFault) × CoversInput SourceFault taken lines after))
source_ending Done result taken lines before after covers counts ending = inl (counts.stood (λ e. cc))
source_ending Words result taken lines before after covers counts ending = inl (counts.stood (λ e. cc))
source_ending DiskFault result taken lines before after covers counts ending = inl (counts.stood (λ e. cc))
source_ending EmitFault result taken lines before after covers counts ending = inl (counts.stood (λ e. cc))
source_ending SourceFault result taken lines before after covers counts (inl e) = inr (inl e)
source_ending SourceFault result taken lines before after covers counts (inr e) = inr (inr (e, covers))
source_ending InputTooLong result taken lines before after covers counts ending = inl (counts.stood (λ e. cc))
source_ending NoMemory result taken lines before after covers counts ending = inl (counts.stood (λ e. cc))

-- the lines and the end make the whole run
pub served : {A : Type 0} (meaning : A → Meaning) (rules : Rules) (laid : Service → Disk → Type 0) (first : Service) (status result : Status) (old now new : A) (before after : Supply)
    → AnswersInput rules laid first status (meaning old) (meaning now) before after → Counts (status ≡ SourceFault) before.faults after.faults
    → (last_line status ≡ [] → (result ≡ status) × (new ≡ now)) → (last_line status ≢ [] → Finishes status result (meaning now) (meaning new)) → (IsTrue (meaning new).tells → IsTrue (meaning now).tells)
    → Serves rules laid first result (meaning old) (meaning new) before after
served {A} meaning rules laid first status result old now new before after a counts silent finishes told = by (has_last_line status)
  where
    make : IsEnding status result → (IsTrue (meaning new).tells → Runs rules laid first result a.taken a.lines (meaning old) (meaning new) after) → Serves rules laid first result (meaning old) (meaning new) before after
    make ending runs = record {
      taken = a.taken;
      input = a.input;
      lines = a.lines;
      covers = covers_ending status result a.taken a.lines after a.covers ending;
      source_fault = source_ending status result a.taken a.lines before after a.covers counts ending;
      told = runs;
    }

    by : (last_line status ≡ []) ⊎ (last_line status ≢ []) → Serves rules laid first result (meaning old) (meaning new) before after
    by (inl none) =
        let stays = silent none in
        make (inl stays.0) (λ tells. subst (λ st. Runs rules laid first st a.taken a.lines (meaning old) (meaning new) after) (sym stays.0)
        (subst (λ (machine : A). Runs rules laid first status a.taken a.lines (meaning old) (meaning machine) after) (sym stays.1)
        (runs_silent rules laid first status a.taken a.lines a.begun (meaning old) (meaning now) after none a.among a.is_begun (a.told (told tells)))))
    by (inr some) =
        let f = finishes some in
        make (says_ending status result (meaning now) (meaning new) f.says)
        (λ tells. runs_end rules laid first status a.taken a.lines a.begun (meaning old) (meaning now) (meaning new) after some a.covers a.among (a.is_begun (not_cut status some)) (a.told (told tells)) result f tells)

-- each run of the service gives a tenant the replies of a private database
abbrev Isolates : Type 0
Isolates =
    (first last : Service) (lines : List Line) (requests : List Request) (replies : List Reply) (tenant : ℕ) → IsRun service_rules first lines requests replies last
    → replies_to tenant requests replies ≡ private_replies (view_of first tenant) (own_events tenant requests replies)

-- a whole run of the service is one of its tenants
pub tenants_served : (status : Status) (old new : Meaning) (before after : Supply) → Isolates → Serves service_rules on_any_disk empty_service status old new before after → ServesTenants status old new before after
tenants_served status old new before after isolates whole = record {
  served = whole;
  isolated = λ tells tenant. let runs = whole.told tells in isolates empty_service runs.last whole.lines runs.requests runs.replies tenant runs.run;
}

words_say : last_line Words ≢ []
unfolding last_line
words_say e = cc

-- the words are refused, or the output fails within the line that says so
pub refusal : (result : Status) (old new : Meaning) → (last_line Words ≢ [] → Finishes Words result old new) → IsRefusal result old new
refusal result old new finishes = pick ((finishes words_say).says)
  where
    pick : SaysLast Words result old new → IsRefusal result old new
    pick (inl says) = subst (λ st. IsRefusal st old new) (sym says.0) says.1
    pick (inr cuts) = subst (λ st. IsRefusal st old new) (sym cuts.0) (λ t. let put : PutsOutFront (last_line Words) old.output new.output = cuts.1 t in (put.front, put.output, (put.rest, put.split)))
