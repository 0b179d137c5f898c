-- What an engine that keeps its service in memory alone makes of a line: no call on the machine.
use Rattle.std.proofs.Common.{inl, ℕ, List}
use Rattle.std.specs.Prelude.{IsTrue}
use Rattle.mt_machine.specs.Meaning.{Disk, Meaning}
use Rattle.mt_machine.specs.Calls.{Before}
use Rattle.mt_machine.specs.Keeps.{Keeps}
use Rattle.mt_machine.specs.LeavesLaws.{leaves_itself}
use Rattle.mt_tree.specs.declared.reply.Reply.{Reply}
use Rattle.mt_script.specs.Lines.{Line}
use Rattle.mt_model.specs.Request.{Request}
use Rattle.mt_model.specs.Service.{Service}
use Rattle.mt_model.specs.Run.{Rules, Answers}
use Rattle.foldsql.specs.Moments.{LaidEither, on_any_disk}
use Rattle.foldsql.specs.Turns.{Answered}

-- with any disk this is so, and a stop may leave any
abbrev pub KeepsInMemory : Type 0 → Meaning → Type 0
KeepsInMemory kept machine = Keeps (λ _. kept) (λ _ _. Unit {0}) machine

pub keeps_in_memory : (kept : Type 0) (machine : Meaning) → (IsTrue machine.tells_moments → IsTrue machine.tells) → kept → KeepsInMemory kept machine
keeps_in_memory kept machine told is = record { told = told; content = λ _. is; images = λ _ _ _. tt }

-- the line is answered of this service, and a next one is kept
abbrev pub AnswersFrom : Rules → Line → Reply → (Service → Type 0) → Service → Type 0
AnswersFrom rules line reply keeps service = (request : Request) × (next : Service) × Answers rules service line request reply next × keeps next

pub answered_in_memory : (rules : Rules) (line : Line) (reply : Reply) (kept keeps : Service → Type 0) (machine : Meaning) → (IsTrue machine.tells_moments → IsTrue machine.tells)
    → (IsTrue machine.tells_moments → (image : Disk) (out : List ℕ) → machine.since machine.clock image out → Before machine image out) → ((service : Service) → kept service → AnswersFrom rules line reply keeps service)
    → IsTrue machine.tells → (service : Service) → KeepsInMemory (kept service) machine → Answered rules on_any_disk (λ next. KeepsInMemory (keeps next) machine) reply line service machine machine
answered_in_memory rules line reply kept keeps machine told only_now answers tells service is_kept =
    let answered : AnswersFrom rules line reply keeps service = answers service (is_kept.content tells) in
    record {
      request = answered.0;
      next = answered.1;
      answers = answered.2;
      kept = keeps_in_memory (keeps answered.1) machine told answered.3;
      leaves = leaves_itself machine (LaidEither on_any_disk service answered.1) told only_now (λ _ _ _. inl tt);
    }
