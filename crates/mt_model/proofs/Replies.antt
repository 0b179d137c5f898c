-- A line that has a text to read is never refused as too long or as not readable, and no step is
-- answered for want of memory.
use Rattle.std.proofs.Common.{◌≡◌, ◌↔◌, ⊎_elim, ℕ, Bool, true, false, List, [], ◌∷◌, Option, Some, None, refl, sym, ap, ◌∙◌, subst, codes}
use Rattle.std.specs.List.{AllByRecursion as Each}
use Rattle.mt_tree.specs.declared.code.Code.{Code}
use Rattle.mt_tree.specs.declared.code.Code.TheVariants.{LineTooLong, LineNotReadable, UnknownName, UnknownTable}
use Rattle.mt_tree.specs.declared.command.AdminCmd.{AdminCmd}
use Rattle.mt_tree.specs.declared.command.AdminCmd.TheVariants.{CreateTable, CreateExtension, CreateTenant, Extend, SetQuota}
use Rattle.mt_tree.specs.declared.reply.Reply.{Reply}
use Rattle.mt_tree.specs.declared.reply.Reply.TheVariants.{Text, Refused, Memory}
use Rattle.mt_tree.specs.declared.schema.Table.{Table}
use Rattle.mt_tree.specs.declared.simple.SimpleStmt.{SimpleStmt}
use Rattle.mt_tree.specs.declared.simple.SimpleStmt.TheVariants.{Insert, Select}
use Rattle.mt_catalog.specs.declared.state.Extension.{Extension}
use Rattle.mt_catalog.specs.State.{State, tenant_table}
use Rattle.mt_schema.specs.Refusals.{extend_tests, extended_tests, extension_named, first_holding, step_tests}
use Rattle.mt_schema.specs.Steps.{table_number}
use Rattle.mt_script.specs.Lines.{Line}
use Rattle.mt_model.specs.Said.{Said, Unread, Outside, Unserved, Says}
use Rattle.mt_model.specs.Answer.{answer, answer_said, first_refusal, reply_text, table_of, tests_at, tests_of}
use Rattle.mt_model.specs.Command.{applied, command_refusal}
use Rattle.mt_model.specs.Database.{PrivateDatabase}
use Rattle.mt_model.specs.Isolation.{service_rules}
use Rattle.mt_model.specs.Laws.{view_with}
use Rattle.mt_model.specs.Request.{Request, Overlong, Unreadable, Statement, Command}
use Rattle.mt_model.specs.Run.{Answers, IsForgone, IsStepped, YieldsToMemory}
use Rattle.mt_model.specs.Service.{Service, View, catalogue_of, kept_of, view_of}
use Rattle.mt_model.specs.Step.{Stepped, command_said, refused, step}

-- a refusal of what a text says
abbrev IsOfText : Code → Type 0
IsOfText LineTooLong = ⊥
IsOfText LineNotReadable = ⊥
IsOfText code = Unit {0}

-- if there is a refusal
abbrev IsOfTextIfAny : Option Code → Type 0
IsOfTextIfAny None = Unit {0}
IsOfTextIfAny (Some code) = IsOfText code

-- a reply to what a text says
abbrev IsReplyToText : Reply → Type 0
IsReplyToText (Text bytes) = Unit {0}
IsReplyToText (Refused code) = IsOfText code
IsReplyToText Memory = ⊥

-- each test has a code of a text
abbrev AreOfText : List (Code × Bool) → Type 0
AreOfText tests = Each (λ test. IsOfText test.0) tests

first_holding-text : (tests : List (Code × Bool)) → AreOfText tests → IsOfTextIfAny (first_holding tests)
first_holding-text [] are = tt
first_holding-text ((code, true) ∷ tests) are = are.0
first_holding-text ((code, false) ∷ tests) are = first_holding-text tests are.1

-- the tests of a statement
tests_at-text : (view : View) (database : PrivateDatabase) (statement : SimpleStmt) (number : ℕ) → AreOfText (tests_at view database statement number)
tests_at-text view database (Insert table values) number = (tt, (tt, (tt, (tt, (tt, (tt, tt))))))
tests_at-text view database (Select table columns) number = (tt, tt)

tests_of-text : (view : View) (database : PrivateDatabase) (statement : SimpleStmt) → AreOfText (tests_of view database statement)
tests_of-text view database statement =
    elim (table_number view.tables (table_of statement)) as (λ found. AreOfText (elim found [ None ↦ (UnknownTable, true) ∷ [] | Some number ↦ tests_at view database statement number ])) [
      | None ↦ (tt, tt)
      | Some number ↦ tests_at-text view database statement number
    ]

-- the tests of a command
extended_tests-text : (state : State) (tenant : ℕ) (extension : Option Extension) → AreOfText (extend_tests state tenant extension)
extended_tests-text state tenant None = (tt, tt)
extended_tests-text state tenant (Some extension) =
    elim (tenant_table state tenant extension.base) as (λ found. AreOfText (elim found [ None ↦ (UnknownName, true) ∷ [] | Some table ↦ extended_tests state extension.base extension.columns table ])) [
      | None ↦ (tt, tt)
      | Some table ↦ (tt, (tt, (tt, (tt, tt))))
    ]

step_tests-text : (state : State) (kept : ℕ → ℕ) (command : AdminCmd) → AreOfText (step_tests state kept command)
step_tests-text state kept (CreateTable name columns key) = (tt, (tt, (tt, (tt, tt))))
step_tests-text state kept (CreateExtension name base columns) = (tt, (tt, (tt, (tt, tt))))
step_tests-text state kept (CreateTenant tenant quota) = (tt, (tt, (tt, tt)))
step_tests-text state kept (Extend tenant extension) = extended_tests-text state tenant (extension_named state extension)
step_tests-text state kept (SetQuota tenant quota) = (tt, (tt, (tt, (tt, tt))))
step_tests-text state kept command = tt

-- a statement is refused with this code, or answered
decided-text : (refusal : Option Code) (bytes : List ℕ) → IsOfTextIfAny refusal → IsReplyToText (elim refusal [ None ↦ Text bytes | Some code ↦ Refused code ])
decided-text None bytes is = tt
decided-text (Some code) bytes is = is

said-text : (view : View) (database : PrivateDatabase) (said : Said SimpleStmt) → IsReplyToText (answer_said view database said)
said-text view database Unread = tt
said-text view database Outside = tt
said-text view database Unserved = tt
said-text view database (Says statement) =
    decided-text (first_refusal view database statement) (reply_text view database statement) (first_holding-text (tests_of view database statement) (tests_of-text view database statement))

answer-text : (tables : List Table) (extensions : List Extension) (database : Option PrivateDatabase) (said : Said SimpleStmt) → IsReplyToText (answer (view_with tables extensions database) said)
answer-text tables extensions None said = tt
answer-text tables extensions (Some database) said = said-text (view_with tables extensions (Some database)) database said

-- a command is refused with this code, or done
command-text : (service : Service) (command : AdminCmd) (refusal : Option Code) → IsOfTextIfAny refusal →
    IsReplyToText ((elim refusal as (λ _. Stepped) [ None ↦ record { reply = Text (codes "ok\n"); next = applied service command } | Some code ↦ refused service code ]).reply)
command-text service command None is = tt
command-text service command (Some code) is = is

command_said-text : (service : Service) (said : Said AdminCmd) → IsReplyToText ((command_said service said).reply)
command_said-text service Unread = tt
command_said-text service Outside = tt
command_said-text service Unserved = tt
command_said-text service (Says command) =
    let state : State = catalogue_of service in
    command-text service command (command_refusal service command) (first_holding-text (step_tests state (kept_of service) command) (step_tests-text state (kept_of service) command))

statement-text : (service : Service) (tenant : ℕ) (said : Said SimpleStmt) → IsReplyToText ((step service (Statement tenant said)).reply)
statement-text service tenant said = answer-text service.tables service.extensions (view_of service tenant).database said

-- so what is refused as too long or as not readable is so
too_long-request : (service : Service) (request : Request) → Refused LineTooLong ≡ (step service request).reply → request ≡ Overlong
too_long-request service Overlong e = refl
too_long-request service Unreadable e = cc
too_long-request service (Statement tenant said) e = absurd (subst IsReplyToText (sym e) (statement-text service tenant said))
too_long-request service (Command said) e = absurd (subst IsReplyToText (sym e) (command_said-text service said))

not_readable-request : (service : Service) (request : Request) → Refused LineNotReadable ≡ (step service request).reply → request ≡ Unreadable
not_readable-request service Overlong e = cc
not_readable-request service Unreadable e = refl
not_readable-request service (Statement tenant said) e = absurd (subst IsReplyToText (sym e) (statement-text service tenant said))
not_readable-request service (Command said) e = absurd (subst IsReplyToText (sym e) (command_said-text service said))

-- and no step is answered for want of memory
never_memory : (service : Service) (request : Request) → Memory ≡ (step service request).reply → ⊥
never_memory service Overlong e = cc
never_memory service Unreadable e = cc
never_memory service (Statement tenant said) e = subst IsReplyToText (sym e) (statement-text service tenant said)
never_memory service (Command said) e = subst IsReplyToText (sym e) (command_said-text service said)

-- a line is answered with this refusal exactly where it is this request, to whose reply want of memory is none
unread-line : (code : Code) (is : Request) → ((service : Service) → Refused code ≡ (step service is).reply) → (YieldsToMemory (Refused code) → ⊥) → ((service : Service) (request : Request) → Refused code ≡ (step service request).reply → request ≡ is)
    → (service next : Service) (line : Line) (request : Request) (reply : Reply) → Answers service_rules service line request reply next → (reply ≡ Refused code) ↔ (request ≡ is)
unread-line code is refuses never one service next line request reply answered = (to, from)
  where
    to : reply ≡ Refused code → request ≡ is
    to e = ⊎_elim (λ (made : IsStepped (step service request) reply next). one service request (sym e ∙ made.reply_is))
        (λ (forgone : IsForgone service (step service request) reply next). let no : Refused code ≡ Memory = sym e ∙ forgone.reply_is in absurd (cc)) answered.outcome

    from : request ≡ is → reply ≡ Refused code
    from e = ⊎_elim (λ (made : IsStepped (step service request) reply next). made.reply_is ∙ ap (λ (asked : Request). (step service asked).reply) e ∙ sym (refuses service))
        (λ (forgone : IsForgone service (step service request) reply next).
        absurd (never (subst YieldsToMemory (ap (λ (asked : Request). (step service asked).reply) e ∙ sym (refuses service)) forgone.yields))) answered.outcome

pub line-too_long : (service next : Service) (line : Line) (request : Request) (reply : Reply) → Answers service_rules service line request reply next → (reply ≡ Refused LineTooLong) ↔ (request ≡ Overlong)
line-too_long = unread-line LineTooLong Overlong (λ service. refl) (λ yields. yields) too_long-request

pub line-not_readable : (service next : Service) (line : Line) (request : Request) (reply : Reply) → Answers service_rules service line request reply next → (reply ≡ Refused LineNotReadable) ↔ (request ≡ Unreadable)
line-not_readable = unread-line LineNotReadable Unreadable (λ service. refl) (λ yields. yields) not_readable-request

-- a line that is answered for want of memory leaves the service
pub line-forgone : (service next : Service) (line : Line) (request : Request) → Answers service_rules service line request Memory next → next ≡ service
line-forgone service next line request answered =
    ⊎_elim (λ (made : IsStepped (step service request) Memory next). absurd (never_memory service request made.reply_is))
    (λ (forgone : IsForgone service (step service request) Memory next). forgone.next_is) answered.outcome
