-- A refusal leaves the service as it was.
use Rattle.std.proofs.Common.{◌≡◌, ℕ, Option, Some, None, List, refl, ap, ◌∙◌, ⊎_elim, codes}
use Rattle.std.specs.FinMap as finite
use Rattle.mt_tree.specs.declared.code.Code.{Code}
use Rattle.mt_tree.specs.declared.command.AdminCmd.{AdminCmd}
use Rattle.mt_tree.specs.declared.reply.Reply.TheVariants.{Text, Refused}
use Rattle.mt_tree.specs.declared.simple.SimpleStmt.{SimpleStmt}
use Rattle.mt_script.specs.Lines.{Line}
use Rattle.mt_model.specs.Said.{Said, Unread, Outside, Unserved, Says}
use Rattle.mt_model.specs.Answer.{answer, answer_said, next_said, next_database, first_refusal, reply_text, changed}
use Rattle.mt_model.specs.Command.{command_refusal, applied}
use Rattle.mt_model.specs.Database.{PrivateDatabase}
use Rattle.mt_model.specs.Isolation.{service_rules}
use Rattle.mt_model.specs.Laws.{database_in, put_database-there, view_with}
use Rattle.mt_model.specs.Request.{Request, Overlong, Unreadable, Statement, Command}
use Rattle.mt_model.specs.Run.{Answers, IsStepped, IsForgone}
use Rattle.mt_model.specs.Service.{Service, Tenant, View, put_database}
use Rattle.mt_model.specs.Step.{Stepped, step, refused}

decided-kept : (refusal : Option Code) (text : List ℕ) (new old : PrivateDatabase) (code : Code) →
    Refused code ≡ elim refusal [ None ↦ Text text | Some code ↦ Refused code ] → elim refusal [ None ↦ new | Some code ↦ old ] ≡ old
decided-kept None text new old code e = cc
decided-kept (Some refusal) text new old code e = refl

-- a refused statement leaves its tenant's database
next_said-refused : (view : View) (database : PrivateDatabase) (said : Said SimpleStmt) (code : Code) → Refused code ≡ answer_said view database said → next_said view database said ≡ database
next_said-refused view database Unread code e = refl
next_said-refused view database Outside code e = refl
next_said-refused view database Unserved code e = refl
next_said-refused view database (Says statement) code e =
    decided-kept (first_refusal view database statement) (reply_text view database statement) (changed view database statement) database code e

-- and so the service
statement-refused : (service : Service) (tenant : ℕ) (said : Said SimpleStmt) (code : Code) (kept : Option Tenant) → finite.get service.tenants tenant ≡ kept →
    let view : View = view_with service.tables service.extensions (database_in kept) in
    Refused code ≡ answer view said → put_database service tenant (next_database view said) ≡ service
statement-refused service tenant said code None there e = refl
statement-refused service tenant said code (Some kept) there e =
    let view : View = view_with service.tables service.extensions (Some kept.database) in
    ap (λ (next : PrivateDatabase). put_database service tenant (Some next)) (next_said-refused view kept.database said code e)
    ∙ put_database-there service tenant kept there

command-refused : (service : Service) (command : AdminCmd) (code : Code) (refusal : Option Code) →
    let stepped : Stepped = elim refusal [ None ↦ record { reply = Text (codes "ok\n"); next = applied service command } | Some code ↦ refused service code ] in
    Refused code ≡ stepped.reply → stepped.next ≡ service
command-refused service command code None e = cc
command-refused service command code (Some refusal) e = refl

-- a step that refuses leaves the service
step-refused : (service : Service) (request : Request) (code : Code) → Refused code ≡ (step service request).reply → (step service request).next ≡ service
step-refused service Overlong code e = refl
step-refused service Unreadable code e = refl
step-refused service (Statement tenant said) code e = statement-refused service tenant said code (finite.get service.tenants tenant) refl e
step-refused service (Command Unread) code e = refl
step-refused service (Command Outside) code e = refl
step-refused service (Command Unserved) code e = refl
step-refused service (Command (Says command)) code e = command-refused service command code (command_refusal service command) e

-- so does a line that is refused
pub line-refused : (service next : Service) (line : Line) (request : Request) (code : Code) → Answers service_rules service line request (Refused code) next → next ≡ service
line-refused service next line request code answered =
    ⊎_elim (λ (made : IsStepped (step service request) (Refused code) next). made.next_is ∙ step-refused service request code made.reply_is)
    (λ (forgone : IsForgone service (step service request) (Refused code) next). forgone.next_is) answered.outcome
