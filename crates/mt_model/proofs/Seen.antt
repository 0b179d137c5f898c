-- What one request does to what one tenant sees, and then a whole run.
use Rattle.std.proofs.Common.{◌≡◌, ℕ, ◌==◌, if◌then◌else◌, Bool, true, false, cond, List, [], ◌∷◌, ◌++◌, Option, Some, None, refl, sym, ap, ◌∙◌, ap₂, subst, subst₂, ⊎_elim, eq-eqb, eqb-true, codes}
use Rattle.std.specs.Prelude.{option_map}
use Rattle.std.specs.FinMap as finite
use Rattle.std.specs.Cmp.{nat_eq_equiv}
use Rattle.mt_tree.specs.declared.code.Code.{Code}
use Rattle.mt_tree.specs.declared.reply.Reply.{Reply}
use Rattle.mt_tree.specs.declared.reply.Reply.TheVariants.{Text, Refused, Memory}
use Rattle.mt_tree.specs.declared.simple.SimpleStmt.{SimpleStmt}
use Rattle.mt_tree.specs.declared.schema.Table.{Table}
use Rattle.mt_tree.specs.declared.command.AdminCmd.{AdminCmd}
use Rattle.mt_tree.specs.declared.command.AdminCmd.TheVariants.{CreateTable, CreateExtension, CreateTenant, Extend, SetQuota}
use Rattle.mt_tree.specs.declared.command.Def.{Def}
use Rattle.mt_catalog.specs.declared.state.Extension.{Extension}
use Rattle.mt_schema.specs.Steps.{defined_table}
use Rattle.mt_schema.proofs.Maps.{get-in_each}
use Rattle.mt_script.specs.Lines.{Line}
use Rattle.mt_model.specs.Said.{Said, Unread, Outside, Unserved, Says}
use Rattle.mt_model.specs.Database.{PrivateDatabase, with_extension, with_quota, with_table}
use Rattle.mt_model.specs.Answer.{answer, answer_said, next_database, next_view, next_said, first_refusal, reply_text}
use Rattle.mt_model.specs.Command.{command_refusal, applied, applied_view, extended_tenant, new_tenant, numbered_extension, with_new_table}
use Rattle.mt_model.specs.Isolation.{service_rules, Event, Asks, Accepts, bears_on, unless_forgone, event_of, own_events, reply_to, replies_to, private_replies}
use Rattle.mt_model.specs.Laws.{database_in, view_of-changed_other, view_of-changed_own, view_of-put, view_of-put_other, view_with, with_database}
use Rattle.mt_model.specs.Request.{Request, Overlong, Unreadable, Statement, Command}
use Rattle.mt_model.specs.Run.{IsStepped, IsForgone, IsRun}
use Rattle.mt_model.specs.Service.{Service, Tenant, View, view_of, put_database, with_tenant}
use Rattle.mt_model.specs.Step.{Stepped, step, refused}

-- The part of a private database's replies that a request makes, before those to later events: this
-- is what the tenant is answered, and then what it is answered from its next view on.
abbrev IsSeen : ℕ → Service → Request → Reply → Service → Type 0
IsSeen tenant service request reply next = (events : List Event) → reply_to tenant request reply ++ private_replies (view_of next tenant) events ≡ private_replies (view_of service tenant) (event_of tenant request reply ++ events)

-- what is answered for want of memory is as if it had not been sent
forgone-seen : (tenant : ℕ) (service : Service) (request : Request) → IsSeen tenant service request Memory service
forgone-seen tenant service Overlong events = refl
forgone-seen tenant service Unreadable events = refl
forgone-seen tenant service (Statement other said) events =
    elim (other == tenant) as (λ own. (if own then [] else []) ++ private_replies (view_of service tenant) events ≡ private_replies (view_of service tenant) ((if own then [] else []) ++ events)) [ true ↦ refl | false ↦ refl ]
forgone-seen tenant service (Command Unread) events = refl
forgone-seen tenant service (Command Outside) events = refl
forgone-seen tenant service (Command Unserved) events = refl
forgone-seen tenant service (Command (Says command)) events =
    elim (bears_on tenant command) as (λ bears. private_replies (view_of service tenant) events ≡ private_replies (view_of service tenant) ((if bears then [] else []) ++ events)) [ true ↦ refl | false ↦ refl ]

-- an answer to a tenant is never that there is no memory
decided-unless : {A : Type 0} (refusal : Option Code) (text : List ℕ) (x : A) → unless_forgone (elim refusal [ None ↦ Text text | Some code ↦ Refused code ]) x ≡ x ∷ []
decided-unless None text x = refl
decided-unless (Some code) text x = refl

within-unless : {A : Type 0} (view : View) (database : PrivateDatabase) (said : Said SimpleStmt) (x : A) → unless_forgone (answer_said view database said) x ≡ x ∷ []
within-unless view database Unread x = refl
within-unless view database Outside x = refl
within-unless view database Unserved x = refl
within-unless view database (Says statement) x = decided-unless (first_refusal view database statement) (reply_text view database statement) x

answer-unless : {A : Type 0} (tables : List Table) (extensions : List Extension) (database : Option PrivateDatabase) (said : Said SimpleStmt) (x : A) → unless_forgone (answer (view_with tables extensions database) said) x ≡ x ∷ []
answer-unless tables extensions None said x = refl
answer-unless tables extensions (Some database) said x = within-unless (view_with tables extensions (Some database)) database said x

-- after a statement its tenant sees the next view
next-own : (service : Service) (tenant : ℕ) (said : Said SimpleStmt) (kept : Option Tenant) → finite.get service.tenants tenant ≡ kept →
    let view : View = view_with service.tables service.extensions (database_in kept) in
    view_of (put_database service tenant (next_database view said)) tenant ≡ next_view view said
next-own service tenant said None e = ap (λ (found : Option Tenant). view_with service.tables service.extensions (database_in found)) e
next-own service tenant said (Some kept) e =
    let view : View = view_with service.tables service.extensions (Some kept.database) in
    view_of-changed_own service tenant (with_database (next_said view kept.database said)) (Some kept) e

-- the service after a statement
abbrev after_statement : Service → ℕ → Said SimpleStmt → Service
after_statement service tenant said = put_database service tenant (next_database (view_of service tenant) said)

-- what a statement of a tenant of that number is to this tenant, if it is its own or not
abbrev IsStatementSeen : ℕ → Service → Said SimpleStmt → List Event → Bool → ℕ → Type 0
IsStatementSeen tenant service said events own other =
    (if own then unless_forgone (answer (view_of service other) said) (answer (view_of service other) said) else []) ++ private_replies (view_of (after_statement service other said) tenant) events
    ≡ private_replies (view_of service tenant) ((if own then unless_forgone (answer (view_of service other) said) (Asks said) else []) ++ events)

own_statement-seen : (tenant : ℕ) (service : Service) (said : Said SimpleStmt) (events : List Event) → IsStatementSeen tenant service said events true tenant
own_statement-seen tenant service said events =
    let view : View = view_of service tenant in
    let reply : Reply = answer view said in
    ap (λ (replies : List Reply). replies ++ private_replies (view_of (after_statement service tenant said) tenant) events) (answer-unless service.tables service.extensions view.database said reply)
    ∙ ap (λ (next : View). reply ∷ private_replies next events) (next-own service tenant said (finite.get service.tenants tenant) refl)
    ∙ sym (ap (λ (own : List Event). private_replies view (own ++ events)) (answer-unless service.tables service.extensions view.database said (Asks said)))

-- what a tenant sees once the database of another was put in its place
other_statement-seen : (tenant : ℕ) (service : Service) (other : ℕ) (database : Option PrivateDatabase) → (tenant == other) ≡ false → view_of (put_database service other database) tenant ≡ view_of service tenant
other_statement-seen tenant service other None apart = refl
other_statement-seen tenant service other (Some database) apart = view_of-changed_other service other (with_database database) tenant apart

statement-seen : (tenant : ℕ) (service : Service) (other : ℕ) (said : Said SimpleStmt) (events : List Event) (own : Bool) → (other == tenant) ≡ own → IsStatementSeen tenant service said events own other
statement-seen tenant service other said events true e =
    subst (IsStatementSeen tenant service said events true) (sym (eqb-true other tenant e)) (own_statement-seen tenant service said events)
statement-seen tenant service other said events false e =
    ap (λ (view : View). private_replies view events) (other_statement-seen tenant service other (next_database (view_of service other) said) (nat_eq_equiv.symm tenant other ∙ e))

-- what a tenant sees once a table was made
table-view : (tenant : ℕ) (service : Service) (name : List ℕ) (columns : List Def) (key : List (List ℕ)) → view_of (applied service (CreateTable name columns key)) tenant ≡ applied_view (view_of service tenant) (CreateTable name columns key)
table-view tenant service name columns key =
    let table : Table = defined_table name columns key in
    let seen : Option Tenant → View = λ kept. view_with (service.tables ++ table ∷ []) service.extensions (database_in kept) in
    ap seen (get-in_each (with_new_table table) service.tenants tenant) ∙ by (finite.get service.tenants tenant)
  where
    by : (kept : Option Tenant) → view_with (service.tables ++ defined_table name columns key ∷ []) service.extensions (database_in (option_map (with_new_table (defined_table name columns key)) kept))
        ≡ view_with (service.tables ++ defined_table name columns key ∷ []) service.extensions (option_map with_table (database_in kept))
    by None = refl
    by (Some kept) = refl

-- what the new tenant sees
new_tenant-view : (tenant : ℕ) (service : Service) (quota : ℕ) → view_of (applied service (CreateTenant tenant quota)) tenant ≡ applied_view (view_of service tenant) (CreateTenant tenant quota)
new_tenant-view tenant service quota =
    let made : Tenant = new_tenant service.tables quota in
    view_of-put service tenant made tenant
    ∙ ap (λ (here : Bool). view_with service.tables service.extensions (database_in (cond here (Some made) (finite.get service.tenants tenant)))) (eq-eqb tenant tenant refl)

-- what a tenant sees once its table was extended
extended-view : (tenant : ℕ) (service : Service) (name : List ℕ) → view_of (applied service (Extend tenant name)) tenant ≡ applied_view (view_of service tenant) (Extend tenant name)
extended-view tenant service name = by (numbered_extension service.extensions name)
  where
    kept_by : (found : ℕ × Extension) (kept : Option Tenant) →
        view_with service.tables service.extensions (database_in (option_map (extended_tenant found.0 found.1) kept)) ≡ view_with service.tables service.extensions (option_map (with_extension found.0 found.1) (database_in kept))
    kept_by found None = refl
    kept_by found (Some kept) = refl

    by : (found : Option (ℕ × Extension)) →
        view_of (elim found [ None ↦ service | Some found ↦ with_tenant service tenant (extended_tenant found.0 found.1) ]) tenant
        ≡ (elim found [ None ↦ view_of service tenant | Some found ↦ view_with service.tables service.extensions (option_map (with_extension found.0 found.1) (view_of service tenant).database) ])
    by None = refl
    by (Some found) = view_of-changed_own service tenant (extended_tenant found.0 found.1) (finite.get service.tenants tenant) refl ∙ kept_by found (finite.get service.tenants tenant)

-- what a tenant sees once its quota was set
quota-view : (tenant : ℕ) (service : Service) (quota : ℕ) → view_of (applied service (SetQuota tenant quota)) tenant ≡ applied_view (view_of service tenant) (SetQuota tenant quota)
quota-view tenant service quota = view_of-changed_own service tenant with_that (finite.get service.tenants tenant) refl ∙ by (finite.get service.tenants tenant)
  where
    with_that : Tenant → Tenant
    with_that kept = with_database (with_quota quota kept.database) kept

    by : (kept : Option Tenant) → view_with service.tables service.extensions (database_in (option_map with_that kept)) ≡ view_with service.tables service.extensions (option_map (with_quota quota) (database_in kept))
    by None = refl
    by (Some kept) = refl

-- what another tenant sees once a tenant's table was extended
other_extended-view : (tenant : ℕ) (service : Service) (other : ℕ) (name : List ℕ) → (tenant == other) ≡ false → view_of (applied service (Extend other name)) tenant ≡ view_of service tenant
other_extended-view tenant service other name apart = by (numbered_extension service.extensions name)
  where
    by : (found : Option (ℕ × Extension)) → view_of (elim found [ None ↦ service | Some found ↦ with_tenant service other (extended_tenant found.0 found.1) ]) tenant ≡ view_of service tenant
    by None = refl
    by (Some found) = view_of-changed_other service other (extended_tenant found.0 found.1) tenant apart

-- What a tenant sees after an accepted command: what is applied to its view, where the command bears on
-- it, and else what it saw.
abbrev IsAccepted : ℕ → Service → AdminCmd → Bool → Type 0
IsAccepted tenant service command true = view_of (applied service command) tenant ≡ applied_view (view_of service tenant) command
IsAccepted tenant service command false = view_of (applied service command) tenant ≡ view_of service tenant

-- a command to one tenant, this or another
to_tenant-accepted : (tenant : ℕ) (service : Service) (to : ℕ → AdminCmd) → view_of (applied service (to tenant)) tenant ≡ applied_view (view_of service tenant) (to tenant) →
    ((other : ℕ) → (tenant == other) ≡ false → view_of (applied service (to other)) tenant ≡ view_of service tenant) → (other : ℕ) (own : Bool) → (other == tenant) ≡ own → IsAccepted tenant service (to other) own
to_tenant-accepted tenant service to mine others other true e = subst (λ (n : ℕ). IsAccepted tenant service (to n) true) (sym (eqb-true other tenant e)) mine
to_tenant-accepted tenant service to mine others other false e = others other (nat_eq_equiv.symm tenant other ∙ e)

view-accepted : (tenant : ℕ) (service : Service) (command : AdminCmd) → IsAccepted tenant service command (bears_on tenant command)
view-accepted tenant service (CreateTable name columns key) = table-view tenant service name columns key
view-accepted tenant service (CreateExtension name base columns) = refl
view-accepted tenant service (CreateTenant other quota) =
    to_tenant-accepted tenant service (λ n. CreateTenant n quota) (new_tenant-view tenant service quota) (λ n apart. view_of-put_other service n (new_tenant service.tables quota) tenant apart) other (other == tenant) refl
view-accepted tenant service (Extend other name) =
    to_tenant-accepted tenant service (λ n. Extend n name) (extended-view tenant service name) (λ n apart. other_extended-view tenant service n name apart) other (other == tenant) refl
view-accepted tenant service (SetQuota other quota) =
    to_tenant-accepted tenant service (λ n. SetQuota n quota) (quota-view tenant service quota)
    (λ n apart. view_of-changed_other service n (λ (kept : Tenant). with_database (with_quota quota kept.database) kept) tenant apart) other (other == tenant) refl
view-accepted tenant service command = refl

-- an accepted command
accepted-seen : (tenant : ℕ) (service : Service) (command : AdminCmd) → IsSeen tenant service (Command (Says command)) (Text (codes "ok\n")) (applied service command)
accepted-seen tenant service command events = by (bears_on tenant command) (view-accepted tenant service command)
  where
    by : (bears : Bool) → IsAccepted tenant service command bears → private_replies (view_of (applied service command) tenant) events ≡ private_replies (view_of service tenant) ((if bears then Accepts command ∷ [] else []) ++ events)
    by true seen = ap (λ (view : View). private_replies view events) seen
    by false seen = ap (λ (view : View). private_replies view events) seen

-- a refused command
refused-seen : (tenant : ℕ) (service : Service) (command : AdminCmd) (code : Code) → IsSeen tenant service (Command (Says command)) (Refused code) service
refused-seen tenant service command code events =
    elim (bears_on tenant command) as (λ bears. private_replies (view_of service tenant) events ≡ private_replies (view_of service tenant) ((if bears then [] else []) ++ events)) [ true ↦ refl | false ↦ refl ]

-- a command, whether it is refused or not
command-seen : (tenant : ℕ) (service : Service) (command : AdminCmd) (refusal : Option Code) →
    let stepped : Stepped = elim refusal [ None ↦ record { reply = Text (codes "ok\n"); next = applied service command } | Some code ↦ refused service code ] in
    IsSeen tenant service (Command (Says command)) stepped.reply stepped.next
command-seen tenant service command None = accepted-seen tenant service command
command-seen tenant service command (Some code) = refused-seen tenant service command code

-- the step of a request
step-seen : (tenant : ℕ) (service : Service) (request : Request) → IsSeen tenant service request (step service request).reply (step service request).next
step-seen tenant service Overlong events = refl
step-seen tenant service Unreadable events = refl
step-seen tenant service (Statement other said) events = statement-seen tenant service other said events (other == tenant) refl
step-seen tenant service (Command Unread) events = refl
step-seen tenant service (Command Outside) events = refl
step-seen tenant service (Command Unserved) events = refl
step-seen tenant service (Command (Says command)) events = command-seen tenant service command (command_refusal service command) events

-- the line's request is done, or it is answered for want of memory
stepped-seen : (tenant : ℕ) (service : Service) (request : Request) (reply : Reply) (next : Service) → IsStepped (step service request) reply next → IsSeen tenant service request reply next
stepped-seen tenant service request reply next made = subst₂ (IsSeen tenant service request) (sym made.reply_is) (sym made.next_is) (step-seen tenant service request)

forgone_line-seen : (tenant : ℕ) (service : Service) (request : Request) (reply : Reply) (next : Service) → IsForgone service (step service request) reply next → IsSeen tenant service request reply next
forgone_line-seen tenant service request reply next forgone = subst₂ (IsSeen tenant service request) (sym forgone.reply_is) (sym forgone.next_is) (forgone-seen tenant service request)

-- the replies to one tenant's lines are those of its private database
pub replies_to-run : (lines : List Line) (requests : List Request) (replies : List Reply) (first last : Service) (tenant : ℕ) → IsRun service_rules first lines requests replies last → replies_to tenant requests replies ≡ private_replies (view_of first tenant) (own_events tenant requests replies)
replies_to-run [] [] [] first last tenant run = refl
replies_to-run (line ∷ lines) (request ∷ requests) (reply ∷ replies) first last tenant run =
    let next : Service = run.0 in
    let later : replies_to tenant requests replies ≡ private_replies (view_of next tenant) (own_events tenant requests replies) = replies_to-run lines requests replies next last tenant run.2 in
    let seen : IsSeen tenant first request reply next = ⊎_elim (stepped-seen tenant first request reply next) (forgone_line-seen tenant first request reply next) run.1.outcome in
    ap (λ (others : List Reply). reply_to tenant request reply ++ others) later ∙ seen (own_events tenant requests replies)
replies_to-run lines requests replies first last tenant run = absurd run

-- the same view at first and the same own events, and so the same replies
pub same_replies : (lines : List Line) (requests : List Request) (replies : List Reply) (first last : Service)
    (other_lines : List Line) (other_requests : List Request) (other_replies : List Reply) (other_first other_last : Service) (tenant : ℕ) →
    IsRun service_rules first lines requests replies last → IsRun service_rules other_first other_lines other_requests other_replies other_last →
    view_of first tenant ≡ view_of other_first tenant → own_events tenant requests replies ≡ own_events tenant other_requests other_replies →
    replies_to tenant requests replies ≡ replies_to tenant other_requests other_replies
same_replies lines requests replies first last other_lines other_requests other_replies other_first other_last tenant run other_run views events =
    replies_to-run lines requests replies first last tenant run
    ∙ ap₂ private_replies views events
    ∙ sym (replies_to-run other_lines other_requests other_replies other_first other_last tenant other_run)
