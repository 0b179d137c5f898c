-- What one tenant sent and was answered in a run, and what a private database answers to that alone.
use Rattle.std.specs.Prelude.{ℕ, ◌==◌, Bool, true, false, if◌then◌else◌, List, [], ◌∷◌, ◌++◌}
use Rattle.mt_tree.specs.declared.reply.Reply.{Reply}
use Rattle.mt_tree.specs.declared.reply.Reply.TheVariants.{Text, Refused, Memory}
use Rattle.mt_tree.specs.declared.simple.SimpleStmt.{SimpleStmt}
use Rattle.mt_tree.specs.declared.command.AdminCmd.{AdminCmd}
use Rattle.mt_tree.specs.declared.command.AdminCmd.TheVariants.{CreateTable, CreateExtension, CreateTenant, Extend, SetQuota}
use Rattle.mt_model.specs.Answer.{answer, next_view}
use Rattle.mt_model.specs.Command.{applied_view}
use Rattle.mt_model.specs.Said.{Said, Unread, Outside, Unserved, Says}
use Rattle.mt_model.specs.Request.{Request, Overlong, Unreadable, Statement, Command, IsRequest}
use Rattle.mt_model.specs.Run.{Rules}
use Rattle.mt_model.specs.Service.{View}
use Rattle.mt_model.specs.Step.{step}

-- whole service: each line as the database's users may send it
abbrev pub service_rules : Rules
service_rules = record { says = IsRequest; step = step }

-- What reaches the private database of one tenant.
pub data Event : Type 0 where
  -- a line of the tenant
  Asks : (said : Said SimpleStmt) → Event
  -- an accepted schema step
  Accepts : (command : AdminCmd) → Event

-- a line that is answered for want of memory counts as not sent
abbrev pub unless_forgone : {A : Type 0} → Reply → A → List A
unless_forgone Memory x = []
unless_forgone (Text text) x = x ∷ []
unless_forgone (Refused code) x = x ∷ []

-- only what was accepted counts
abbrev pub if_accepted : {A : Type 0} → Reply → A → List A
if_accepted (Text text) x = x ∷ []
if_accepted Memory x = []
if_accepted (Refused code) x = []

-- whether a command bears on the tenant: base tables and extensions are everybody's
abbrev pub bears_on : ℕ → AdminCmd → Bool
bears_on tenant (CreateTable name columns key) = true
bears_on tenant (CreateExtension name base columns) = true
bears_on tenant (CreateTenant other quota) = other == tenant
bears_on tenant (Extend other extension) = other == tenant
bears_on tenant (SetQuota other quota) = other == tenant
bears_on tenant command = false

-- an accepted command reaches the tenants on which it bears
abbrev pub command_events : ℕ → AdminCmd → Reply → List Event
command_events tenant command reply = if bears_on tenant command then if_accepted reply (Accepts command) else []

-- what a command of the administrator is to the tenant
abbrev pub said_events : ℕ → Said AdminCmd → Reply → List Event
said_events tenant Unread reply = []
said_events tenant Outside reply = []
said_events tenant Unserved reply = []
said_events tenant (Says command) reply = command_events tenant command reply

-- what a request is to the tenant
abbrev pub event_of : ℕ → Request → Reply → List Event
event_of tenant Overlong reply = []
event_of tenant Unreadable reply = []
event_of tenant (Statement other said) reply = if other == tenant then unless_forgone reply (Asks said) else []
event_of tenant (Command said) reply = said_events tenant said reply

-- the tenant's own events in a run, in order
abbrev pub own_events : ℕ → List Request → List Reply → List Event
own_events tenant (request ∷ requests) (reply ∷ replies) = event_of tenant request reply ++ own_events tenant requests replies
own_events tenant requests replies = []

-- the reply, where the line is the tenant's own
abbrev pub reply_to : ℕ → Request → Reply → List Reply
reply_to tenant (Statement other said) reply = if other == tenant then unless_forgone reply reply else []
reply_to tenant request reply = []

-- the replies to the tenant's lines, in order
abbrev pub replies_to : ℕ → List Request → List Reply → List Reply
replies_to tenant (request ∷ requests) (reply ∷ replies) = reply_to tenant request reply ++ replies_to tenant requests replies
replies_to tenant requests replies = []

-- what a private database answers to the events, from a view on
abbrev pub private_replies : View → List Event → List Reply
private_replies view [] = []
private_replies view (Asks said ∷ events) = answer view said ∷ private_replies (next_view view said) events
private_replies view (Accepts command ∷ events) = private_replies (applied_view view command) events
