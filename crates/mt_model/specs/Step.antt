-- What one request does to the service, and what it is answered.
use Rattle.std.specs.Prelude.{Some, None, codes}
use Rattle.mt_tree.specs.declared.command.AdminCmd.{AdminCmd}
use Rattle.mt_tree.specs.declared.code.Code.{Code}
use Rattle.mt_tree.specs.declared.code.Code.TheVariants as code
use Rattle.mt_tree.specs.declared.reply.Reply.{Reply}
use Rattle.mt_tree.specs.declared.reply.Reply.TheVariants.{Text, Refused}
use Rattle.mt_model.specs.Answer.{answer, next_database}
use Rattle.mt_model.specs.Command.{command_refusal, applied}
use Rattle.mt_model.specs.Said.{Said, Unread, Outside, Unserved, Says}
use Rattle.mt_model.specs.Request.{Request, Overlong, Unreadable, Statement, Command}
use Rattle.mt_model.specs.Service.{Service, view_of, put_database}

-- the reply to a request, and the service after it
pub record Stepped : Type 0 where
  pub reply : Reply
  pub next : Service

-- a refusal leaves the service as it is
abbrev pub refused : Service → Code → Stepped
refused service code = record { reply = Refused code; next = service }

-- the command is refused, or done and answered `ok`
abbrev pub command_step : Service → AdminCmd → Stepped
command_step service command =
    elim (command_refusal service command) [
      | None ↦ record { reply = Text (codes "ok\n"); next = applied service command }
      | Some code ↦ refused service code
    ]

-- the step of what the administrator's line says
abbrev pub command_said : Service → Said AdminCmd → Stepped
command_said service Unread = refused service code.Syntax
command_said service Outside = refused service code.NumberOutside64Bits
command_said service Unserved = refused service code.NotServed
command_said service (Says command) = command_step service command

-- the step of a request: every line is answered, and only an accepted one changes the service
abbrev pub step : Service → Request → Stepped
step service Overlong = refused service code.LineTooLong
step service Unreadable = refused service code.LineNotReadable
step service (Statement tenant said) = record {
  reply = answer (view_of service tenant) said;
  next = put_database service tenant (next_database (view_of service tenant) said);
}
step service (Command said) = command_said service said
