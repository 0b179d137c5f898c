-- Each reply prints something.
use Rattle.std.specs.Prelude.{◌+◌, ℕ, Bool, true, false, nat_lt, if◌then◌else◌, List, [], ◌∷◌, Option, Some, None, codes}
use Rattle.std.proofs.Common.{subst}
use Rattle.std.specs.FinMap as finite
use Rattle.mt_tree.specs.declared.code.Code.{Code}
use Rattle.mt_tree.specs.declared.code.Code.TheVariants.{LineTooLong, LineNotReadable, UnknownTenant, NotServed, Syntax, UnknownTable, UnknownColumn, AmbiguousName, TypesDoNotFit, Grouping, NumberOutside64Bits, TextTooLong, NumberOutOfRange, NullNotAllowed, DuplicateKey, QuotaFull, RowNumbersUsedUp, NameExists, ColumnNameTaken, UnknownName, Limit, QuotaBelowRows, QuotasTooLarge, FoldNotValid, TableIsMoving, TableIsNotMoving, TooManyChunks, TransactionIsOpen, TransactionAlreadyOpen, NoTransaction}
use Rattle.mt_tree.specs.declared.reply.Reply.{Reply}
use Rattle.mt_tree.specs.declared.reply.Reply.TheVariants.{Text, Refused}
use Rattle.mt_tree.specs.declared.schema.Table.{Table}
use Rattle.mt_tree.specs.declared.simple.SimpleStmt.{SimpleStmt}
use Rattle.mt_tree.specs.declared.simple.SimpleStmt.TheVariants.{Insert, Select}
use Rattle.mt_tree.specs.declared.command.AdminCmd.{AdminCmd}
use Rattle.mt_tree.specs.declared.command.AdminCmd.TheVariants.{CreateTenant}
use Rattle.mt_tree.specs.Replies.{refusal_text, reply_bytes}
use Rattle.mt_catalog.specs.declared.state.Extension.{Extension}
use Rattle.mt_catalog.specs.Rules.{quota_total}
use Rattle.mt_model.specs.Answer.{answer, answer_said, first_refusal, reply_text}
use Rattle.mt_model.specs.Command.{command_refusal, applied}
use Rattle.mt_model.specs.Database.{PrivateDatabase}
use Rattle.mt_model.specs.FirstPath.{first_path, first_path_step}
use Rattle.mt_model.specs.Isolation.{service_rules}
use Rattle.mt_model.specs.Laws.{EachStepPrints, view_with}
use Rattle.mt_model.specs.Request as request
use Rattle.mt_model.specs.Said.{Said, Unread, Outside, Unserved, Says}
use Rattle.mt_model.specs.Service.{Service, View, catalogue_of, view_of}
use Rattle.mt_model.specs.Step.{Stepped, refused, step, command_said}

-- there is a byte
abbrev pub HasByte : List ℕ → Type 0
HasByte [] = ⊥
HasByte (b ∷ bs) = Unit {0}

-- the reply prints a byte
abbrev pub Prints : Reply → Type 0
Prints reply = HasByte (reply_bytes reply)

pub refusal_prints : (code : Code) → Prints (Refused code)
unfolding refusal_text
refusal_prints LineTooLong = tt
refusal_prints LineNotReadable = tt
refusal_prints UnknownTenant = tt
refusal_prints NotServed = tt
refusal_prints Syntax = tt
refusal_prints UnknownTable = tt
refusal_prints UnknownColumn = tt
refusal_prints AmbiguousName = tt
refusal_prints TypesDoNotFit = tt
refusal_prints Grouping = tt
refusal_prints NumberOutside64Bits = tt
refusal_prints TextTooLong = tt
refusal_prints NumberOutOfRange = tt
refusal_prints NullNotAllowed = tt
refusal_prints DuplicateKey = tt
refusal_prints QuotaFull = tt
refusal_prints RowNumbersUsedUp = tt
refusal_prints NameExists = tt
refusal_prints ColumnNameTaken = tt
refusal_prints UnknownName = tt
refusal_prints Limit = tt
refusal_prints QuotaBelowRows = tt
refusal_prints QuotasTooLarge = tt
refusal_prints FoldNotValid = tt
refusal_prints TableIsMoving = tt
refusal_prints TableIsNotMoving = tt
refusal_prints TooManyChunks = tt
refusal_prints TransactionIsOpen = tt
refusal_prints TransactionAlreadyOpen = tt
refusal_prints NoTransaction = tt

text_prints : (view : View) (database : PrivateDatabase) (statement : SimpleStmt) → Prints (Text (reply_text view database statement))
text_prints view database (Insert table values) = tt
text_prints view database (Select table columns) = tt

-- a statement is refused with this code, or answered
decided_prints : (refusal : Option Code) (bytes : List ℕ) → HasByte bytes → Prints (elim refusal [ None ↦ Text bytes | Some code ↦ Refused code ])
decided_prints None bytes has = has
decided_prints (Some code) bytes has = refusal_prints code

said_prints : (view : View) (database : PrivateDatabase) (said : Said SimpleStmt) → Prints (answer_said view database said)
said_prints view database Unread = refusal_prints Syntax
said_prints view database Outside = refusal_prints NumberOutside64Bits
said_prints view database Unserved = refusal_prints NotServed
said_prints view database (Says statement) = decided_prints (first_refusal view database statement) (reply_text view database statement) (text_prints view database statement)

answer_prints : (tables : List Table) (extensions : List Extension) (database : Option PrivateDatabase) (said : Said SimpleStmt) → Prints (answer (view_with tables extensions database) said)
answer_prints tables extensions None said = refusal_prints UnknownTenant
answer_prints tables extensions (Some database) said = said_prints (view_with tables extensions (Some database)) database said

-- a command is refused with this code, or done
command_prints : (service : Service) (command : AdminCmd) (refusal : Option Code) → Prints ((elim refusal as (λ _. Stepped) [ None ↦ record { reply = Text (codes "ok\n"); next = applied service command } | Some code ↦ refused service code ]).reply)
command_prints service command None = tt
command_prints service command (Some code) = refusal_prints code

command_said_prints : (service : Service) (said : Said AdminCmd) → Prints ((command_said service said).reply)
command_said_prints service Unread = refusal_prints Syntax
command_said_prints service Outside = refusal_prints NumberOutside64Bits
command_said_prints service Unserved = refusal_prints NotServed
command_said_prints service (Says command) = command_prints service command (command_refusal service command)

step_prints : (service : Service) (asked : request.Request) → Prints ((step service asked).reply)
step_prints service request.Overlong = refusal_prints LineTooLong
step_prints service request.Unreadable = refusal_prints LineNotReadable
step_prints service (request.Statement tenant said) = answer_prints service.tables service.extensions (view_of service tenant).database said
step_prints service (request.Command said) = command_said_prints service said

-- the tests of the first path, one behind the other
made_prints : (service : Service) (tenant quota : ℕ) (exists too_large : Bool)
    → Prints ((if exists then refused service NameExists else (if too_large then refused service QuotasTooLarge else record { reply = Text (codes "ok\n"); next = applied service (CreateTenant tenant quota) })).reply)
made_prints service tenant quota true too_large = refusal_prints NameExists
made_prints service tenant quota false true = refusal_prints QuotasTooLarge
made_prints service tenant quota false false = tt

first_path_step_prints : (service : Service) (asked : request.Request) → Prints ((first_path_step service asked).reply)
first_path_step_prints service (request.Command (Says (CreateTenant tenant quota))) =
    made_prints service tenant quota (finite.contains_key service.tenants tenant) (nat_lt 1048576 (quota_total (catalogue_of service) + quota))
first_path_step_prints service asked = step_prints service asked

-- so each reply of the service does
pub service_prints : EachStepPrints service_rules
service_prints service asked none = subst HasByte none (step_prints service asked)

-- and each of the first path
pub first_path_prints : EachStepPrints first_path
first_path_prints service asked none = subst HasByte none (first_path_step_prints service asked)
