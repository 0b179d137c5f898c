-- Each number of a command is inside 64 bits, or one is not.
use Rattle.std.proofs.Common.{ℕ, inl}
use Rattle.mt_tree.specs.declared.command.AdminCmd.{AdminCmd}
use Rattle.mt_tree.specs.declared.command.AdminCmd.TheVariants.{CreateTable, CreateExtension, CreateTenant, Extend, SetQuota, Advise, ShowFold, Refold, Step, Explain}
use Rattle.mt_tree.specs.declared.command.DefKind.{DefKind}
use Rattle.mt_tree.specs.declared.command.DefKind.TheVariants.{Integer, Varchar}
use Rattle.mt_reader.specs.Literals.{limit_64}
use Rattle.mt_reader.proofs.Decided.{OrNot, all_or_not, both_or_not, below_or_not}
use Rattle.mt_statements.specs.QueryInside.{IsNumberInside}
use Rattle.mt_statements.proofs.Decided.{select_or_not}
use Rattle.mt_adminlang.specs.Inside.{IsKindInside, IsDefInside, IsCommandInside}

-- a number
number_or_not : (n : ℕ) → OrNot (IsNumberInside n)
number_or_not n = below_or_not n limit_64

-- the size of a VARCHAR
kind_or_not : (kind : DefKind) → OrNot (IsKindInside kind)
kind_or_not Integer = inl tt
kind_or_not (Varchar size) = number_or_not size

-- those of a command
pub command_or_not : (command : AdminCmd) → OrNot (IsCommandInside command)
command_or_not (CreateTable name columns key) = all_or_not IsDefInside (λ def. kind_or_not def.kind) columns
command_or_not (CreateExtension name base columns) = all_or_not IsDefInside (λ def. kind_or_not def.kind) columns
command_or_not (CreateTenant tenant quota) = both_or_not (number_or_not tenant) (number_or_not quota)
command_or_not (Extend tenant extension) = number_or_not tenant
command_or_not (SetQuota tenant quota) = both_or_not (number_or_not tenant) (number_or_not quota)
command_or_not (Advise tenant table) = number_or_not tenant
command_or_not (ShowFold tenant table) = number_or_not tenant
command_or_not (Refold tenant table fold) = number_or_not tenant
command_or_not (Step tenant table rows) = both_or_not (number_or_not tenant) (number_or_not rows)
command_or_not (Explain tenant select) = both_or_not (number_or_not tenant) (select_or_not select)
