-- The numbers of a command, all of which are to be inside 64 bits.
use Rattle.std.specs.Prelude.{All}
use Rattle.mt_tree.specs.declared.command.AdminCmd.{AdminCmd}
use Rattle.mt_tree.specs.declared.command.AdminCmd.TheVariants.{CreateTable, CreateExtension, CreateTenant, Extend, SetQuota, Advise, ShowFold, Refold, Step, Explain}
use Rattle.mt_tree.specs.declared.command.Def.{Def}
use Rattle.mt_tree.specs.declared.command.DefKind.{DefKind}
use Rattle.mt_tree.specs.declared.command.DefKind.TheVariants.{Integer, Varchar}
use Rattle.mt_statements.specs.QueryInside.{IsNumberInside, IsSelectInside}

-- the size of a VARCHAR
abbrev pub IsKindInside : DefKind → Type 0
IsKindInside Integer = Unit {0}
IsKindInside (Varchar size) = IsNumberInside size

-- that of a column
abbrev pub IsDefInside : Def → Type 0
IsDefInside def = IsKindInside def.kind

-- those of a command
abbrev pub IsCommandInside : AdminCmd → Type 0
IsCommandInside (CreateTable name columns key) = All IsDefInside columns
IsCommandInside (CreateExtension name base columns) = All IsDefInside columns
IsCommandInside (CreateTenant tenant quota) = IsNumberInside tenant × IsNumberInside quota
IsCommandInside (Extend tenant extension) = IsNumberInside tenant
IsCommandInside (SetQuota tenant quota) = IsNumberInside tenant × IsNumberInside quota
IsCommandInside (Advise tenant table) = IsNumberInside tenant
IsCommandInside (ShowFold tenant table) = IsNumberInside tenant
IsCommandInside (Refold tenant table fold) = IsNumberInside tenant
IsCommandInside (Step tenant table rows) = IsNumberInside tenant × IsNumberInside rows
IsCommandInside (Explain tenant select) = IsNumberInside tenant × IsSelectInside select
