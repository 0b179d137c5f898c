-- What `run` serves so far: one command in one form. It knows no limit on the number of tenants.
use Rattle.std.specs.Prelude.{◌≡◌, ℕ, ◌+◌, ◌^◌, ◌<◌, ◌≤◌, nat_lt, if◌then◌else◌, List, ◌++◌, codes, decimal}
use Rattle.std.specs.FinMap as finite
use Rattle.mt_tree.specs.declared.command.AdminCmd.TheVariants.{CreateTenant}
use Rattle.mt_tree.specs.declared.code.Code.TheVariants.{NameExists, QuotasTooLarge}
use Rattle.mt_tree.specs.declared.reply.Reply.TheVariants.{Text}
use Rattle.mt_script.specs.Lines as lines
use Rattle.mt_script.specs.Lines.{Line}
use Rattle.mt_model.specs.Command.{applied}
use Rattle.mt_model.specs.Said.{Unserved, Says}
use Rattle.mt_model.specs.Request.{Request, Overlong, Command}
use Rattle.mt_catalog.specs.Rules.{quota_total}
use Rattle.mt_model.specs.Service.{Service, catalogue_of}
use Rattle.mt_model.specs.Step.{Stepped, refused, step}
use Rattle.mt_model.specs.Run.{Rules}

-- The bytes spell the command `CREATE TENANT` in its one form: the words in this case, one space
-- between, the numbers in decimal without a leading zero and inside their limits.
pub record SpellsCreateTenant (bytes : List ℕ) (tenant quota : ℕ) : Type 0 where
  pub spelling : bytes ≡ codes "@admin CREATE TENANT " ++ decimal tenant ++ codes " QUOTA " ++ decimal quota
  pub tenant_from : 1 ≤ tenant
  pub tenant_upto : tenant < 2 ^ 32
  pub quota_from : 1 ≤ quota
  pub quota_upto : quota ≤ 65536

-- what a line says to the word `run`: it makes a tenant, or has no form that is served
abbrev pub IsFirstPathRequest : Line → Request → Type 0
IsFirstPathRequest lines.TooLong Overlong = Unit {0}
IsFirstPathRequest (lines.Text bytes) (Command (Says (CreateTenant tenant quota))) = SpellsCreateTenant bytes tenant quota
-- whatever else it is
IsFirstPathRequest (lines.Text bytes) (Command Unserved) = (tenant quota : ℕ) → SpellsCreateTenant bytes tenant quota → ⊥
IsFirstPathRequest line request = ⊥

-- a tenant that is there is refused before the quotas are added up
abbrev pub first_path_step : Service → Request → Stepped
first_path_step service (Command (Says (CreateTenant tenant quota))) =
    if finite.contains_key service.tenants tenant then refused service NameExists
    else (if nat_lt 1048576 (quota_total (catalogue_of service) + quota) then refused service QuotasTooLarge
    else record { reply = Text (codes "ok\n"); next = applied service (CreateTenant tenant quota) })
first_path_step service request = step service request

-- the rules of the word `run`
abbrev pub first_path : Rules
first_path = record { says = IsFirstPathRequest; step = first_path_step }
