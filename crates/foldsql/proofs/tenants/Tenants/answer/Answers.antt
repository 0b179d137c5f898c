-- A line that spells the command asks for its tenant, and any other is not served.
use Rattle.std.proofs.Common.{inl, refl}
use Rattle.mt_tree.specs.declared.command.AdminCmd.TheVariants.{CreateTenant}
use Rattle.mt_model.specs.Said.{Says, Unserved}
use Rattle.mt_model.specs.Request.{Command}
use Rattle.foldsql.proofs.tenants.Tenants.answer.Goals as goal

pub returns-in-Some : goal.returns-in-Some
returns-in-Some c = (Command (Says (CreateTenant c.in-Some.tenant c.in-Some.quota)), record { said = c.in-Some.ensures.found; outcome = c.create.ensures })

pub returns-in-None : goal.returns-in-None
returns-in-None c = (Command Unserved, record { said = c.in-None.ensures.none; outcome = inl (record { reply_is = refl; next_is = refl }) })
