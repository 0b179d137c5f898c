-- The run begins with the empty service, and its tenants are isolated.
use Rattle.mt_model.specs.Service.{empty_service}
use Rattle.mt_private.specs.Kept.{IsKept}
use Rattle.foldsql.proofs.Engines.{keeps_in_memory}
use Rattle.foldsql.proofs.Served.{tenants_served}
use Rattle.foldsql.proofs.command.run_plain.Goals as goal

pub run-requires : goal.run-requires
run-requires g c = record {
  sound = (empty_service, c.new.ensures);
  ready = (empty_service, keeps_in_memory (IsKept c.new.result empty_service) (g.M.Machine.meaning c.args.machine.now) (g.met.M.Machine.moments_told c.args.machine.now) c.new.ensures);
}

pub returns-clause-serves : goal.returns-clause-serves
returns-clause-serves g c =
    tenants_served _ _ _ _ _ c.isolation.ensures
    (c.run.ensures.serves empty_service (keeps_in_memory (IsKept c.new.result empty_service) (g.M.Machine.meaning c.args.machine.now) (g.met.M.Machine.moments_told c.args.machine.now) c.new.ensures))
