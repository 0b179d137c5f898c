-- The line is answered in memory.
use Rattle.std.proofs.Common.{◌≡◌, refl, sym, subst}
use Rattle.mt_model.specs.FirstPath.{first_path}
use Rattle.mt_model.specs.Run.{Answers}
use Rattle.mt_model.specs.Service.{Service}
use Rattle.mt_script.specs.Lines.{Text}
use Rattle.foldsql.specs.Tenants.{service_with_quotas}
use Rattle.foldsql.proofs.Engines.{answered_in_memory, keeps_in_memory}
use Rattle.foldsql.proofs.tenants.TenantsEngine.line.Goals as goal

pub returns-clause-does : goal.returns-clause-does
returns-clause-does g c =
    let now : Service = service_with_quotas c.args.self.now in
    let next : Service = service_with_quotas c.answer.new.self in
    answered_in_memory first_path (Text c.args.line.now) c.answer.result (λ service. service ≡ now) (λ service. service ≡ next) (g.M.Machine.meaning c.args.machine.now)
    (g.met.M.Machine.moments_told c.args.machine.now) (λ told image out. g.met.M.Machine.only_now c.args.machine.now image out told)
    (λ service same. (c.answer.ensures.0, next, subst (λ (kept : Service). Answers first_path kept (Text c.args.line.now) c.answer.ensures.0 c.answer.result next) (sym same) c.answer.ensures.1, refl))

pub returns-clause-ready : goal.returns-clause-ready
returns-clause-ready g c =
    let next : Service = service_with_quotas c.answer.new.self in
    (next, keeps_in_memory (next ≡ next) (g.M.Machine.meaning c.args.machine.now) (g.met.M.Machine.moments_told c.args.machine.now) refl)
