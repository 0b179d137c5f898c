-- The first path begins with the empty service; other words are refused.
use Rattle.std.proofs.Common.{◌≡◌, refl, sym}
use Rattle.mt_model.specs.Service.{empty_service}
use Rattle.foldsql.specs.Tenants.{service_with_quotas}
use Rattle.foldsql.proofs.Engines.{keeps_in_memory}
use Rattle.foldsql.proofs.Served.{refusal}
use Rattle.foldsql.proofs.command.foldsql.Goals as goal

pub run-requires : goal.run-requires
run-requires g c = record {
  sound = tt;
  ready = (empty_service, keeps_in_memory (empty_service ≡ service_with_quotas c.new.result) (g.M.Machine.meaning c.args.machine.now) (g.met.M.Machine.moments_told c.args.machine.now) (sym c.new.ensures));
}

pub returns-else-is_word-2-clause-refused : goal.returns-else-is_word-2-clause-refused
returns-else-is_word-2-clause-refused g c not_run not_plain = (c.finish.result, c.code-else-is_word-2.ensures, refusal c.finish.result _ _ c.finish.ensures.finishes, refl)
