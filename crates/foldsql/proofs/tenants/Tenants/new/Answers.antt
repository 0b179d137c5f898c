-- No quotas make the empty service.
use Rattle.std.proofs.Common.{◌∙◌, sym, ap, arith}
use Rattle.mt_catalog.specs.Rules.{quota_total}
use Rattle.mt_model.specs.Service.{catalogue_of}
use Rattle.foldsql.specs.Tenants.{service_with_quotas}
use Rattle.foldsql.proofs.Quotas.{service_with_no_quotas, quota_total_of_nothing}
use Rattle.foldsql.proofs.tenants.Tenants.new.Goals as goal

pub invariant_of-result : goal.invariant_of-result
invariant_of-result c = record {
  sum = sym (ap (λ quotas. quota_total (catalogue_of (service_with_quotas quotas))) c.new.ensures.empty ∙ quota_total_of_nothing);
  upto = omega arith;
}

pub returns : goal.returns
returns c = ap service_with_quotas c.new.ensures.empty ∙ service_with_no_quotas
