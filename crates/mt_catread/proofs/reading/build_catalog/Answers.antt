-- The tenants as a finite map.
use Rattle.std.proofs.Common.{sym, subst}
use Rattle.mt_catalog.specs.Found.{IsFoundTenant}
use Rattle.mt_catalog.specs.Keyed.{slot_in}
use Rattle.mt_catalog.proofs.Numbered.{got_looked}
use Rattle.mt_catread.proofs.reading.build_catalog.Goals as goal

pub returns-clause-ok : goal.returns-clause-ok
returns-clause-ok c = record {
  bases_are = c.in_ok-bases.ensures.ok;
  extensions_are = c.in_ok-extensions.ensures.ok;
  tenants_are = λ tenant. subst (IsFoundTenant (slot_in c.args.slots.now.entries) c.in_ok-bases.bases c.in_ok-extensions.extensions tenant)
      (sym (got_looked c.in_ok-tenants.tenants.entries tenant)) (c.in_ok-tenants.ensures.ok tenant);
}
