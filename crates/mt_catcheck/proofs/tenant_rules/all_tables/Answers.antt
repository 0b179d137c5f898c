-- One table more keeps the rules.
use Rattle.std.proofs.Common.{refl, sym, ◌∙◌, subst, below_more, arith}
use Rattle.std.proofs.lemmas.Option.{same_Some, slice_get_within}
use Rattle.mt_catalog.specs.declared.state.TenantTable.{TenantTable}
use Rattle.mt_catalog.specs.Rules.{IsTenantTable}
use Rattle.mt_catcheck.proofs.tenant_rules.all_tables.Goals as goal

pub loop-base-preserved : goal.loop-base-preserved
loop-base-preserved c = below_more _ _ c.loop-base.invariant (λ table at.
    subst (λ (of : TenantTable). IsTenantTable c.args.catalog.now c.loop-base.base of) (same_Some c.get.result.now table (sym c.get.ensures ∙ at)) (c.in_ok-is_tenant_table.ensures.0 c.if-not-branch.false))

pub returns : goal.returns
returns c = (
  λ _ base table at. c.loop-base.invariant base (omega (arith, slice_get_within c.args.tables.now base table at, c.loop-base-test.false, c.len-base-end.ensures)) table at,
  λ _. refl,
)
