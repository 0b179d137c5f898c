-- By the tenant's lists, if it is there.
use Rattle.std.proofs.Common.{◌<◌, ◌^◌, length, sym, ap, ◌∙◌, subst, arith}
use Rattle.std.specs.FinMap as finite
use Rattle.mt_catalog.specs.State.{State}
use Rattle.mt_model.specs.Service.{kept_of}
use Rattle.mt_private.specs.Seen.{kept_in, lists_of}
use Rattle.mt_private.proofs.Commands.{count_fits, found_entry, found_none, kept_nowhere, kept_there, number_fits}
use Rattle.mt_private.proofs.command.kept_of.Goals as goal

pub overflow_cast-tenant : goal.overflow_cast-tenant
overflow_cast-tenant c =
    let fits = number_fits c.args.catalog.now c.args.rows.now.entries c.named_tenant-tenant.result c.in-Some.field-0.now
    (found_entry c.tenant_of.result c.in-Some.field-0 (finite.get c.args.catalog.now.tenants c.named_tenant-tenant.result) c.in-Some.is c.tenant_of.ensures) c.requires.0 c.requires.1 in
    omega (arith, fits)

pub count_kept-requires : goal.count_kept-requires
count_kept-requires c =
    let fits = count_fits c.args.catalog.now c.args.rows.now.entries c.named_tenant-tenant.result c.in-Some.field-0.now
    (found_entry c.tenant_of.result c.in-Some.field-0 (finite.get c.args.catalog.now.tenants c.named_tenant-tenant.result) c.in-Some.is c.tenant_of.ensures) c.requires.0 c.requires.1 in
    let bases = c.len.ensures ∙ ap (λ (state : State). length state.bases) c.catalog.view_is in
    subst (λ n. kept_in c.lists_of.result.now n < 2 ^ 64) (sym bases) (subst (λ lists. kept_in lists (length c.args.catalog.now.bases) < 2 ^ 64) (sym c.lists_of.ensures) fits)

pub returns-in-None : goal.returns-in-None
returns-in-None c = λ service kept.
    kept_nowhere c.args.catalog.now c.args.rows.now.entries c.named_tenant-tenant.result c.parts_tell_the_service.ensures.databases
    (found_none c.tenant_of.result (finite.get c.args.catalog.now.tenants c.named_tenant-tenant.result) c.in-None.is c.tenant_of.ensures) service kept
    ∙ ap (kept_of service) c.named_tenant-tenant.ensures

pub returns-in-Some : goal.returns-in-Some
returns-in-Some c = λ service kept.
    let bases = c.len.ensures ∙ ap (λ (state : State). length state.bases) c.catalog.view_is in
    c.count_kept.ensures ∙ ap (λ lists. kept_in lists c.len.result) c.lists_of.ensures
    ∙ ap (kept_in (lists_of c.args.rows.now.entries c.named_tenant-tenant.result)) bases
    ∙ kept_there c.args.catalog.now c.args.rows.now.entries c.named_tenant-tenant.result c.parts_tell_the_service.ensures.kept service kept
    ∙ ap (kept_of service) c.named_tenant-tenant.ensures
