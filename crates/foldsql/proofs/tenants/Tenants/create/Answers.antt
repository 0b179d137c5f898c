-- The map has the tenants of the service, and the sum is that of its quotas.
use Rattle.std.proofs.Common.{◌∙◌, inl, sym, ap, arith}
use Rattle.mt_tree.specs.declared.reply.Reply.TheVariants.{Text}
use Rattle.mt_catalog.specs.Rules.{quota_total}
use Rattle.mt_model.specs.Service.{Service, catalogue_of}
use Rattle.foldsql.proofs.Quotas.{contains_service, service_with, quota_total-with_tenant, exists_stepped, too_large_stepped, created_stepped}
use Rattle.foldsql.proofs.tenants.Tenants.create.Goals as goal

pub returns-then-contains_key : goal.returns-then-contains_key
returns-then-contains_key c =
    rw (← c.self.view_is) (inl (exists_stepped c.self.inside.quotas.entries c.args.tenant c.args.quota
    (contains_service c.self.inside.quotas.entries c.args.tenant ∙ sym c.contains_key.ensures ∙ c.if-contains_key.true)))

pub returns-then-total-gt-TOTAL_MAX : goal.returns-then-total-gt-TOTAL_MAX
returns-then-total-gt-TOTAL_MAX c =
    rw (← c.self.view_is) (inl (too_large_stepped c.self.inside.quotas.entries c.args.tenant c.args.quota
    (contains_service c.self.inside.quotas.entries c.args.tenant ∙ sym c.contains_key.ensures ∙ c.if-contains_key.false)
    (omega (arith, c.self.invariant.sum))))

pub invariant_of-self-2 : goal.invariant_of-self-2
invariant_of-self-2 c =
    let more = service_with c.self.inside.quotas.entries c.insert.new.self.entries c.args.tenant c.args.quota c.in-Ok-insert.ensures.updates.0 in
    let absent = contains_service c.self.inside.quotas.entries c.args.tenant ∙ sym c.contains_key.ensures ∙ c.if-contains_key.false in
    let sum = ap (λ (service : Service). quota_total (catalogue_of service)) more ∙ quota_total-with_tenant _ c.args.tenant c.args.quota absent in
    record { sum = omega (arith, c.self.invariant.sum, sum); upto = omega arith }

pub returns : goal.returns
returns c =
    let more = service_with c.self.inside.quotas.entries c.insert.new.self.entries c.args.tenant c.args.quota c.in-Ok-insert.ensures.updates.0 in
    let absent = contains_service c.self.inside.quotas.entries c.args.tenant ∙ sym c.contains_key.ensures ∙ c.if-contains_key.false in
    let made = created_stepped c.self.inside.quotas.entries c.args.tenant c.args.quota absent (omega (arith, c.self.invariant.sum)) in
    inl (rw (← c.self.view_is) (record { reply_is = ap Text c.in-Ok.ensures ∙ made.reply_is; next_is = more ∙ made.next_is }))
