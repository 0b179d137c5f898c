-- A quota above what is left is more than what is left of all.
use Rattle.std.proofs.Common.{◌≡◌, ◌∷◌, ap, ◌∙◌, arith}
use Rattle.std.specs.Prelude.{List, sum_by}
use Rattle.std.specs.Map.Iter.{deref}
use Rattle.std.proofs.lemmas.Bool.{false≢true}
use Rattle.std.proofs.lemmas.List.Sums.{sum_by-cons}
use Rattle.std.proofs.lemmas.Map.Iter.{rest_more}
use Rattle.mt_catalog.specs.declared.state.TenantEntry.{TenantEntry}
use Rattle.mt_catcheck.proofs.tenant_rules.quotas_fit.Goals as goal

pub returns-then-entry-left : goal.returns-then-entry-left
returns-then-entry-left c =
    let first : c.loop-entry.entry-iterator ≡ c.in-Some.entry.now ∷ c.next.new.self = rest_more deref c.loop-entry.entry-iterator c.next.new.self c.next.result c.in-Some.entry c.in-Some.is c.next.ensures.steps in
    let more = ap (λ (of : List TenantEntry). sum_by (λ entry. entry.quota) of) first ∙ sum_by-cons (λ (entry : TenantEntry). entry.quota) c.in-Some.entry.now c.next.new.self in
    (λ e. absurd (false≢true e), λ fit. absurd (omega (arith, c.loop-entry.invariant, more, c.if-entry-left.true, fit)))
