-- One quota more; together they are those of the catalogue, and these are few.
use Rattle.std.proofs.Common.{◌≡◌, ℕ, ◌+◌, List, ◌∷◌, sym, ap, ◌∙◌, arith, zero-add}
use Rattle.std.specs.Prelude.{sum_by}
use Rattle.std.specs.Map.{values_of}
use Rattle.std.specs.Map.Iter.{deref_pair}
use Rattle.std.proofs.lemmas.List.Sums.{sum_by-cons}
use Rattle.std.proofs.lemmas.Map.Iter.{rest_more}
use Rattle.mt_catalog.specs.declared.state.TenantEntry.{TenantEntry}
use Rattle.mt_catalog.specs.State.{State}
use Rattle.mt_schema.proofs.Quotas.{quotas_are}
use Rattle.mt_schema.proofs.refusals.quota_total.Goals as goal

-- the quotas of entries
abbrev quotas : List (ℕ × TenantEntry) → ℕ
quotas es = sum_by (λ (entry : TenantEntry). entry.quota) (values_of es)

one_more : (rest left : List (ℕ × TenantEntry)) (number : ℕ) (entry : TenantEntry) → rest ≡ (number, entry) ∷ left → quotas rest ≡ entry.quota + quotas left
one_more rest left number entry is = ap quotas is ∙ sum_by-cons (λ (entry : TenantEntry). entry.quota) entry (values_of left)

pub loop-number-init : goal.loop-number-init
loop-number-init c =
    let es : List (ℕ × TenantEntry) = c.catalog.inside.tenants.entries in
    let all : c.into_iter-number-iterator.result ≡ es = c.into_iter-number-iterator.ensures.into_iter_gives ∙ c.iter-number-items.ensures.rest in
    zero-add (quotas c.into_iter-number-iterator.result) ∙ ap quotas all ∙ sym (quotas_are c.args.catalog.now es (ap (λ (of : State). of.tenants) c.catalog.view_is) c.iter-number-items.ensures.unique)

pub overflow_add-total : goal.overflow_add-total
overflow_add-total c =
    let first : c.loop-number._number-iterator ≡ (c.in-Some._number.now, c.in-Some.entry.now) ∷ c.next.new.self =
    rest_more deref_pair c.loop-number._number-iterator c.next.new.self c.next.result (c.in-Some._number, c.in-Some.entry) c.in-Some.is c.next.ensures.steps in
    let more = one_more c.loop-number._number-iterator c.next.new.self c.in-Some._number.now c.in-Some.entry.now first in
    omega (arith, c.loop-number.invariant, more, c.from-total.ensures, c.requires.quotas)

pub loop-number-preserved : goal.loop-number-preserved
loop-number-preserved c =
    let first : c.loop-number._number-iterator ≡ (c.in-Some._number.now, c.in-Some.entry.now) ∷ c.next.new.self =
    rest_more deref_pair c.loop-number._number-iterator c.next.new.self c.next.result (c.in-Some._number, c.in-Some.entry) c.in-Some.is c.next.ensures.steps in
    let more = one_more c.loop-number._number-iterator c.next.new.self c.in-Some._number.now c.in-Some.entry.now first in
    omega (arith, c.loop-number.invariant, more, c.from-total.ensures)
