-- One tenant more.
use Rattle.std.proofs.Common.{◌≡◌, ℕ, List, [], ◌∷◌, ◌++◌, ap, ◌∙◌}
use Rattle.std.specs.Prelude.{nat_eq}
use Rattle.std.specs.Map.Iter.{deref_pair}
use Rattle.std.proofs.lemmas.Map.Iter.{rest_more}
use Rattle.indexmap.proofs.CallerLemmas.{insert_entry-new}
use Rattle.mt_catalog.specs.declared.state.TenantEntry.{TenantEntry}
use Rattle.mt_prepare.specs.Copies.{with_new_tables}
use Rattle.mt_prepare.proofs.Copied.{changed, is_new, one_more}
use Rattle.mt_prepare.proofs.copies.tenants_with.Goals as goal

pub loop-number-preserved : goal.loop-number-preserved
loop-number-preserved c =
    let f : TenantEntry → TenantEntry = with_new_tables c.args.bases.now in
    let done : List (ℕ × TenantEntry) = c.loop-number.copied.entries in
    let all : List (ℕ × TenantEntry) = c.args.tenants.now.entries in
    let left : List (ℕ × TenantEntry) = c.next.new.self in
    let first : c.loop-number.number-iterator ≡ (c.in-Some.number.now, c.in-Some.entry.now) ∷ left =
    rest_more deref_pair c.loop-number.number-iterator left c.next.result (c.in-Some.number, c.in-Some.entry) c.in-Some.is c.next.ensures.steps in
    let none = is_new f done c.loop-number.number-iterator left all c.in-Some.number.now c.in-Some.entry.now first c.loop-number.invariant c.len.ensures.unique in
    ap (λ (of : List (ℕ × TenantEntry)). of ++ changed f left) (c.in_ok-put_entry.ensures.entries ∙ insert_entry-new nat_eq c.loop-number.copied c.in-Some.number.now c.in_ok-made.made none)
    ∙ ap (λ (of : TenantEntry). (done ++ (c.in-Some.number.now, of) ∷ []) ++ changed f left) c.in_ok-made.ensures
    ∙ one_more f done c.loop-number.number-iterator left all c.in-Some.number.now c.in-Some.entry.now first c.loop-number.invariant
