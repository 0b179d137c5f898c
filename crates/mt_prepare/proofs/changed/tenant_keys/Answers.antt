-- One table more.
use Rattle.std.proofs.Common.{ℕ, List, [], ◌∷◌, ◌++◌, sym, ap, ◌∙◌, arith}
use Rattle.std.proofs.lemmas.List.FromFn.{map-range_with_len_more}
use Rattle.mt_catslot.specs.declared.slot.CatKey.{CatKey}
use Rattle.mt_catslot.specs.declared.slot.CatKey.TheVariants as keys
use Rattle.mt_prepare.proofs.changed.tenant_keys.Goals as goal

pub loop-base-preserved : goal.loop-base-preserved
loop-base-preserved c =
    let made : ℕ → CatKey = λ base. keys.Placement c.args.tenant base in
    let at : ℕ = c.loop-base.base in
    c.in_ok-push-2.ensures.ok ∙ ap (λ (of : List CatKey). of ++ made at ∷ []) c.loop-base.invariant
    ∙ ap (λ (of : List CatKey). keys.Tenant c.args.tenant ∷ of) (sym (map-range_with_len_more made 0 at at (omega arith)))
