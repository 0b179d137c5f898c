-- One column more.
use Rattle.std.proofs.Common.{ℕ, List, [], ◌∷◌, ◌++◌, sym, ap, ◌∙◌, arith}
use Rattle.std.proofs.lemmas.List.FromFn.{map-range_with_len_more}
use Rattle.mt_catslot.specs.declared.slot.CatKey.{CatKey}
use Rattle.mt_catslot.specs.declared.slot.CatKey.TheVariants as keys
use Rattle.mt_prepare.proofs.changed.relation_keys.Goals as goal

pub loop-position-preserved : goal.loop-position-preserved
loop-position-preserved c =
    let made : ℕ → CatKey = λ position. keys.Column c.args.class c.args.number position in
    let at : ℕ = c.loop-position.position in
    c.in_ok-push-2.ensures.ok ∙ ap (λ (of : List CatKey). of ++ made at ∷ []) c.loop-position.invariant
    ∙ ap (λ (of : List CatKey). keys.Relation c.args.class c.args.number ∷ of) (sym (map-range_with_len_more made 0 at at (omega arith)))
