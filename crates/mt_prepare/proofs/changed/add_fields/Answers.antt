-- One column more.
use Rattle.std.proofs.Common.{ℕ, ◌+◌, List, [], ◌∷◌, ◌++◌, map, refl, sym, ap, ◌∙◌, append_assoc}
use Rattle.std.specs.List.{range_with_len}
use Rattle.std.proofs.lemmas.List.FromFn.{map-range_with_len_more}
use Rattle.mt_catslot.specs.declared.slot.CatKey.{CatKey}
use Rattle.mt_catslot.specs.declared.slot.CatKey.TheVariants as keys
use Rattle.mt_prepare.proofs.changed.add_fields.Goals as goal

pub loop-behind-preserved : goal.loop-behind-preserved
loop-behind-preserved c =
    let made : ℕ → CatKey = λ column. keys.Field c.args.tenant c.args.base c.args.generation column in
    let at : ℕ = c.args.first + c.loop-behind.behind in
    let so_far : List CatKey = map made (range_with_len c.args.first c.loop-behind.behind) in
    c.in_ok-push.ensures.ok ∙ ap (λ (of : List CatKey). of ++ made at ∷ []) c.loop-behind.invariant
    ∙ append_assoc c.args.changed.now so_far (made at ∷ [])
    ∙ ap (λ (of : List CatKey). c.args.changed.now ++ of) (sym (map-range_with_len_more made c.args.first c.loop-behind.behind at refl))
