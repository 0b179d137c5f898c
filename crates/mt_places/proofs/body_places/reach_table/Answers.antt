use Rattle.std.proofs.Common.{[], ◌∷◌, ◌++◌, ap, ◌∙◌}
use Rattle.mt_places.specs.Held.{Bodies, all_bodies}
use Rattle.mt_places.proofs.Bodies.{all-push}
use Rattle.mt_places.proofs.body_places.reach_table.Goals as goal

pub loop-alloc-preserved : goal.loop-alloc-preserved
loop-alloc-preserved c =
    let items = c.loop-alloc.tables.items in
    ap all_bodies (c.in_ok-push.ensures.items ∙ ap (λ (m : Bodies). items ++ m ∷ []) c.new.ensures) ∙ all-push items ∙ c.loop-alloc.invariant
