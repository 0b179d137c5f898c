-- The first of what is left has a name.
use Rattle.std.proofs.Common.{◌≡◌, ◌∷◌, refl, rules}
use Rattle.mt_lexer.specs.Reserved.{IsNameText}
use Rattle.mt_tree.specs.declared.command.Def.{Def}
use Rattle.mt_catalog.proofs.Tested.{rest_decides}
use Rattle.mt_prepare.proofs.tests.are_named.Goals as goal

pub loop-first-preserved : goal.loop-first-preserved
loop-first-preserved c =
    let is : c.loop-first.rest.now ≡ c.in-Some.first.now ∷ c.in-Some.others.now = search rules in
    rest_decides (λ (def : Def). IsNameText def.name) c.loop-first.rest.now c.in-Some.others.now c.in-Some.first.now is (c.if-not-is_name.ensures.0 refl) c.loop-first.invariant
