-- The first of what is left keeps the rule.
use Rattle.std.proofs.Common.{◌≡◌, ◌∷◌, refl, rules}
use Rattle.mt_catalog.specs.Rules.{IsPlain}
use Rattle.mt_catalog.proofs.Tested.{rest_decides}
use Rattle.mt_catcheck.proofs.rules.all_plain.Goals as goal

pub loop-first-preserved : goal.loop-first-preserved
loop-first-preserved c =
    let is : c.loop-first.rest.now ≡ c.in-Some.first.now ∷ c.in-Some.others.now = search rules in
    rest_decides IsPlain c.loop-first.rest.now c.in-Some.others.now c.in-Some.first.now is (c.if-not-is_plain.ensures.0 refl) c.loop-first.invariant
