-- The first of what is left keeps the rule.
use Rattle.std.proofs.Common.{◌≡◌, ◌∷◌, refl, rules}
use Rattle.mt_catalog.specs.Clauses.{Extends}
use Rattle.mt_catalog.proofs.Tested.{rest_decides}
use Rattle.mt_catcheck.proofs.tenant_rules.all_extend.Goals as goal

pub loop-first-preserved : goal.loop-first-preserved
loop-first-preserved c =
    let is : c.loop-first.rest.now ≡ c.in-Some.first.now ∷ c.in-Some.others.now = search rules in
    rest_decides (Extends c.args.extensions.now c.args.base) c.loop-first.rest.now c.in-Some.others.now c.in-Some.first.now is (c.if-not-extends.ensures.0 refl) c.loop-first.invariant
