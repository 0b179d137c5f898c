use Rattle.std.proofs.Common.{All, sym, subst}
use Rattle.std.proofs.lemmas.Result.{IfOk-weaker}
use Rattle.mt_physplan.specs.declared.change.Change.{Change}
use Rattle.mt_places.specs.Held.{state_of}
use Rattle.mt_places.specs.Places.{PlacesState}
use Rattle.mt_staging.specs.Group.{IsAsked}
use Rattle.mt_staging.specs.States.{group_of}
use Rattle.mt_staging.proofs.Asked.{all_asked}
use Rattle.mt_staging.proofs.tests.begun.Goals as goal

pub returns-clause-asked : goal.returns-clause-asked
returns-clause-asked c =
    let asked = all_asked c.args.changes.now (state_of c.in_ok-places.places) c.in_ok-places.ensures in
    IfOk-weaker c.new-2.result _ _ (λ group empty. subst (λ (places : PlacesState). All (λ (change : Change). IsAsked change places) c.args.changes.now) (sym empty.places_are) asked) c.new-2.ensures
