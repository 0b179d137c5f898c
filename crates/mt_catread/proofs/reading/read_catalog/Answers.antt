-- By the entries of what the bodies say.
use Rattle.std.proofs.lemmas.Result.{IfOk-weaker}
use Rattle.mt_catalog.specs.Found.{IsOf}
use Rattle.mt_catalog.specs.Keyed.{slot_in}
use Rattle.mt_catalog.specs.Reading.{SayCatalogue}
use Rattle.mt_catalog.specs.Rules.{IsCatalogue}
use Rattle.mt_catalog.specs.State.{State}
use Rattle.mt_catread.proofs.Entries.{found_said, none_said}
use Rattle.mt_catread.proofs.reading.read_catalog.Goals as goal

pub returns-clause-ok : goal.returns-clause-ok
returns-clause-ok c =
    let are = c.in_ok-slots.ensures.ok in
    IfOk-weaker c.catalog_of.result (λ (catalog : State). IsOf (slot_in c.in_ok-slots.slots.entries) catalog) (λ (catalog : State). IsCatalogue catalog × SayCatalogue c.args.bodies.now catalog)
    (λ catalog of. (of.rules, found_said c.args.bodies.now c.in_ok-slots.slots.entries catalog are of.same)) (c.catalog_of.ensures.ok are.keyed)

pub returns-clause-damaged : goal.returns-clause-damaged
returns-clause-damaged c damaged =
    let are = c.in_ok-slots.ensures.ok in
    none_said c.args.bodies.now c.in_ok-slots.slots.entries are (c.catalog_of.ensures.damaged are.keyed damaged)
