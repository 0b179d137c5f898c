-- The one that was built is judged.
use Rattle.std.proofs.Common.{refl, sym, ◌∙◌}
use Rattle.std.proofs.lemmas.Bool.{false≢true}
use Rattle.mt_catread.proofs.Whole.{is_of, none_without_rules, none_without_slots}
use Rattle.mt_catread.proofs.reading.catalog_of.Goals as goal

pub returns-then-not-has_slots-clause-damaged : goal.returns-then-not-has_slots-clause-damaged
returns-then-not-has_slots-clause-damaged c keyed damaged =
    none_without_slots c.args.slots.now.entries keyed c.in_ok-catalog.catalog c.in_ok-catalog.ensures.ok (λ all. false≢true (c.if-not-has_slots.ensures.1 all))

pub returns-then-not-branch-clause-damaged : goal.returns-then-not-branch-clause-damaged
returns-then-not-branch-clause-damaged c keyed damaged =
    none_without_rules c.args.slots.now.entries keyed c.in_ok-catalog.catalog c.in_ok-catalog.ensures.ok (λ kept. false≢true (sym c.if-not-branch.true ∙ c.in_ok-is_catalogue.ensures.1 kept))

pub returns-clause-ok : goal.returns-clause-ok
returns-clause-ok c keyed =
    is_of c.args.slots.now.entries keyed c.in_ok-catalog.catalog c.in_ok-catalog.ensures.ok (c.if-not-has_slots.ensures.0 refl) (c.in_ok-is_catalogue.ensures.0 c.if-not-branch.false)
