-- By the laws of the schema steps.
use Rattle.std.proofs.Common.{◌≡◌, ℕ, List, None, sym, ◌∙◌, subst}
use Rattle.std.specs.Prelude.{filter_map}
use Rattle.mt_catslot.specs.declared.slot.CatKey.{CatKey}
use Rattle.mt_catalog.specs.Slots.{slot_of}
use Rattle.mt_catalog.specs.State.{State}
use Rattle.mt_schema.specs.Refusals.{step_refusal}
use Rattle.mt_schema.specs.Turns.{AreWritten}
use Rattle.mt_prepare.proofs.Preparing.{is_prepared, next_rules}
use Rattle.mt_prepare.proofs.prepared.prepare.Goals as goal

pub written-requires : goal.written-requires
written-requires c =
    let accepted : step_refusal c.args.catalog.now (λ tenant. c.args.kept) c.args.step.now ≡ None = sym c.in_ok-code.ensures ∙ c.in_default.is in
    next_rules c.args.catalog.now c.args.kept c.args.step.now c.requires.rules c.requires.formed accepted c.in_ok-next.next c.in_ok-next.ensures

pub returns-clause-prepared : goal.returns-clause-prepared
returns-clause-prepared c =
    let state : State = c.args.catalog.now in
    let next : State = c.in_ok-next.next in
    let changed : List CatKey = c.in_ok-changed.changed in
    let put : List (ℕ × List ℕ) = c.in_ok-written.field-0 in
    let removed : List (ℕ × List ℕ) = c.in_ok-written-2.field-0 in
    let accepted : step_refusal state (λ tenant. c.args.kept) c.args.step.now ≡ None = sym c.in_ok-code.ensures ∙ c.in_default.is in
    let put_are : AreWritten put (filter_map (slot_of next) changed) = subst (λ (some : List CatKey). AreWritten put (filter_map (slot_of next) some)) c.as_slice.ensures c.in_ok-written.ensures in
    let removed_are : AreWritten removed (filter_map (slot_of state) changed) = subst (λ (some : List CatKey). AreWritten removed (filter_map (slot_of state) some)) c.as_slice-2.ensures c.in_ok-written-2.ensures in
    let found = c.in_ok-changed.ensures in
    is_prepared state c.args.kept c.args.step.now c.requires.rules c.requires.formed accepted next c.in_ok-next.ensures changed found.0 found.1 found.2 put removed put_are removed_are
