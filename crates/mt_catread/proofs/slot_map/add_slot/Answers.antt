-- By the test of keys.
use Rattle.std.proofs.Common.{◌≡◌, ◌∙◌, false, [], ◌∷◌, ◌++◌, Option, None, Some, refl, sym, ap, subst}
use Rattle.std.specs.Prelude.{IsSome, is_some}
use Rattle.indexmap.proofs.CallerLemmas.{insert_entry-new}
use Rattle.mt_catslot.specs.declared.slot.CatKey.{CatKey}
use Rattle.mt_catslot.specs.declared.slot.CatSlot.{CatSlot}
use Rattle.mt_catalog.specs.Keyed.{slot_in}
use Rattle.mt_catalog.proofs.ByKey.{derived_same, looked_up}
use Rattle.mt_catread.proofs.slot_map.add_slot.Goals as goal

none_there : (o : Option CatSlot) → is_some o ≡ false → o ≡ None
none_there None e = refl
none_there (Some slot) e = absurd (cc)

pub returns-then-contains_key-clause-damaged : goal.returns-then-contains_key-clause-damaged
returns-then-contains_key-clause-damaged c damaged =
    let entries = c.args.slots.now.entries in
    let key = c.key-key.result in
    subst (λ (key : CatKey). IsSome (slot_in entries key)) c.key-key.ensures
    (ap is_some (sym (looked_up _ key (derived_same key) entries)) ∙ sym c.contains_key.ensures ∙ c.if-contains_key.true)

pub returns-in-Ok-clause-apart : goal.returns-in-Ok-clause-apart
returns-in-Ok-clause-apart c =
    let entries = c.args.slots.now.entries in
    let key = c.key-key.result in
    subst (λ (key : CatKey). slot_in entries key ≡ None) c.key-key.ensures
    (none_there (slot_in entries key) (ap is_some (sym (looked_up _ key (derived_same key) entries)) ∙ sym c.contains_key.ensures ∙ c.if-contains_key.false))

pub returns-in-Ok-clause-ok : goal.returns-in-Ok-clause-ok
returns-in-Ok-clause-ok c =
    let entries = c.args.slots.now.entries in
    let key = c.key-key.result in
    let none = none_there (slot_in entries key) (ap is_some (sym (looked_up _ key (derived_same key) entries)) ∙ sym c.contains_key.ensures ∙ c.if-contains_key.false) in
    c.in-Ok.ensures.entries ∙ insert_entry-new _ c.args.slots.now key c.args.slot (looked_up _ key (derived_same key) entries ∙ none)
    ∙ ap (λ (key : CatKey). entries ++ (key, c.args.slot) ∷ []) c.key-key.ensures
