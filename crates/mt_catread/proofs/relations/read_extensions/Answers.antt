-- One extension more was found; a sixty-fifth is none of a catalogue.
use Rattle.std.proofs.Common.{◌≡◌, ℕ, ◌≤◌, ◌∙◌, List, [], ◌∷◌, ◌++◌, length, None, Some, sym, ap, subst, arith, rules}
use Rattle.std.specs.Prelude.{slice_get}
use Rattle.std.proofs.lemmas.List.{length-append}
use Rattle.std.proofs.lemmas.List.Elements.{All-push}
use Rattle.mt_catslot.specs.declared.slot.Class.TheVariants as classes
use Rattle.mt_catslot.specs.declared.slot.CatKey.TheVariants as keys
use Rattle.mt_catalog.specs.declared.state.Extension.{Extension}
use Rattle.mt_catalog.specs.Found.{IsFoundExtension, relation_found}
use Rattle.mt_catalog.specs.Keyed.{slot_in}
use Rattle.mt_catalog.specs.Small.{AreNarrow}
use Rattle.mt_catalog.proofs.Limits.{too_many_extensions}
use Rattle.mt_catalog.proofs.Runs.{run_pushed}
use Rattle.mt_catread.proofs.relations.read_extensions.Goals as goal

pub returns-in_default-clause-ok : goal.returns-in_default-clause-ok
returns-in_default-clause-ok c = record {
  each = c.loop-number.invariant.each;
  ending = subst (λ (n : ℕ). relation_found (slot_in c.args.slots.now.entries (keys.Relation classes.Extension n)) ≡ None) (sym c.loop-number.invariant.size) (search rules);
}

pub loop-number-preserved : goal.loop-number-preserved
loop-number-preserved c =
    let made : Extension = record { name = c.in-Some.name; base = c.in-Some.base; columns = c.in_ok-columns.columns } in
    let extensions : List Extension = c.loop-number.extensions in
    let pushed : c.push.new.self ≡ extensions ++ made ∷ [] = c.in_ok-push.ensures.ok in
    let here : IsFoundExtension (slot_in c.args.slots.now.entries) c.loop-number.number made = record { named = search rules; columns = c.in_ok-columns.ensures.ok } in
    record {
      size = ap length pushed ∙ omega (arith, length-append extensions (made ∷ []), c.loop-number.invariant.size);
      each = λ n extension is. run_pushed (IsFoundExtension (slot_in c.args.slots.now.entries)) extensions made c.loop-number.invariant.each
          (subst (λ (n : ℕ). IsFoundExtension (slot_in c.args.slots.now.entries) n made) (sym c.loop-number.invariant.size) here) n extension (subst (λ (of : List Extension). slice_get of n ≡ Some extension) pushed is);
      narrow = subst AreNarrow (sym pushed) (All-push (λ (extension : Extension). length extension.columns ≤ 16) extensions made c.loop-number.invariant.narrow c.in_ok-columns.ensures.few);
    }

pub returns-clause-damaged : goal.returns-clause-damaged
returns-clause-damaged c damaged = too_many_extensions (slot_in c.args.slots.now.entries) c.loop-number.extensions
    (omega (arith, c.loop-number.invariant.size, c.loop-number-test.false, c.loop-number.auto.number-end)) c.loop-number.invariant.each
