-- One field more.
use Rattle.std.proofs.Common.{◌≡◌, ℕ, ◌∙◌, List, [], ◌∷◌, ◌++◌, length, Option, Some, sym, ap, subst, arith}
use Rattle.std.specs.Prelude.{slice_get}
use Rattle.std.proofs.lemmas.List.{length-append}
use Rattle.mt_fold.specs.declared.shape.Shape.{Shape}
use Rattle.mt_catslot.specs.declared.slot.CatKey.TheVariants as keys
use Rattle.mt_catalog.specs.Found.{field_found}
use Rattle.mt_catalog.specs.Keyed.{slot_in}
use Rattle.mt_catalog.proofs.Runs.{run_pushed}
use Rattle.mt_catread.proofs.folds.read_fields.Goals as goal

pub loop-column-preserved : goal.loop-column-preserved
loop-column-preserved c =
    let fields : List (Option (Shape × ℕ × ℕ)) = c.loop-column.fields in
    let pushed : c.push.new.self ≡ fields ++ c.field_at.result ∷ [] = c.in_ok-push.ensures.ok in
    let stands : ℕ → Option (Shape × ℕ × ℕ) → Type 0 = λ n field. field_found (slot_in c.args.slots.now.entries (keys.Field c.args.tenant c.args.base c.args.generation n)) ≡ field in
    record {
      size = ap length pushed ∙ omega (arith, length-append fields (c.field_at.result ∷ []), c.loop-column.invariant.size);
      each = λ n field is. run_pushed stands fields c.field_at.result c.loop-column.invariant.each
          (subst (λ (n : ℕ). stands n c.field_at.result) (sym c.loop-column.invariant.size) (sym c.field_at.ensures)) n field (subst (λ (of : List (Option (Shape × ℕ × ℕ))). slice_get of n ≡ Some field) pushed is);
    }
