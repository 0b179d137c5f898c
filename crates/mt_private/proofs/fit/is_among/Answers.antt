-- A row that does not show the key leaves the test to the others.
use Rattle.std.proofs.Common.{◌≡◌, Bool, true, false, cond, ◌&&◌, List, ◌∷◌, length, All, refl, sym, ap, ◌∙◌, subst}
use Rattle.std.specs.List.{list_any}
use Rattle.std.specs.Ordering.{is_eq}
use Rattle.std.proofs.lemmas.List.Elements.{All-tail}
use Rattle.mt_value.specs.Order.{row_order}
use Rattle.mt_tree.specs.declared.row.MarkedRow.{MarkedRow}
use Rattle.mt_tree.specs.Rows.{key_of, visible_of}
use Rattle.mt_private.proofs.fit.is_among.Goals as goal

passed : (test : MarkedRow → Bool) (row : MarkedRow) (rows : List MarkedRow) (b : Bool) → (b && test row) ≡ false → list_any test (cond b (row ∷ rows) rows) ≡ list_any test rows
passed test row rows true fails = cc
passed test row rows false fails = refl

pub loop-row-preserved : goal.loop-row-preserved
loop-row-preserved c =
    let test : MarkedRow → Bool = λ row. is_eq (row_order (key_of c.args.columns.now row.values) (key_of c.args.columns.now c.args.values.now)) in
    let fits : MarkedRow → Type 0 = λ row. length row.values ≡ length c.args.columns.now in
    record {
      whole = All-tail fits c.in-Some.row.now c.in-Some.others.now (subst (All fits) c.in-Some.ensures.cases.0 c.loop-row.invariant.whole);
      left =
          sym (passed test c.in-Some.row.now (visible_of c.in-Some.others.now) c.in-Some.row.now.visible (sym c.shows_key.ensures ∙ c.if-shows_key.false))
          ∙ sym (ap (λ rows. list_any test (visible_of rows)) c.in-Some.ensures.cases.0) ∙ c.loop-row.invariant.left;
    }
