-- The tests are those of the tenant's database.
use Rattle.std.proofs.Common.{length, sym, ap, ◌∙◌, subst}
use Rattle.std.proofs.lemmas.List.{length-map}
use Rattle.mt_catalog.specs.State.{extended_columns}
use Rattle.mt_model.specs.Tables.{fit_columns, value_of}
use Rattle.mt_private.specs.Kept.{IsKeptTable}
use Rattle.mt_private.specs.Seen.{kept_in}
use Rattle.mt_private.proofs.Databases.{fit_length, fitted, misfit}
use Rattle.mt_private.proofs.insert.checked.Goals as goal

pub returns-then-not-fit_columns : goal.returns-then-not-fit_columns
returns-then-not-fit_columns c =
    let columns = c.as_slice-columns.ensures ∙ c.in_ok-columns.ensures ∙ ap (extended_columns c.args.catalog.now c.in-Some.base) c.as_slice.ensures in
    let fits = sym (c.fit_columns.ensures ∙ ap (λ of. fit_columns of c.as_slice-2.result.now) columns ∙ ap (fit_columns (extended_columns c.args.catalog.now c.in-Some.base c.get-own.result.now.extended)) c.as_slice-2.ensures) ∙ c.if-not-fit_columns.true in
    misfit c.args.catalog.now c.args.entry.now c.args.lists.now c.in-Some.base c.get-own.result.now c.get-own.ensures c.args.table.now c.args.values (sym c.in-Some.ensures) fits

pub row_refusal-requires-clause-kept : goal.row_refusal-requires-clause-kept
row_refusal-requires-clause-kept c =
    let columns = c.as_slice-columns.ensures ∙ c.in_ok-columns.ensures ∙ ap (extended_columns c.args.catalog.now c.in-Some.base) c.as_slice.ensures in
    let kept = c.requires.tables c.in-Some.base c.get-own.result.now c.get-own.ensures in
    subst (λ of. IsKeptTable of c.rows_at.result.now) (sym columns)
    (subst (IsKeptTable (extended_columns c.args.catalog.now c.in-Some.base c.get-own.result.now.extended)) (sym c.rows_at.ensures) kept)

pub row_refusal-requires-clause-whole : goal.row_refusal-requires-clause-whole
row_refusal-requires-clause-whole c =
    let fits = sym (c.fit_columns.ensures ∙ ap (fit_columns c.as_slice-columns.result.now) c.as_slice-2.ensures) ∙ c.if-not-fit_columns.false in
    ap length (c.as_slice-3.ensures ∙ c.in_ok-row.ensures) ∙ length-map c.args.values value_of ∙ fit_length c.as_slice-columns.result.now c.args.values fits

pub returns-in-None : goal.returns-in-None
returns-in-None c =
    let columns = c.as_slice-columns.ensures ∙ c.in_ok-columns.ensures ∙ ap (extended_columns c.args.catalog.now c.in-Some.base) c.as_slice.ensures in
    let fits = sym (c.fit_columns.ensures ∙ ap (λ of. fit_columns of c.as_slice-2.result.now) columns ∙ ap (fit_columns (extended_columns c.args.catalog.now c.in-Some.base c.get-own.result.now.extended)) c.as_slice-2.ensures) ∙ c.if-not-fit_columns.false in (
      fitted c.args.catalog.now c.args.entry.now c.args.lists.now c.in-Some.base c.get-own.result.now c.get-own.ensures c.args.table.now c.args.values (sym c.in-Some.ensures) fits
          c.as_slice-columns.result.now c.rows_at.result.now c.as_slice-3.result.now (kept_in c.args.lists.now c.len.result) columns c.rows_at.ensures (c.as_slice-3.ensures ∙ c.in_ok-row.ensures) (ap (kept_in c.args.lists.now) c.len.ensures)
          ∙ sym (c.in-None.ensures c.args.entry.now.quota (kept_in c.args.lists.now c.len.result) c.has_room-has_room.ensures),
      sym c.in-Some.ensures,
      c.in_ok-row.ensures,
    )

pub returns : goal.returns
returns c =
    let columns = c.as_slice-columns.ensures ∙ c.in_ok-columns.ensures ∙ ap (extended_columns c.args.catalog.now c.in-Some.base) c.as_slice.ensures in
    let fits = sym (c.fit_columns.ensures ∙ ap (λ of. fit_columns of c.as_slice-2.result.now) columns ∙ ap (fit_columns (extended_columns c.args.catalog.now c.in-Some.base c.get-own.result.now.extended)) c.as_slice-2.ensures) ∙ c.if-not-fit_columns.false in
    fitted c.args.catalog.now c.args.entry.now c.args.lists.now c.in-Some.base c.get-own.result.now c.get-own.ensures c.args.table.now c.args.values (sym c.in-Some.ensures) fits
    c.as_slice-columns.result.now c.rows_at.result.now c.as_slice-3.result.now (kept_in c.args.lists.now c.len.result) columns c.rows_at.ensures (c.as_slice-3.ensures ∙ c.in_ok-row.ensures) (ap (kept_in c.args.lists.now) c.len.ensures)
    ∙ sym (c.in-Some-row_refusal.ensures c.args.entry.now.quota (kept_in c.args.lists.now c.len.result) c.has_room-has_room.ensures)
