-- The reply is that of the tenant's database.
use Rattle.std.proofs.Common.{List, sym, ap, ◌∙◌}
use Rattle.std.specs.Prelude.{is_some}
use Rattle.std.specs.List.{list_all}
use Rattle.mt_tree.specs.declared.reply.Reply.TheVariants.{Text}
use Rattle.mt_tree.specs.declared.row.MarkedRow.{MarkedRow}
use Rattle.mt_tree.specs.declared.schema.Column.{Column}
use Rattle.mt_catalog.specs.State.{extended_columns}
use Rattle.mt_model.specs.Tables.{column_place}
use Rattle.mt_private.specs.Visible.{select_text_of}
use Rattle.mt_private.proofs.Databases.{select_done, select_unknown}
use Rattle.mt_private.proofs.select.selected.Goals as goal

pub returns-then-not-are_known : goal.returns-then-not-are_known
returns-then-not-are_known c =
    let columns = c.as_slice-columns.ensures ∙ c.in_ok-columns.ensures ∙ ap (extended_columns c.args.catalog.now c.in-Some.base) c.as_slice.ensures in
    let known = sym (c.are_known.ensures ∙ ap (λ (of : List Column). list_all (λ name. is_some (column_place of name)) c.as_slice-2.result.now) columns
    ∙ ap (list_all (λ name. is_some (column_place (extended_columns c.args.catalog.now c.in-Some.base c.get-own.result.now.extended) name))) c.as_slice-2.ensures) ∙ c.if-not-are_known.true in
    sym (select_unknown c.args.catalog.now c.args.entry.now c.args.lists.now c.in-Some.base c.get-own.result.now c.get-own.ensures c.args.table.now c.args.names (sym c.in-Some.ensures) known)

pub returns : goal.returns
returns c =
    let columns = c.as_slice-columns.ensures ∙ c.in_ok-columns.ensures ∙ ap (extended_columns c.args.catalog.now c.in-Some.base) c.as_slice.ensures in
    let known = sym (c.are_known.ensures ∙ ap (λ (of : List Column). list_all (λ name. is_some (column_place of name)) c.as_slice-2.result.now) columns
    ∙ ap (list_all (λ name. is_some (column_place (extended_columns c.args.catalog.now c.in-Some.base c.get-own.result.now.extended) name))) c.as_slice-2.ensures) ∙ c.if-not-are_known.false in
    ap Text (c.in_ok-text.ensures
    ∙ ap (λ (of : List Column). select_text_of of c.rows_at.result.now c.args.names) columns
    ∙ ap (λ (rows : List MarkedRow). select_text_of (extended_columns c.args.catalog.now c.in-Some.base c.get-own.result.now.extended) rows c.args.names) c.rows_at.ensures)
    ∙ sym (select_done c.args.catalog.now c.args.entry.now c.args.lists.now c.in-Some.base c.get-own.result.now c.get-own.ensures c.args.table.now c.args.names (sym c.in-Some.ensures) known)
