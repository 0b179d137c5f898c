-- The reply is that of the tenant's database, which it leaves as it was.
use Rattle.std.proofs.Common.{List, refl, sym, ap, ◌∙◌}
use Rattle.std.specs.Option.{option_copied}
use Rattle.mt_tree.specs.declared.row.MarkedRow.{MarkedRow}
use Rattle.mt_tree.specs.declared.simple.SimpleStmt.TheVariants.{Select}
use Rattle.mt_model.specs.Answer.{answer_within}
use Rattle.mt_model.specs.Said.{Says}
use Rattle.mt_private.specs.Seen.{database_in, lists_of, view_in}
use Rattle.mt_private.proofs.Databases.{next_selected}
use Rattle.mt_private.proofs.Keeping.{forgone, unchanged, unknown}
use Rattle.mt_private.proofs.select.select.Goals as goal

pub returns-in_default : goal.returns-in_default
returns-in_default c =
    unknown c.parts_tell_the_service.ensures.databases c.args.catalog.now c.args.rows.now.entries c.args.tenant (sym c.tenant_of.ensures ∙ ap option_copied c.in_default.is)
    (Says (Select c.args.table.now c.args.names))

pub returns-in-Ok : goal.returns-in-Ok
returns-in-Ok c =
    let lists = lists_of c.args.rows.now.entries c.args.tenant in
    unchanged c.parts_tell_the_service.ensures.databases c.args.catalog.now c.args.rows.now.entries c.args.tenant c.in-Some.entry.now (sym c.in-Some.ensures)
    (Says (Select c.args.table.now c.args.names)) c.in-Ok.reply
    (c.in-Ok.ensures ∙ ap (λ (of : List (List MarkedRow)). answer_within (view_in c.args.catalog.now c.in-Some.entry.now of) (database_in c.in-Some.entry.now of) (Select c.args.table.now c.args.names)) c.lists_of.ensures)
    (next_selected (view_in c.args.catalog.now c.in-Some.entry.now lists) (database_in c.in-Some.entry.now lists) c.args.table.now c.args.names)

pub returns-in-Err : goal.returns-in-Err
returns-in-Err c =
    forgone c.parts_tell_the_service.ensures.databases c.args.catalog.now c.args.rows.now.entries c.args.tenant c.in-Some.entry.now (sym c.in-Some.ensures)
    c.args.rows.now.entries (Says (Select c.args.table.now c.args.names)) (λ tenant base. refl)
