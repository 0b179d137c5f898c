-- A row is inserted where the tests of the tenant's database pass, and else nothing is changed.
use Rattle.std.proofs.Common.{◌≡◌, ℕ, List, Result, Ok, Err, arith, refl, sym, ap, ◌∙◌, subst}
use Rattle.std.specs.Option.{option_copied}
use Rattle.mt_value.specs.declared.value.Value.{Value}
use Rattle.mt_tree.specs.declared.code.Code.{Code}
use Rattle.mt_tree.specs.declared.expression.Literal.{Literal}
use Rattle.mt_tree.specs.declared.reply.Reply.TheVariants.{Memory, Refused, Text}
use Rattle.mt_tree.specs.declared.row.MarkedRow.{MarkedRow}
use Rattle.mt_tree.specs.declared.simple.SimpleStmt.TheVariants.{Insert}
use Rattle.mt_catalog.specs.declared.state.TenantEntry.{TenantEntry}
use Rattle.mt_catalog.specs.State.{State, table_in}
use Rattle.mt_model.specs.Request.{Statement}
use Rattle.mt_model.specs.Said.{Says}
use Rattle.mt_private.specs.Outcome.{IsAnswered}
use Rattle.mt_private.specs.Seen.{AddsRow, IsChecked, database_in, lists_of, view_in}
use Rattle.mt_private.proofs.Databases.{next_refused, within_refused}
use Rattle.mt_private.proofs.Inserted.{added, has_number, own_table}
use Rattle.mt_private.proofs.Keeping.{forgone, unchanged, unknown}
use Rattle.mt_private.proofs.insert.insert.Goals as goal

-- what was checked of the tenant's lists
told : (state : State) (entry : TenantEntry) (lists own : List (List MarkedRow)) (table : List ℕ) (literals : List Literal) (found result : Result (ℕ × List Value) Code) → lists ≡ own → found ≡ result
    → IsChecked (view_in state entry lists) (database_in entry lists) table literals found → IsChecked (view_in state entry own) (database_in entry own) table literals result
told state entry lists own table literals found result same is checked =
    subst (IsChecked (view_in state entry own) (database_in entry own) table literals) is
    (subst (λ (of : List (List MarkedRow)). IsChecked (view_in state entry of) (database_in entry of) table literals found) same checked)

pub returns-in_default : goal.returns-in_default
returns-in_default c =
    unknown c.parts_tell_the_service.ensures.databases c.args.catalog.now c.args.rows.now.entries c.args.tenant (sym c.tenant_of.ensures ∙ ap option_copied c.in_default.is)
    (Says (Insert c.args.table.now c.args.values))

pub insert_row-requires : goal.insert_row-requires
insert_row-requires c = λ table there.
    let lists = lists_of c.args.rows.now.entries c.args.tenant in
    let checked = told c.args.catalog.now c.in-Some.entry.now c.lists_of.result.now lists c.args.table.now c.args.values c.in-Ok-Ok.field-0 (Ok (c.in-Ok-Ok.base, c.in-Ok-Ok.row)) c.lists_of.ensures c.in-Ok-Ok.field-0-is c.in-Ok-Ok.ensures in
    let got = ap (table_in c.in-Ok-Ok.base) c.in-Some.ensures ∙ there in
    let within = has_number c.args.catalog.now c.in-Some.entry.now lists c.in-Ok-Ok.base table got c.args.table.now c.args.values checked.1 checked.0 in
    omega (arith, within)

pub returns-in-Ok : goal.returns-in-Ok
returns-in-Ok c =
    let entries = c.args.rows.now.entries in
    let lists = lists_of entries c.args.tenant in
    let checked = told c.args.catalog.now c.in-Some.entry.now c.lists_of.result.now lists c.args.table.now c.args.values c.in-Ok-Ok.field-0 (Ok (c.in-Ok-Ok.base, c.in-Ok-Ok.row)) c.lists_of.ensures c.in-Ok-Ok.field-0-is c.in-Ok-Ok.ensures in
    let there = sym c.in-Some.ensures in
    let own = own_table c.args.catalog.now c.in-Some.entry.now c.args.table.now c.in-Ok-Ok.base (c.requires.1.rules.tenants c.args.tenant c.in-Some.entry.now there).each_base checked.1 in
    let adds = subst (λ (values : List Value). AddsRow c.args.tenant c.in-Ok-Ok.base values entries c.insert_row.new.rows.entries) checked.2 c.in-Ok.ensures.added in
    subst (λ (of : State). IsAnswered c.args.catalog.now of entries c.insert_row.new.rows.entries (Statement c.args.tenant (Says (Insert c.args.table.now c.args.values))) (Text c.in-Ok.text)) (sym c.in-Ok.ensures.counted)
    (added c.parts_tell_the_service.ensures.databases c.inserted_rows_are_parts.ensures c.args.catalog.now entries c.insert_row.new.rows.entries c.args.tenant c.in-Ok-Ok.base c.in-Some.entry.now there
    own.0 own.1 c.args.table.now c.args.values checked.1 checked.0 adds c.in-Ok.text c.in-Ok.ensures.reply)

pub returns-in-Err-insert_row : goal.returns-in-Err-insert_row
returns-in-Err-insert_row c =
    subst (λ (of : State). IsAnswered c.args.catalog.now of c.args.rows.now.entries c.insert_row.new.rows.entries (Statement c.args.tenant (Says (Insert c.args.table.now c.args.values))) Memory)
    (sym c.in-Err-insert_row.ensures.same_catalog)
    (forgone c.parts_tell_the_service.ensures.databases c.args.catalog.now c.args.rows.now.entries c.args.tenant c.in-Some.entry.now (sym c.in-Some.ensures)
    c.insert_row.new.rows.entries (Says (Insert c.args.table.now c.args.values)) c.in-Err-insert_row.ensures.same_rows)

pub returns-in-Ok-Err : goal.returns-in-Ok-Err
returns-in-Ok-Err c =
    let lists = lists_of c.args.rows.now.entries c.args.tenant in
    let view = view_in c.args.catalog.now c.in-Some.entry.now lists in
    let database = database_in c.in-Some.entry.now lists in
    let refused = told c.args.catalog.now c.in-Some.entry.now c.lists_of.result.now lists c.args.table.now c.args.values c.in-Ok-Err.field-0 (Err c.in-Ok-Err.code) c.lists_of.ensures c.in-Ok-Err.field-0-is c.in-Ok-Err.ensures in
    unchanged c.parts_tell_the_service.ensures.databases c.args.catalog.now c.args.rows.now.entries c.args.tenant c.in-Some.entry.now (sym c.in-Some.ensures)
    (Says (Insert c.args.table.now c.args.values)) (Refused c.in-Ok-Err.code) (sym (within_refused view database (Insert c.args.table.now c.args.values) c.in-Ok-Err.code refused))
    (next_refused view database (Insert c.args.table.now c.args.values) c.in-Ok-Err.code refused)

pub returns-in-Err : goal.returns-in-Err
returns-in-Err c =
    forgone c.parts_tell_the_service.ensures.databases c.args.catalog.now c.args.rows.now.entries c.args.tenant c.in-Some.entry.now (sym c.in-Some.ensures)
    c.args.rows.now.entries (Says (Insert c.args.table.now c.args.values)) (λ tenant base. refl)
