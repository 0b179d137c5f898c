-- By the rules of the table.
use Rattle.std.proofs.Common.{◌≡◌, ℕ, Some, sym, ap, ◌∙◌, arith}
use Rattle.mt_catalog.specs.declared.state.TenantTable.{TenantTable}
use Rattle.mt_catalog.specs.State.{State, tenant_table}
use Rattle.mt_schema.specs.Changed.{table_keys}
use Rattle.mt_prepare.proofs.Grown.{few_extended, first_is, keys_are}
use Rattle.mt_prepare.proofs.changed.added_keys.Goals as goal

pub overflow_cast-position : goal.overflow_cast-position
overflow_cast-position c =
    let few = few_extended c.args.catalog.now c.requires.rules c.args.tenant c.args.extension.now.base c.in-Some.table.now (sym c.in-Some.ensures) in
    omega (arith, few, c.len-position.ensures)

pub overflow_cast-first : goal.overflow_cast-first
overflow_cast-first c =
    let few = (first_is c.args.catalog.now c.requires.rules c.args.tenant c.args.extension.now.base c.in-Some.table.now (sym c.in-Some.ensures) c.width_of-first.result c.width_of-first.ensures).1 in
    omega (arith, few)

pub add_fields-requires : goal.add_fields-requires
add_fields-requires c =
    let few = (first_is c.args.catalog.now c.requires.rules c.args.tenant c.args.extension.now.base c.in-Some.table.now (sym c.in-Some.ensures) c.width_of-first.result c.width_of-first.ensures).1 in
    omega (arith, few, c.len-count.ensures, c.requires.few)

pub returns : goal.returns
returns c =
    let state : State = c.args.catalog.now in
    let base : ℕ = c.args.extension.now.base in
    let table : TenantTable = c.in-Some.table.now in
    let there : tenant_table state c.args.tenant base ≡ Some table = sym c.in-Some.ensures in
    let first = (first_is state c.requires.rules c.args.tenant base table there c.width_of-first.result c.width_of-first.ensures).0 in
    keys_are state c.requires.rules c.args.tenant base table there c.add_fields.new.changed c.push.new.self c.new-changed.result c.len-position.result c.width_of-first.result
    c.generation_of-generation.result c.len-count.result c.new-changed.ensures c.in_ok-push.ensures.ok c.in_ok-add_fields.ensures c.len-position.ensures first c.generation_of-generation.ensures
    ∙ ap (λ (count : ℕ). table_keys state c.args.tenant base count (tenant_table state c.args.tenant base)) c.len-count.ensures
