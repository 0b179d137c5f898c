-- A tenant of whom a copy is made.
use Rattle.std.specs.Prelude.{List, ◌++◌, map}
use Rattle.mt_tree.specs.declared.schema.Table.{Table}
use Rattle.mt_catalog.specs.declared.state.TenantEntry.{TenantEntry}
use Rattle.mt_schema.specs.Steps.{new_table}

-- with new tables of these base tables behind the others
abbrev pub with_new_tables : List Table → TenantEntry → TenantEntry
with_new_tables bases entry = record { quota = entry.quota; tables = entry.tables ++ map new_table bases }
