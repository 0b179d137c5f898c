-- The code of a catalogue.
use Rattle.std.specs.Prelude.{List, refl}
use Rattle.std.specs.Coded.{Coded, code_by, coded×, coded_list, coded_ℕ}
use Rattle.std.specs.Ordering.{nat_cmp}
use Rattle.std.specs.FinMap as finite
use Rattle.mt_tree.specs.declared.schema.Table.{Table}
use Rattle.mt_tree.specs.contracts.schema.Table as table
use Rattle.mt_catalog.specs.declared.state.Extension.{Extension}
use Rattle.mt_catalog.specs.contracts.state.Extension as extension
use Rattle.mt_catalog.specs.declared.state.TenantEntry.{TenantEntry}
use Rattle.mt_catalog.specs.contracts.state.TenantEntry as entry
use Rattle.mt_catalog.specs.State.{State}

-- the base tables, the extensions, and the map of the tenants
abbrev pub state_code : Coded State
state_code =
    code_by (List Table × (List Extension × finite.FinMap nat_cmp TenantEntry)) (coded× (coded_list table.the_row.coded) (coded× (coded_list extension.the_row.coded) (finite.code coded_ℕ entry.the_row.coded)))
    (λ state. (state.bases, (state.extensions, state.tenants))) (λ parts. record { bases = parts.0; extensions = parts.1.0; tenants = parts.1.1 }) (λ _. refl)
