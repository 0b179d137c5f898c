-- The layouts of the conventional tables that a catalogue calls for.
use Rattle.std.specs.Prelude.{ℕ, ◌-◌, nat_le, if◌then◌else◌, slice_get, Option, None, option_map}
use Rattle.mt_rowfile.specs.declared.layout.Layout.{Layout}
use Rattle.mt_rowfile.specs.declared.layout.Head.TheVariants.{Conventional}
use Rattle.mt_tables.specs.Rows.{KnownLayouts}
use Rattle.mt_tree.specs.declared.schema.Table.{Table}
use Rattle.mt_catalog.specs.State.{State}
use Rattle.mt_rows.specs.Rules.{conventional_kinds}

-- no conventional table is known
abbrev pub none_known : KnownLayouts
none_known table = None

-- the layout of the conventional table of a base table
abbrev pub conventional_layout : Table → Layout
conventional_layout table = record { head = Conventional; kinds = conventional_kinds table.columns }

-- the conventional tables of a catalogue's base tables are known
abbrev pub known_of : State → KnownLayouts
known_of state table = if nat_le 16 table then option_map conventional_layout (slice_get state.bases (table - 16)) else None
