-- The layouts that are known, as a list by table holds them.
use Rattle.std.specs.Prelude.{◌≡◌, ℕ, ◌<◌, ◌&&◌, nat_eq, nat_le, if◌then◌else◌, List, length, get_or, Option, None, Some}
use Rattle.mt_rowfile.specs.declared.layout.Layout.{Layout}
use Rattle.mt_tables.specs.Rows.{AreKnown, KnownLayouts, layout_of}

-- the layouts of conventional tables in a list of the layouts of all tables
abbrev pub known_in : List (Option Layout) → KnownLayouts
known_in layouts table = if nat_le 16 table && nat_le table 31 then get_or layouts table None else None

-- the list has the layout of each table, which each is one that a table can have
pub record AreLayouts (layouts : List (Option Layout)) : Type 0 where
  pub size : length layouts ≡ 32
  pub each : (table : ℕ) → table < 32 → get_or layouts table None ≡ layout_of (known_in layouts) table
  pub known : AreKnown (known_in layouts)

-- with the layout of one conventional table more
abbrev pub with_layout : ℕ → Layout → KnownLayouts → KnownLayouts
with_layout table layout known t = if nat_eq t table then Some layout else known t
