-- The layouts that a catalogue calls for are ones that tables can have.
use Rattle.std.proofs.Common.{◌≡◌, ◌-◌, Bool, true, false, nat_le, Option, Some, None, refl, arith}
use Rattle.std.proofs.lemmas.List.{length-map}
use Rattle.std.specs.Prelude.{IfSome, if◌then◌else◌, option_map, slice_get}
use Rattle.mt_rowfile.specs.declared.layout.Layout.{Layout}
use Rattle.mt_rowfile.specs.declared.layout.Head.TheVariants.{Conventional}
use Rattle.mt_rowfile.specs.Layouts.{IsLayout}
use Rattle.mt_tables.specs.Rows.{AreKnown}
use Rattle.mt_tree.specs.declared.schema.Column.{Column}
use Rattle.mt_tree.specs.declared.schema.Table.{Table}
use Rattle.mt_catalog.specs.Rules.{IsBase, IsCatalogue}
use Rattle.mt_catalog.specs.State.{State}
use Rattle.mt_catalog.proofs.Limits.{member_keeps}
use Rattle.mt_rows.specs.Rules.{conventional_kind}
use Rattle.mt_image.specs.Layouts.{conventional_layout, known_of}

-- a layout by which rows stand
abbrev IsOfBase : Layout → Type 0
IsOfBase layout = (layout.head ≡ Conventional) × IsLayout layout

base_layout : (table : Table) → IsBase table → IsOfBase (conventional_layout table)
base_layout table is =
    let few = is.columns.few in
    (refl, record { few = omega (arith, few, length-map table.columns (λ (column : Column). conventional_kind column.kind)); head_fits = tt })

pub catalogue_known : (state : State) → IsCatalogue state → AreKnown (known_of state)
catalogue_known state is table = by (nat_le 16 table)
  where
    found : (o : Option Table) → slice_get state.bases (table - 16) ≡ o → IfSome (option_map conventional_layout o) IsOfBase
    found None e = tt
    found (Some base) e = base_layout base (member_keeps IsBase state.bases (table - 16) base is.bases e)

    by : (b : Bool) → IfSome (if b then option_map conventional_layout (slice_get state.bases (table - 16)) else None) IsOfBase
    by true = found (slice_get state.bases (table - 16)) refl
    by false = tt
