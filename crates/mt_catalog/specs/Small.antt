-- Base tables and extensions of which there are few columns.
use Rattle.std.specs.Prelude.{◌≤◌, List, length, All}
use Rattle.mt_tree.specs.declared.schema.Table.{Table}
use Rattle.mt_catalog.specs.declared.state.Extension.{Extension}

-- at most 16 base tables of at most 16 columns each
pub record AreSmallBases (bases : List Table) : Type 0 where
  pub few : length bases ≤ 16
  pub narrow : All (λ table. length table.columns ≤ 16) bases

-- extensions of at most 16 columns each
abbrev pub AreNarrow : List Extension → Type 0
AreNarrow extensions = All (λ extension. length extension.columns ≤ 16) extensions
