-- The columns so far are as they are defined.
use Rattle.std.proofs.Common.{◌≡◌, map, take}
use Rattle.mt_schema.specs.Steps.{column_of}
use Rattle.mt_prepare.proofs.definitions.columns_of.Given as goal

abbrev pub invariant-loop-def : goal.invariant-loop-def
invariant-loop-def l = l.columns ≡ map (column_of l.key) (take l.def-index l.defs)
