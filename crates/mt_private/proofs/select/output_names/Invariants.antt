use Rattle.std.proofs.Common.{◌≡◌, map, take}
use Rattle.mt_private.proofs.select.output_names.Given as goal

abbrev pub invariant-loop-column : goal.invariant-loop-column
invariant-loop-column l = l.heads ≡ map (λ column. column.name) (take l.column-index l.columns)
