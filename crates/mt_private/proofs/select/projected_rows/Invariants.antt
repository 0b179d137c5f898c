use Rattle.std.proofs.Common.{◌≡◌, map, filter, take}
use Rattle.mt_model.specs.Answer.{projected}
use Rattle.mt_private.proofs.select.projected_rows.Given as goal

abbrev pub invariant-loop-row : goal.invariant-loop-row
invariant-loop-row l = l.found ≡ map (projected l.places) (map (λ row. row.values) (filter (λ row. row.visible) (take l.row-index l.rows)))
