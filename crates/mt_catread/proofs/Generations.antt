-- A table that moves from a generation that there is not is of no catalogue.
use Rattle.std.proofs.Common.{◌≡◌, ℕ, ◌<◌, ◌≤◌, List, Option, None, Some, refl, sym, ap, ◌∙◌, arith}
use Rattle.mt_fold.specs.declared.fold.Placement.{Placement}
use Rattle.mt_fold.specs.declared.fold.Placement.TheVariants as placements
use Rattle.mt_fold.specs.Placements.{IsValidPlacement}
use Rattle.mt_tree.specs.declared.schema.Column.{Column}
use Rattle.mt_catslot.specs.declared.slot.Motion.{Motion}
use Rattle.mt_catslot.specs.declared.slot.Motion.TheVariants as motions
use Rattle.mt_catslot.specs.declared.slot.CatKey.TheVariants as keys
use Rattle.mt_catalog.specs.declared.state.TenantTable.{TenantTable}
use Rattle.mt_catalog.specs.State.{tenant_table}
use Rattle.mt_catalog.specs.Slots.{motion_of, placement_slot}
use Rattle.mt_catalog.specs.Found.{Found, IsOfNone, placement_found}
use Rattle.mt_catalog.proofs.Chunks.{table_keeps}

-- the generation from which a table moves
moved_from : Motion → ℕ
moved_from (motions.Settled generation) = 0
moved_from (motions.Moving generation frontier upto) = generation

moved_in : Option (ℕ × Motion) → ℕ
moved_in None = 0
moved_in (Some placed) = moved_from placed.1

small_in : (placement : Placement) (columns : List Column) (base_len : ℕ) → IsValidPlacement placement columns base_len → moved_from (motion_of placement) ≤ 1
unfolding moved_from
small_in (placements.Settled generation fold) columns base_len valid = omega arith
small_in (placements.Moving generation before after frontier upto) columns base_len valid = valid.0

pub large_generation : (found : Found) (tenant base made generation frontier upto : ℕ) → placement_found (found (keys.Placement tenant base)) ≡ Some (made, motions.Moving generation frontier upto)
    → 1 < generation → IsOfNone found
unfolding moved_in moved_from
large_generation found tenant base made generation frontier upto placed large state is = by (tenant_table state tenant base) refl (sym (ap placement_found (is.same (keys.Placement tenant base))) ∙ placed)
  where
    by : (o : Option TenantTable) → tenant_table state tenant base ≡ o → placement_found (placement_slot tenant base o) ≡ Some (made, motions.Moving generation frontier upto) → ⊥
    by None e f = cc
    by (Some table) e f =
        let small : moved_from (motion_of table.placement) ≤ 1 = small_in table.placement _ _ (table_keeps found state is tenant base table e).placement in
        let same : moved_from (motion_of table.placement) ≡ generation = ap moved_in f in
        omega (arith, small, same, large)
