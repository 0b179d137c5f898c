-- The slots of tables with known layouts lie within their pages.
use Rattle.std.proofs.Common.{◌+◌, ◌*◌, ◌≤◌, Option, None, Some, arith}
use Rattle.std.proofs.Math.Nat.{mul-div-le}
use Rattle.mt_rowfile.specs.declared.layout.Head.{Head}
use Rattle.mt_rowfile.specs.declared.layout.Head.TheVariants.{Catalogue, Conventional, Chunk}
use Rattle.mt_rowfile.specs.declared.layout.Layout.{Layout}
use Rattle.mt_rowfile.specs.Layouts.{head_width, slot_width}
use Rattle.mt_tables.specs.Pages.{AreSlotSizes}
use Rattle.mt_tables.specs.Rows.{KnownLayouts, layout_of, sizes_of, slot_count_by, width_by}

head_some : (head : Head) → 1 ≤ head_width head
head_some (Catalogue table) = omega arith
head_some Conventional = omega arith
head_some Chunk = omega arith

width_some : (found : Option Layout) → 1 ≤ width_by found
width_some None = omega arith
width_some (Some layout) = let h = head_some layout.head in omega arith

all_within : (found : Option Layout) → width_by found * slot_count_by found + 8 ≤ 4096
all_within None = omega arith
all_within (Some layout) = let h = mul-div-le 4088 (slot_width layout) in omega arith

pub sizes_sound : (known : KnownLayouts) → AreSlotSizes (sizes_of known)
sizes_sound known = record { some = λ table. width_some (layout_of known table); within = λ table. all_within (layout_of known table) }
