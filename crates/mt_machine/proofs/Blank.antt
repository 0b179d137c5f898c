-- The disk on which nothing was written.
use Rattle.std.proofs.Common.{◌≡◌, ℕ, List, [], refl, ap₂, ◌∙◌}
use Rattle.std.proofs.Math.Path.{fun_ext}
use Rattle.mt_machine.specs.declared.machine.Area.{Area}
use Rattle.mt_machine.specs.declared.machine.Area.TheVariants.{Log, Pages}
use Rattle.mt_machine.specs.Image.{blank_disk, disk_of}

-- one area of it
blank-at : (area : Area) (k : ℕ) → disk_of [] [] area k ≡ blank_disk area k
blank-at Log k = refl
blank-at Pages k = refl

-- areas of no bytes read zero everywhere
pub disk_of-blank : (log pages : List ℕ) → log ≡ [] → pages ≡ [] → disk_of log pages ≡ blank_disk
disk_of-blank log pages no_log no_pages = ap₂ (λ one other. disk_of one other) no_log no_pages ∙ fun_ext (λ area. fun_ext (λ k. blank-at area k))
