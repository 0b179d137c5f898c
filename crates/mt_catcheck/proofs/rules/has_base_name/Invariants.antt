-- What is left decides.
use Rattle.std.proofs.Common.{◌≡◌, length}
use Rattle.std.specs.Prelude.{map, bytes_eq}
use Rattle.std.specs.List.{list_any}
use Rattle.mt_catcheck.proofs.rules.has_base_name.Given as goal

abbrev pub invariant-loop-first : goal.invariant-loop-first
invariant-loop-first l = list_any (bytes_eq l.name) (map (λ table. table.name) l.rest) ≡ list_any (bytes_eq l.name) (map (λ table. table.name) l.fn.bases)

abbrev pub decreases-loop-first : goal.decreases-loop-first
decreases-loop-first l = length l.rest
