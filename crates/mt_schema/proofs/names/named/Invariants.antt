-- A name is among those so far, or is one of those that are left.
use Rattle.std.proofs.Common.{◌≡◌, ◌||◌, List, ℕ, length}
use Rattle.std.specs.Str.{bytes_eq}
use Rattle.indexmap.specs.IndexSet.{contains}
use Rattle.mt_schema.specs.Refusals.{def_names}
use Rattle.mt_schema.specs.Steps.{has_name}
use Rattle.mt_schema.proofs.names.named.Given as goal

abbrev pub invariant-loop-first : goal.invariant-loop-first
invariant-loop-first l = (name : List ℕ) → (contains bytes_eq l.names name || has_name (def_names l.rest) name) ≡ has_name (def_names l.fn.defs) name

abbrev pub decreases-loop-first : goal.decreases-loop-first
decreases-loop-first l = length l.rest
