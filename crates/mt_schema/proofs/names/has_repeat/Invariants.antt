-- The names so far stand apart.
use Rattle.std.proofs.Common.{◌≡◌, ◌++◌, length}
use Rattle.mt_catalog.specs.Rules.{AreApart}
use Rattle.mt_schema.proofs.names.has_repeat.Given as goal

abbrev pub invariant-loop-first : goal.invariant-loop-first
invariant-loop-first l = record { all : l.seen.keys ++ l.rest ≡ l.names; apart : AreApart l.seen.keys }

abbrev pub decreases-loop-first : goal.decreases-loop-first
decreases-loop-first l = length l.rest
