-- The bodies stay, and each table that is added is one less to add.
use Rattle.std.proofs.Common.{◌≡◌, ◌+◌, ◌-◌, length}
use Rattle.mt_places.specs.Held.{all_bodies}
use Rattle.mt_places.proofs.body_places.reach_table.Given as goal

abbrev pub invariant-loop-alloc : goal.invariant-loop-alloc
invariant-loop-alloc l = all_bodies l.tables.items ≡ all_bodies l.initial.tables.items

abbrev pub decreases-loop-alloc : goal.decreases-loop-alloc
decreases-loop-alloc l = l.table + 1 - length l.tables.items
