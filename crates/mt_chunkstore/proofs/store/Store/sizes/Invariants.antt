use Rattle.std.proofs.Common.{◌≡◌, ◌-◌, map, filter}
use Rattle.std.specs.List.{range_with_len}
use Rattle.mt_chunkstore.specs.Standing.{has_size, size_in}
use Rattle.mt_chunkstore.proofs.store.Store.sizes.Given as goal

-- the sizes of the tables so far
abbrev pub invariant-loop-table : goal.invariant-loop-table
invariant-loop-table l = l.sizes ≡ map (size_in l.fn.self) (filter (has_size l.fn.self) (range_with_len 1 (l.table - 1)))
