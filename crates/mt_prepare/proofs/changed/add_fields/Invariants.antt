-- The keys of the columns so far.
use Rattle.std.proofs.Common.{◌≡◌, ◌++◌, map}
use Rattle.std.specs.List.{range_with_len}
use Rattle.mt_catslot.specs.declared.slot.CatKey.TheVariants as keys
use Rattle.mt_prepare.proofs.changed.add_fields.Given as goal

abbrev pub invariant-loop-behind : goal.invariant-loop-behind
invariant-loop-behind l = l.changed ≡ l.fn.changed ++ map (λ column. keys.Field l.tenant l.base l.generation column) (range_with_len l.first l.behind)
