use Rattle.std.proofs.Common.{◌≡◌, ◌+◌, ◌≤◌, ◌++◌}
use Rattle.mt_cover.specs.Steps.{shapes_for}
use Rattle.mt_cover.proofs.prices.Prices.shapes_for.Given as goal

abbrev pub invariant-loop-wanted : goal.invariant-loop-wanted
invariant-loop-wanted l = record {
  fewer_numbers : l.wanted.numbers ≤ l.fn.most.numbers;
  fewer_texts : l.wanted.texts ≤ l.fn.most.texts;
  goes_on : l.shapes ++ shapes_for l.wanted.numbers l.wanted.texts ≡ shapes_for l.fn.most.numbers l.fn.most.texts;
}

abbrev pub decreases-loop-wanted : goal.decreases-loop-wanted
decreases-loop-wanted l = l.wanted.numbers + l.wanted.texts
