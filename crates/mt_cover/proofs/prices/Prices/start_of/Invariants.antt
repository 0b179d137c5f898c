use Rattle.mt_cover.proofs.Chosen.{IsBest}
use Rattle.mt_cover.proofs.prices.Prices.start_of.Given as goal

abbrev pub invariant-loop-shape : goal.invariant-loop-shape
invariant-loop-shape l = IsBest l.wanted.numbers l.wanted.texts l.shape-index l.best.price l.best.shape
