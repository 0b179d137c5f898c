-- By the price at the place of so many.
use Rattle.mt_cover.proofs.Places.{price_read}
use Rattle.mt_cover.proofs.prices.Prices.cost.Goals as goal

pub returns : goal.returns
returns c = price_read c.args.self.now.width c.args.wanted.numbers c.args.wanted.texts c.args.self.now.prices.items c.index.result.now c.requires.prices c.requires.width c.requires.known c.index.ensures
