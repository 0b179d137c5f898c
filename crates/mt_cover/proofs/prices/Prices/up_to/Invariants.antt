use Rattle.std.proofs.Common.{◌≡◌, length}
use Rattle.mt_cover.specs.Steps.{ArePrices}
use Rattle.mt_cover.proofs.prices.Prices.up_to.Given as goal

abbrev pub invariant-loop-place : goal.invariant-loop-place
invariant-loop-place l = record {
  wide : l.table.width ≡ l.width;
  long : length l.table.prices.items ≡ l.place;
  priced : ArePrices l.table.width l.table.prices.items;
}
