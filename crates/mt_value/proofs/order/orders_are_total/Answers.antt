-- Each law is a lemma of the definitions.
use Rattle.mt_value.specs.Laws.{value_order-total, value_order-exact, row_order-total, row_order-exact, compare_of-swapped, compare_of-negated}
use Rattle.mt_value.proofs.order.orders_are_total.Goals as goal

pub returns-clause-values_total : goal.returns-clause-values_total
returns-clause-values_total c = value_order-total

pub returns-clause-values_exact : goal.returns-clause-values_exact
returns-clause-values_exact c = value_order-exact

pub returns-clause-rows_total : goal.returns-clause-rows_total
returns-clause-rows_total c = row_order-total

pub returns-clause-rows_exact : goal.returns-clause-rows_exact
returns-clause-rows_exact c = row_order-exact

pub returns-clause-swapped : goal.returns-clause-swapped
returns-clause-swapped c = compare_of-swapped

pub returns-clause-negated : goal.returns-clause-negated
returns-clause-negated c = compare_of-negated
