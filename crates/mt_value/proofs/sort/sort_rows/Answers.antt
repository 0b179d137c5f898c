-- The sort gives a permutation in row order, and there is one such list.
use Rattle.std.proofs.Common.{rules, ap, ◌∙◌}
use Rattle.std.proofs.lemmas.List.Sorted.{ranks_by, answers_always}
use Rattle.std.specs.List.Sorted.{IsSortedBy}
use Rattle.mt_value.specs.Laws.{row_order-total}
use Rattle.mt_value.specs.Sorted.{row_before, in_row_order, in_row_order-from_sorted}
use Rattle.mt_value.proofs.sort.sort_rows.Goals as goal

-- each comparison answers by the row order, so the sort is by it
ascending : (c : goal.After-from_vec) → IsSortedBy row_before c.sort_by.new.self.items
ascending c = c.in_ok-sort_by.ensures.sorted row_before (ranks_by row_order-total (λ row. row)) (answers_always _ _ _ (λ f a r g h. search rules))

pub returns-clause-value : goal.returns-clause-value
returns-clause-value c =
    c.from_vec.ensures ∙ in_row_order-from_sorted _ _ c.in_ok-sort_by.ensures.permutation (ascending c) ∙ ap in_row_order c.into_vec-members.ensures

pub returns-clause-ascending : goal.returns-clause-ascending
returns-clause-ascending c = let up = ascending c in search rules
