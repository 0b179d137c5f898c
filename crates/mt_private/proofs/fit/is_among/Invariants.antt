use Rattle.std.proofs.Common.{◌≡◌, All, length}
use Rattle.std.specs.List.{list_any}
use Rattle.std.specs.Ordering.{is_eq}
use Rattle.mt_value.specs.Order.{row_order}
use Rattle.mt_tree.specs.declared.row.MarkedRow.{MarkedRow}
use Rattle.mt_tree.specs.Rows.{key_of, visible_of}
use Rattle.mt_private.proofs.fit.is_among.Given as goal

abbrev pub invariant-loop-row : goal.invariant-loop-row
invariant-loop-row l = record {
  whole : All (λ (row : MarkedRow). length row.values ≡ length l.columns) l.rest;
  left : list_any (λ (row : MarkedRow). is_eq (row_order (key_of l.columns row.values) (key_of l.columns l.values))) (visible_of l.rest)
      ≡ list_any (λ (row : MarkedRow). is_eq (row_order (key_of l.columns row.values) (key_of l.columns l.values))) (visible_of l.fn.rows);
}

abbrev pub decreases-loop-row : goal.decreases-loop-row
decreases-loop-row l = length l.rest
