-- What is known of the changes so far, with those that are left.
use Rattle.std.proofs.Common.{◌≡◌, ℕ, ◌+◌, ◌&&◌, ◌||◌, [], drop}
use Rattle.std.specs.List.{count_by, list_any}
use Rattle.mt_places.specs.Held.{table_in}
use Rattle.mt_places.specs.Named.{is_of, is_put}
use Rattle.mt_places.proofs.table_list.TableList.asked.Given as goal

abbrev pub invariant-loop-change : goal.invariant-loop-change
invariant-loop-change l = record {
  named : (t : ℕ) → ((table_in l.tables t).named || list_any (is_of t) (drop l.change-index l.changes)) ≡ list_any (is_of t) l.changes;
  wanted : (t : ℕ) → (table_in l.tables t).wanted + count_by (λ change. is_put change && is_of t change) (drop l.change-index l.changes) ≡ count_by (λ change. is_put change && is_of t change) l.changes;
  free : (t : ℕ) → (table_in l.tables t).free ≡ [];
}
