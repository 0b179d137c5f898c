-- What was copied and what is left are all.
use Rattle.std.proofs.Common.{◌≡◌, ◌++◌}
use Rattle.mt_prepare.specs.Copies.{with_new_tables}
use Rattle.mt_prepare.proofs.Copied.{changed}
use Rattle.mt_prepare.proofs.copies.tenants_with.Given as goal

abbrev pub invariant-loop-number : goal.invariant-loop-number
invariant-loop-number l = l.copied.entries ++ changed (with_new_tables l.bases) l.number-iterator ≡ changed (with_new_tables l.bases) l.tenants.entries
