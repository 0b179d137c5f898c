-- The bodies so far can be read.
use Rattle.std.proofs.Common.{◌≡◌, ℕ, ◌≤◌, List, length}
use Rattle.std.specs.Prelude.{All}
use Rattle.mt_rowfile.specs.Layouts.{body_width}
use Rattle.mt_rowfile.specs.Slots.{IsBody}
use Rattle.mt_prepare.proofs.tests.moving.Given as goal

abbrev pub invariant-loop-table : goal.invariant-loop-table
invariant-loop-table g l = record {
  tables : All (λ (body : ℕ × List ℕ). (8 ≤ body.0) × (body.0 ≤ 13)) l.bodies;
  widths : All (λ (body : ℕ × List ℕ). length body.1 ≡ body_width body.0) l.bodies;
  readable : All (λ (body : ℕ × List ℕ). IsBody body.0 body.1) l.bodies;
}
