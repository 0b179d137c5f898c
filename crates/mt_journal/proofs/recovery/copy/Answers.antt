use Rattle.std.proofs.Common.{◌≡◌, ℕ, ◌∙◌, ◌+◌, ◌≤◌, IsTrue, length, take, arith, subst, length-take}
use Rattle.mt_machine.specs.declared.machine.Area.TheVariants.{Pages}
use Rattle.mt_journal.specs.Steps.{Changes, IsCopied}
use Rattle.mt_journal.proofs.Copies.{copied_more}
use Rattle.mt_journal.proofs.Torn.{changes_join}
use Rattle.mt_journal.proofs.recovery.copy.Goals as goal

pub loop-done-preserved : goal.loop-done-preserved
loop-done-preserved g c =
    let n = c.min-size.result in
    let within : c.loop-done.done + n ≤ c.args.count = omega arith in
    let size : length (take n c.loop-done.buffer) ≡ n = omega (arith, length-take n c.loop-done.buffer) in
    let change = subst (λ (k : ℕ). Changes Pages (c.args.to + c.loop-done.done) k (g.M.Machine.meaning c.loop-done.m) (g.M.Machine.meaning c.copy_through.new.m)) size c.copy_through.ensures.changes in
    let piece = subst (λ (k : ℕ). IsTrue (g.M.Machine.meaning c.copy_through.new.m).tells → IsCopied (c.args.from + c.loop-done.done) (c.args.to + c.loop-done.done) k (g.M.Machine.meaning c.loop-done.m).content (g.M.Machine.meaning c.copy_through.new.m).content) size c.in_ok-copy_through.ensures.copied in
    record {
      within = within;
      changes = changes_join Pages c.args.to c.args.count c.args.to c.args.count (c.args.to + c.loop-done.done) n _ _ _ (omega arith) (omega arith) (omega arith) (omega arith) c.loop-done.invariant.changes change;
      faults = c.in_ok-copy_through.ensures.cause.none ∙ c.loop-done.invariant.faults;
      beneath = g.met.M.Machine.beneath_both _ _ _ c.loop-done.invariant.beneath c.copy_through.ensures.beneath;
      copied = copied_more _ _ _ c.args.from c.args.to c.args.count c.loop-done.done n c.loop-done.invariant.changes c.loop-done.invariant.copied change piece;
    }
