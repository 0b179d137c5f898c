use Rattle.std.proofs.Common.{◌≡◌, ℕ, ◌<◌, Bool, true, false, cond, length, slice_index, refl, sym, ap, ◌∙◌, arith}
use Rattle.std.specs.Prelude.{nat_lt}
use Rattle.std.proofs.lemmas.Bool.Decides.{nat_tests}
use Rattle.mt_chunkstore.specs.Standing.{used_after}
use Rattle.mt_chunkstore.proofs.commit.count_slots.Goals as goal

pub returns : goal.returns
returns c = λ t few. c.loop-table.invariant t ∙ by t few (nat_lt t c.loop-table.table) refl
  where
    by : (t : ℕ) → t < 32 → (b : Bool) → nat_lt t c.loop-table.table ≡ b
        → cond b (used_after (slice_index c.args.used.now t) (slice_index c.args.group.now.taken t) (slice_index c.args.group.now.freed t)) (slice_index c.args.used.now t)
        ≡ used_after (slice_index c.args.used.now t) (slice_index c.args.group.now.taken t) (slice_index c.args.group.now.freed t)
    by t few true is = refl
    by t few false is = absurd (let done = c.loop-table-test.false in grind (arith, nat_tests, is, few, done))
