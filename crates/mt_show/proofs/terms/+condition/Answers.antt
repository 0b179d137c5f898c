-- Each level is printed as its tokens at its place.
use Rattle.std.proofs.Common.{arith}
use Rattle.std.proofs.lemmas.Grind.{common_steps}
use Rattle.mt_show.specs.Spaced.{spaced}
use Rattle.mt_lexer.specs.Tokens.{Word}
use Rattle.mt_show.specs.Shown.{cond_places}
use Rattle.mt_show.specs.Printing.{placed}
use Rattle.mt_show.proofs.PrintSteps.{member_printed}
use Rattle.mt_show.proofs.PrintLevels.{or_placed, and_placed, not_placed, comparison_placed, membership_placed, range_placed, likeness_placed, null_test_placed}
use Rattle.mt_show.proofs.terms.+condition.Goals as goal

pub condition-returns-in_ok-joined-in-Or : goal.condition-returns-in_ok-joined-in-Or
unfolding spaced
condition-returns-in_ok-joined-in-Or t c = rw (c.in-Or.is, or_placed c.args.place c.in-Or.members) (grind (arith, common_steps))

pub condition-returns-in_ok-joined-in-And : goal.condition-returns-in_ok-joined-in-And
unfolding spaced
condition-returns-in_ok-joined-in-And t c = rw (c.in-And.is, and_placed c.args.place c.in-And.members) (grind (arith, common_steps))

pub condition-returns-in_ok-word-in-Not : goal.condition-returns-in_ok-word-in-Not
unfolding spaced
condition-returns-in_ok-word-in-Not t c = rw (c.in-Not.is, not_placed c.args.place c.in-Not.inner) (grind (arith, common_steps))

pub condition-returns-in-Compare : goal.condition-returns-in-Compare
condition-returns-in-Compare t c = rw (c.in-Compare.is, comparison_placed c.args.place c.in-Compare.op c.in-Compare.left c.in-Compare.right) c.comparison.ensures

pub condition-returns-in-Member : goal.condition-returns-in-Member
condition-returns-in-Member t c = rw (c.in-Member.is, membership_placed c.args.place c.in-Member.negated c.in-Member.atom c.in-Member.list, ← c.as_slice-in-Member.ensures) c.membership.ensures

pub condition-returns-in-Between : goal.condition-returns-in-Between
condition-returns-in-Between t c = rw (c.in-Between.is, range_placed c.args.place c.in-Between.negated c.in-Between.atom c.in-Between.low c.in-Between.high) c.range.ensures

pub condition-returns-in-Like : goal.condition-returns-in-Like
condition-returns-in-Like t c = rw (c.in-Like.is, likeness_placed c.args.place c.in-Like.negated c.in-Like.atom c.in-Like.pattern) c.likeness.ensures

pub condition-returns-in-IsNull : goal.condition-returns-in-IsNull
condition-returns-in-IsNull t c = rw (c.in-IsNull.is, null_test_placed c.args.place c.in-IsNull.negated c.in-IsNull.atom) c.null_test.ensures

pub joined-loop-index-preserved : goal.joined-loop-index-preserved
joined-loop-index-preserved t c =
    member_printed (λ member. placed c.args.place (cond_places member)) (Word c.args.word.now) c.args.members.now c.loop-index.index c.index-members-index.result _ _ _ _ c.loop-index-test.true c.index-members-index.is c.loop-index.invariant c.in_ok-word_between.ensures c.in_ok-condition.ensures
