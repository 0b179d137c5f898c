-- By how each cover begins.
use Rattle.std.proofs.Common.{arith}
use Rattle.mt_cover.specs.Steps.{shapes_for}
use Rattle.mt_cover.proofs.Starts.{goes_no_further, goes_on_more}
use Rattle.mt_cover.proofs.prices.Prices.shapes_for.Goals as goal

pub loop-wanted-preserved : goal.loop-wanted-preserved
loop-wanted-preserved c =
    let wanted = c.loop-wanted.wanted in
    let rest = c.after-wanted.result in
    let number = c.after-wanted.ensures.numbers in
    let text = c.after-wanted.ensures.texts in
    let less = c.loop-wanted.invariant.fewer_numbers in
    let fewer = c.loop-wanted.invariant.fewer_texts in
    record {
      fewer_numbers = omega arith;
      fewer_texts = omega arith;
      goes_on = goes_on_more wanted.numbers wanted.texts rest.numbers rest.texts c.start_of-start.result.shape c.loop-wanted.shapes c.push.new.self (shapes_for c.args.most.numbers c.args.most.texts) c.start_of-start.ensures.begins number text
          c.in_ok-push.ensures.ok c.loop-wanted.invariant.goes_on;
    }

pub returns : goal.returns
returns c =
    goes_no_further c.loop-wanted.wanted.numbers c.loop-wanted.wanted.texts c.loop-wanted.shapes (shapes_for c.args.most.numbers c.args.most.texts) (c.is_nothing.ensures.0 c.loop-wanted-test.false) c.loop-wanted.invariant.goes_on
