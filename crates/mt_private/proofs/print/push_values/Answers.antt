-- The first value, and the others with bars in front, are the values with bars between.
use Rattle.mt_value.specs.Printed.{value_text}
use Rattle.mt_private.proofs.Printing.{joined}
use Rattle.mt_private.proofs.print.push_values.Goals as goal

pub returns : goal.returns
returns c =
    joined 124 value_text c.args.text.now c.loop-value.text c.args.values.now c.in-Some.others.now c.in-Some.first.now c.loop-value.value-index
    c.in-Some.ensures.cases.0 c.loop-value-test.false (cc (c.in_ok-push_value.ensures))
