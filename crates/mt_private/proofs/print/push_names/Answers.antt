-- The first name, and the others with bars in front, are the names with bars between.
use Rattle.mt_private.proofs.Printing.{joined_pieces}
use Rattle.mt_private.proofs.print.push_names.Goals as goal

pub returns : goal.returns
returns c =
    joined_pieces 124 c.args.text.now c.loop-name.text c.args.names.now c.in-Some.others.now c.in-Some.first.now c.loop-name.name-index
    c.in-Some.ensures.cases.0 c.loop-name-test.false (cc (c.in_ok-push_bytes.ensures.ok, c.as_bytes.ensures.value, c.as_str.ensures))
