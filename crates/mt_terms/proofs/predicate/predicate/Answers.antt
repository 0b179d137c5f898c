-- A comparison, or a word behind the first atom.
use Rattle.mt_terms.proofs.Conditions.{plain_of-compared, plain_of-said}
use Rattle.mt_terms.proofs.predicate.predicate.Goals as goal

pub returns-in-Some : goal.returns-in-Some
returns-in-Some c =
    let first = c.in_ok-first.ensures in
    rw (plain_of-compared c.args.reader.now c.atom.new.reader first.tree first.reads c.comparison.new.reader c.in-Some.op c.in-Some.ensures) (c.compared.ensures first.tree first.keeps)

pub returns : goal.returns
returns c =
    let first = c.in_ok-first.ensures in
    rw (plain_of-said c.args.reader.now c.atom.new.reader first.tree first.reads c.in_default.ensures.0, ← c.in_default.ensures.1) (c.tested.ensures first.tree first.keeps)
