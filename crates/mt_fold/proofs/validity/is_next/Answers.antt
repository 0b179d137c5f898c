use Rattle.std.proofs.Common.{sym, ◌∙◌}
use Rattle.mt_fold.proofs.Sorts.{chunk_found, next_decided, not_next}
use Rattle.mt_fold.proofs.validity.is_next.Goals as goal

pub returns-then-before-numbers : goal.returns-then-before-numbers
returns-then-before-numbers c =
    let found = chunk_found c.args.shapes.now c.from.result c.args.chunk c.in-Some.shape.now c.from.ensures c.in-Some.ensures.lookup.0 c.in-Some.ensures.lookup.1 in
    next_decided c.args.shapes.now c.args.chunk c.args.before c.width.result c.in-Some.shape.now found c.width.ensures (λ e. c.if-before-numbers.true (e ∙ sym c.numbers.ensures))

pub returns-else-before-numbers : goal.returns-else-before-numbers
returns-else-before-numbers c =
    let found = chunk_found c.args.shapes.now c.from.result c.args.chunk c.in-Some.shape.now c.from.ensures c.in-Some.ensures.lookup.0 c.in-Some.ensures.lookup.1 in
    not_next c.args.shapes.now c.args.chunk c.args.before c.numbers.result c.in-Some.shape.now found c.numbers.ensures c.if-before-numbers.false
