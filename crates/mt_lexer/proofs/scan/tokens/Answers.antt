-- Each step adds the token that stands at the place, or passes over a blank.
use Rattle.std.proofs.Common.{◌∙◌, sym, subst}
use Rattle.mt_lexer.proofs.Tiling.{Reached, Reached-start, Reached-push, Reached-blank}
use Rattle.mt_lexer.proofs.scan.tokens.Goals as goal

pub loop-at-init : goal.loop-at-init
loop-at-init c = rw (c.from_vec-found.ensures, c.in_ok-with_capacity.ensures.items) (Reached-start c.as_bytes-bytes.result.now)

pub loop-at-preserved-in-Some : goal.loop-at-preserved-in-Some
loop-at-preserved-in-Some c =
    let t = c.in-Some.token in
    let place = c.in-Some.ensures.place in
    let token = c.in-Some.ensures.token in
    let here : Reached c.as_bytes-bytes.result.now c.loop-at.found t.from = subst (Reached c.as_bytes-bytes.result.now c.loop-at.found) (sym place.0) c.loop-at.invariant in
    rw c.in_ok-push.ensures.ok (Reached-push c.as_bytes-bytes.result.now c.loop-at.found t token.0 here token.1)

pub loop-at-preserved : goal.loop-at-preserved
loop-at-preserved c =
    Reached-blank c.as_bytes-bytes.result.now c.loop-at.found c.loop-at.at c.loop-at.invariant c.loop-at-test.true (sym c.is_blank.ensures ∙ c.if-is_blank.true)
