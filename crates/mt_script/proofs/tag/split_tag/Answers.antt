-- The tag is what stands in front of the first blank.
use Rattle.std.proofs.Common.{arith}
use Rattle.std.specs.Str.{IsUtf8}
use Rattle.std.proofs.lemmas.Grind.{common_steps}
use Rattle.std.proofs.lemmas.List.Sums.{prefix_len-le-length}
use Rattle.mt_script.proofs.TagParts.{HasTag-cut, HasTag-from_cut, IsUtf8-text}
use Rattle.mt_script.proofs.tag.split_tag.Goals as goal

pub returns-in_err-who-clause-none : goal.returns-in_err-who-clause-none
returns-in_err-who-clause-none c =
    rw c.from_residual.ensures
    (λ who text tagged. c.in_err-who.ensures.none who tagged.sender (rw c.tag_end-from.ensures (HasTag-cut c.args.line.now who text tagged)))

pub returns-clause-found : goal.returns-clause-found
returns-clause-found c =
    let utf8 : IsUtf8 c.args.line.now = grind (arith, common_steps) in
    rw c.tag_end-from.ensures (prefix_len-le-length _ c.args.line.now, HasTag-from_cut c.args.line.now c.in_ok-who.who utf8 c.in_ok-who.ensures.found.1 (rw c.tag_end-from.ensures at c.in_ok-who.ensures.found.0))

pub returns-clause-text : goal.returns-clause-text
returns-clause-text c =
    let utf8 : IsUtf8 c.args.line.now = grind (arith, common_steps) in
    rw c.tag_end-from.ensures (IsUtf8-text c.args.line.now utf8)
