use Rattle.std.proofs.Common.{◌≡◌, ℕ, ◌+◌, ◌-◌, take, drop, slice_index, ap, ◌∙◌, arith}
use Rattle.mt_rowfile.proofs.Names.{name_checked}
use Rattle.mt_rowfile.proofs.body.check_name.Goals as goal

pub returns : goal.returns
returns c =
    let bytes = c.args.bytes.now in
    let count = c.from-count.ensures in
    let long : 1 + c.from-count.result - 1 ≡ slice_index bytes 0 = omega arith in
    name_checked bytes _ _ (λ e. c.if-count-eq0.false (count ∙ e)) (omega arith) (ap (λ (n : ℕ). take n (drop 1 bytes)) long) c.is_ascii.ensures.cases
