use Rattle.std.proofs.Common.{◌-◌, length, sym, ◌∙◌, arith}
use Rattle.std.proofs.lemmas.Bool.{eqb-false, ne_eqb}
use Rattle.mt_script.proofs.Parts.{GivesFront-return, GivesFront-other}
use Rattle.mt_script.proofs.line.find_end.Goals as goal

pub returns-then-line-last-eq13 : goal.returns-then-line-last-eq13
returns-then-line-last-eq13 c =
    let some = eqb-false (length c.args.line.now) 0 (sym c.is_empty.ensures ∙ c.if-is_empty.false) in
    GivesFront-return _ _ (omega arith) c.if-line-gt-LONGEST.false c.if-line-last-eq13.true

pub returns-else-line-last-eq13 : goal.returns-else-line-last-eq13
returns-else-line-last-eq13 c =
    let some = eqb-false (length c.args.line.now) 0 (sym c.is_empty.ensures ∙ c.if-is_empty.false) in
    GivesFront-other _ (length c.args.line.now - 1) (omega arith) c.if-line-gt-LONGEST.false (ne_eqb _ _ c.if-line-last-eq13.false)
