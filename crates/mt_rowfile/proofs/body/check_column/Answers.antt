use Rattle.std.proofs.Common.{◌-◌, length, drop, arith, length-drop}
use Rattle.std.proofs.lemmas.List.{take_all}
use Rattle.mt_rowfile.proofs.Names.{column_checked}
use Rattle.mt_rowfile.proofs.body.check_column.Goals as goal

pub returns : goal.returns
returns c =
    let body = c.args.body.now in
    let whole = take_all (length body - 13) (drop 13 body) (omega (arith, length-drop 13 body)) in
    column_checked body _ _ c.if-body-gt1.false c.if-body-gt1-2.false whole c.check_name.ensures
