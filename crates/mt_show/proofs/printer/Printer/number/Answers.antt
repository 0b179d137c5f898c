-- A number is printed as its token.
use Rattle.std.proofs.Common.{◌≡◌, decimal, arith}
use Rattle.mt_show.proofs.Joined.{spaced-number}
use Rattle.mt_show.proofs.printer.Printer.number.Goals as goal

pub returns : goal.returns
returns c =
    let text : c.format.result.now ≡ decimal c.args.number = c.format.ensures.text in
    rw (spaced-number c.args.number (omega arith), ← text) c.token.ensures
