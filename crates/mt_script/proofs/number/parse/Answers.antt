-- Decimal digits are text, and parse to their number.
use Rattle.std.proofs.Common.{◌≡◌, ◌∙◌, ap, arith, decimal}
use Rattle.std.specs.Result.{result_ok}
use Rattle.std.proofs.lemmas.Grind.{common_steps}
use Rattle.std.proofs.lemmas.Fmt.{parse-decimal, IsAscii-decimal}
use Rattle.std.proofs.lemmas.Str.{IsUtf8-from_ascii}
use Rattle.mt_script.proofs.number.parse.Goals as goal

pub returns-in-Ok : goal.returns-in-Ok
returns-in-Ok c n fits e =
    let text : c.in-Ok.text.now ≡ decimal n = c.in-Ok.ensures.cases.0 ∙ e in
    c.ok.ensures.value ∙ ap result_ok (parse-decimal 64 n c.in-Ok.text.now c.parse.result fits fits text c.parse.ensures.value.0)

pub returns-in-Err : goal.returns-in-Err
returns-in-Err c n fits e = grind (arith, common_steps, IsUtf8-from_ascii (decimal n) (IsAscii-decimal n fits))
