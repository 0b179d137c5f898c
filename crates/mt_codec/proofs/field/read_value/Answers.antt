use Rattle.std.proofs.Common.{rules}
use Rattle.mt_codec.proofs.Spelling.{read_is_not_bad, fault_of_text}
use Rattle.mt_codec.proofs.field.read_value.Goals as goal

pub returns-in_err-from_bytes-in-Some-clause-bad :
    goal.returns-in_err-from_bytes-in-Some-clause-bad
returns-in_err-from_bytes-in-Some-clause-bad c =
    fault_of_text c.from_residual.result c.in_err-from_bytes-in-Some.field-0.0 c.args.kind c.in-Text.size c.args.rest.now c.in-Some.text.now
    c.from_residual.ensures.1 c.in_err-from_bytes-in-Some.ensures.not_utf8 c.in-Text.is c.in-Some.ensures.some

pub returns-in-Int-clause-bad : goal.returns-in-Int-clause-bad
returns-in-Int-clause-bad c = read_is_not_bad c.args.kind c.args.rest.now _ (search rules)

pub returns-in_ok-from_bytes-in-Some-clause-bad : goal.returns-in_ok-from_bytes-in-Some-clause-bad
returns-in_ok-from_bytes-in-Some-clause-bad c = read_is_not_bad c.args.kind c.args.rest.now _ (search rules)
