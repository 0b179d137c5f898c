use Rattle.std.proofs.Common.{refl}
use Rattle.mt_codec.proofs.Spelling.{spelled_number, checked_text}
use Rattle.mt_codec.proofs.field.check_value.Goals as goal

pub returns-in-Int : goal.returns-in-Int
returns-in-Int c = rw c.in-Int.is (λ _. spelled_number c.args.rest.now, λ _. refl)

pub returns-in-Some : goal.returns-in-Some
returns-in-Some c =
    rw c.is_ok.ensures.value (checked_text c.from_utf8.result _ _ c.args.kind c.in-Text.size c.args.rest.now c.in-Some.text.now c.from_utf8.ensures.cases c.in-Text.is c.in-Some.ensures.some)
