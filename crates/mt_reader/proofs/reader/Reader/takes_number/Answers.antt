-- Digits are a number, and nothing else is.
use Rattle.std.proofs.Common.{refl, sym}
use Rattle.mt_reader.proofs.Steps.{number_of_end, number_of_other, number_of_digits}
use Rattle.mt_reader.proofs.reader.Reader.takes_number.Goals as goal

pub returns-in_default-clause-taken : goal.returns-in_default-clause-taken
returns-in_default-clause-taken c = (number_of_end c.args.self.now c.in_default.ensures.none, refl)

pub returns-in_default-digits-clause-taken : goal.returns-in_default-digits-clause-taken
returns-in_default-digits-clause-taken c = (number_of_other c.in-Some.first c.args.self.now c.in-Some.ensures.first (sym c.in_default-digits.ensures), refl)

pub returns-clause-taken : goal.returns-clause-taken
returns-clause-taken c =
    number_of_digits c.in-Some.first c.args.self.now c.skip.new.self c.in-Some-digits.digits c.in-Some.ensures.first (sym c.in-Some-digits.ensures) c.skip.ensures
