use Rattle.mt_rowfile.proofs.Reading.{slot_again, slot_is_slot}
use Rattle.mt_rowfile.proofs.laws.slots_are_read_again.Goals as goal

pub returns-clause-again : goal.returns-clause-again
returns-clause-again c = λ layout slot is rows are fits numbers.
    slot_again c.fields_and_values_are_one.ensures.again layout.head layout.kinds slot rows are fits numbers

pub returns-clause-slot : goal.returns-clause-slot
returns-clause-slot c = λ layout slot is rows are fits numbers.
    slot_is_slot c.fields_and_values_are_one.ensures.again layout.head layout.kinds slot rows are fits

pub returns-clause-width : goal.returns-clause-width
returns-clause-width c = λ layout slot is rows are fits numbers.
    (slot_is_slot c.fields_and_values_are_one.ensures.again layout.head layout.kinds slot rows are fits).size
