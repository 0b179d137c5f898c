-- By the kinds of slots.
use Rattle.mt_schema.proofs.SayableTables.{slot_is_sayable}
use Rattle.mt_schema.proofs.laws.slots_are_sayable.Goals as goal

pub returns : goal.returns
returns c state slot rules has = slot_is_sayable state rules slot has
