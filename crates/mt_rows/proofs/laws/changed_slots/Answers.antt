-- One change after another, each at one place.
use Rattle.mt_rows.proofs.Changed.{changes_at}
use Rattle.mt_rows.proofs.laws.changed_slots.Goals as goal

pub returns : goal.returns
returns c = λ changes content. record { at = changes_at changes content }
