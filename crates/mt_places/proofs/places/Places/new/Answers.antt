use Rattle.mt_places.specs.Held.{Held}
use Rattle.mt_places.proofs.Begun.{begun}
use Rattle.mt_places.proofs.places.Places.new.Goals as goal

pub returns : goal.returns
returns c =
    let held : Held = record { rows = c.in_ok-asked.field-0; bodies = c.in_ok-asked-2.field-0; tables = c.in_ok-asked-3.field-0 } in
    begun c.args.changes.now c.as_slice-changes.result.now held c.as_slice-changes.ensures c.in_ok-asked.ensures c.in_ok-asked-2.ensures
    c.in_ok-asked-3.ensures.named c.in_ok-asked-3.ensures.wanted c.in_ok-asked-3.ensures.free
