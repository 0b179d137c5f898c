-- Nothing is kept at first.
use Rattle.mt_private.proofs.First.{kept_at_first, state_is}
use Rattle.mt_private.proofs.plain.Plain.new.Goals as goal

pub returns : goal.returns
returns c =
    kept_at_first _ c.new-4.result.entries (state_is c.new.result c.new-2.result c.new-3.result.entries c.new.ensures c.new-2.ensures c.new-3.ensures.empty) c.new-4.ensures.empty
    c.empty_services_have_no_parts.ensures
