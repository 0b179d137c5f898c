use Rattle.std.proofs.Common.{sym, ◌∙◌}
use Rattle.mt_places.specs.Held.{table_in}
use Rattle.mt_places.proofs.Listed.{first-of}
use Rattle.mt_places.proofs.places.Places.take_free.Goals as goal

pub returns-clause-taken : goal.returns-clause-taken
returns-clause-taken c = λ position is. rw (← c.self.view_is) (first-of (table_in c.self.inside.tables c.args.table).free position (sym c.take.ensures.first ∙ is))
