-- The layout that was found is the one that is known.
use Rattle.std.proofs.Common.{sym}
use Rattle.mt_directory.specs.Known.{known_in}
use Rattle.mt_places.specs.Held.{state_of}
use Rattle.mt_chunkstore.proofs.Asked.{asked_looked, on_ok}
use Rattle.mt_chunkstore.proofs.stage.look_by.Goals as goal

pub returns-in-Some-clause-looked : goal.returns-in-Some-clause-looked
returns-in-Some-clause-looked c = on_ok c.look.result c.look.ensures (λ looked layout is. looked (known_in c.args.layouts.now) (sym c.in-Some.ensures.layout))

pub returns-in-Some-clause-asked : goal.returns-in-Some-clause-asked
returns-in-Some-clause-asked c = on_ok c.look.result c.look.ensures (λ looked change.
    asked_looked (known_in c.args.layouts.now) c.args.table c.args.n c.args.page.now (state_of c.args.places.now) (state_of c.look.new.self) (looked (known_in c.args.layouts.now) (sym c.in-Some.ensures.layout)) change)
