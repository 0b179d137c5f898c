-- The page is the bytes of the area.
use Rattle.std.proofs.Common.{subst, List, ℕ}
use Rattle.mt_directory.specs.Known.{known_in}
use Rattle.mt_places.specs.Held.{state_of}
use Rattle.mt_places.specs.Places.{IsLooked}
use Rattle.mt_chunkstore.proofs.stage.look_at.Goals as goal

pub returns-in_ok-look_by-in-Ok-clause-looked : goal.returns-in_ok-look_by-in-Ok-clause-looked
returns-in_ok-look_by-in-Ok-clause-looked g c = λ tells layout is.
    subst (λ (page : List ℕ). IsLooked (known_in c.args.layouts.now) c.args.table c.args.n page (state_of c.args.places.now) (state_of c.look_by.new.places)) (c.in-Ok.ensures.bytes tells) (c.in_ok-look_by-in-Ok.ensures.looked layout is)
