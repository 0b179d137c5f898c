use Rattle.std.proofs.Common.{◌≡◌, ℕ, ◌<◌, List, None, Ok, Err, length, get_or, ap, ◌∙◌}
use Rattle.std.specs.Prelude.{Result, OnOk}
use Rattle.std.proofs.Math.ListN.{set}
use Rattle.std.specs.FinMap as finite
use Rattle.mt_physplan.specs.Applied.{body_cmp}
use Rattle.mt_places.specs.Held.{Asked, Bodies, all_bodies}
use Rattle.mt_places.proofs.Bodies.{all-insert, same_within}
use Rattle.mt_places.proofs.body_places.BodyPlaces.ask.Goals as goal

-- where the table took the body, all tables did
asks : {A E : Type 0} (result : Result A E) (old : Asked body_cmp) (ms : List Bodies) (i : ℕ) (b : List ℕ) (own new : Bodies) → i < length ms → own ≡ get_or ms i own
    → all_bodies ms ≡ old → OnOk result (new ≡ finite.insert own b None) → OnOk result (all_bodies (set ms i new) ≡ finite.insert old (i, b) None)
asks (Ok x) old ms i b own new within is all took =
    ap (λ m. all_bodies (set ms i m)) (took ∙ ap (λ m. finite.insert m b None) (is ∙ same_within ms i own finite.empty within))
    ∙ all-insert ms i b None within ∙ ap (λ m. finite.insert m (i, b) None) all
asks (Err e) old ms i b own new within is all took = tt

pub returns : goal.returns
returns c =
    asks c.ask.result c.args.self.now c.reach_table.new.tables.items c.args.table c.args.body.now c.index_mut.result.now c.ask.new.self
    c.in_ok-reach_table.ensures.reached c.index_mut.ensures.value (c.in_ok-reach_table.ensures.bodies ∙ c.self.view_is) c.ask.ensures
