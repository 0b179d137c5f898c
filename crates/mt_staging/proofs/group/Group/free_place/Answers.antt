use Rattle.std.proofs.Common.{refl}
use Rattle.mt_places.specs.Held.{state_of}
use Rattle.mt_staging.specs.States.{group_of}
use Rattle.mt_staging.proofs.Finding.{finds_page, none_taken, page_has_some, still_none, takes_first}
use Rattle.mt_staging.proofs.group.Group.free_place.Goals as goal

pub make_page-requires-clause-none_left : goal.make_page-requires-clause-none_left
make_page-requires-clause-none_left c =
    still_none c.args.table (state_of c.args.self.now.places) (state_of c.take_free.new.self) (c.take_free.ensures.none c.in_default.is) c.take_free.ensures.free

pub unreachable-requires : goal.unreachable-requires
unreachable-requires c =
    page_has_some c.args.layout.now c.args.table c.args.pages.now _ (group_of c.make_page.new.self) c.requires.room c.in_ok-make_page.ensures.ok (c.take_free-2.ensures.none c.in-None.is)

pub returns-clause-ok : goal.returns-clause-ok
returns-clause-ok c =
    let e = c.take_free.ensures in
    let f = c.take_free-2.ensures in
    finds_page c.args.layout.now c.args.table c.args.pages.now c.in-Some-take_free.position (group_of c.args.self.now) _ (group_of c.make_page.new.self) _ c.in_ok-make_page.ensures.ok
    (λ i. record {
      ranges = c.args.self.now.body;
      places = none_taken c.args.table (state_of c.args.self.now.places) (state_of c.take_free.new.self) (e.none c.in_default.is) e.named e.rows e.bodies e.free e.wanted i;
      added = c.args.self.now.added;
      taken = (group_of c.args.self.now).taken;
      freed = (group_of c.args.self.now).freed;
    })
    (takes_first c.args.table c.in-Some-take_free.position (group_of c.make_page.new.self) _ refl refl refl refl f.named f.rows f.bodies f.free f.wanted (f.taken c.in-Some-take_free.position c.in-Some-take_free.is))
