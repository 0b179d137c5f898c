use Rattle.std.proofs.Common.{◌≡◌, [], ◌∷◌, refl, arith}
use Rattle.std.proofs.lemmas.Result.{on_ok_weaker}
use Rattle.std.specs.FinMap as finite
use Rattle.mt_rowfile.specs.Slots.{slot_bytes}
use Rattle.mt_physplan.specs.Keys.{key_in}
use Rattle.mt_staging.specs.States.{group_of}
use Rattle.mt_staging.specs.Steps.{with_body, with_row}
use Rattle.mt_staging.proofs.Grows.{away_grows, body_short, over_grows, put_grows, slot_small}
use Rattle.mt_staging.proofs.Adds.{mark_faults, mark_kept, put_asks, put_body_asks, put_body_faults, put_body_kept, put_faults, put_kept, remove_asks, remove_body_asks, remove_body_faults, remove_body_kept, remove_faults, remove_kept}
use Rattle.mt_staging.proofs.group.Group.add.Goals as goal

pub returns-in-Put-clause-ok : goal.returns-in-Put-clause-ok
returns-in-Put-clause-ok c =
    on_ok_weaker c.put.result (put_kept c.args.layout.now c.args.pages.now (group_of c.args.self.now) (group_of c.put.new.self) c.requires.layout c.args.change.now c.in-Put.table c.in-Put.slot c.in-Put.is c.requires.suits c.requires.table
    c.put.ensures.kinds c.put.ensures.numbers) c.put.ensures.ok

pub returns-in-Put-clause-asked : goal.returns-in-Put-clause-asked
returns-in-Put-clause-asked c =
    let old = group_of c.args.self.now in
    let key = key_in c.in-Put.table c.in-Put.slot in
    on_ok_weaker c.put.result (put_asks c.args.layout.now c.in-Put.table c.args.pages.now (finite.get old.places.rows key) (slot_bytes c.args.layout.now c.in-Put.slot) key old (group_of c.put.new.self)) c.put.ensures.ok

pub returns-in-Put-clause-disk : goal.returns-in-Put-clause-disk
returns-in-Put-clause-disk c =
    λ disk. put_faults c.args.layout.now c.args.pages.now (group_of c.args.self.now) c.requires.layout c.args.change.now c.in-Put.table c.in-Put.slot c.in-Put.is c.requires.suits c.requires.table
    c.put.ensures.kinds c.put.ensures.numbers (c.put.ensures.disk disk)

pub returns-in-Mark-clause-ok : goal.returns-in-Mark-clause-ok
returns-in-Mark-clause-ok c =
    on_ok_weaker c.mark.result (mark_kept c.args.layout.now c.args.pages.now (group_of c.args.self.now) (group_of c.mark.new.self) c.requires.layout c.args.change.now c.in-Mark.table c.in-Mark.tenant c.in-Mark.row c.in-Mark.mark c.make_key.result
    c.in-Mark.is c.requires.suits c.make_key.ensures.key) c.mark.ensures.ok

pub returns-in-Mark-clause-disk : goal.returns-in-Mark-clause-disk
returns-in-Mark-clause-disk c =
    λ disk. mark_faults c.args.layout.now c.args.pages.now (group_of c.args.self.now) c.requires.layout c.args.change.now c.in-Mark.table c.in-Mark.tenant c.in-Mark.row c.in-Mark.mark c.make_key.result
    c.in-Mark.is c.make_key.ensures.key (c.mark.ensures.disk disk)

pub returns-in-Remove-clause-ok : goal.returns-in-Remove-clause-ok
returns-in-Remove-clause-ok c =
    on_ok_weaker c.remove.result (remove_kept c.args.layout.now c.args.pages.now (group_of c.args.self.now) (group_of c.remove.new.self) c.requires.layout c.args.change.now c.in-Remove.table c.in-Remove.tenant c.in-Remove.base c.in-Remove.chunk c.in-Remove.row
    c.make_key-in-Remove.result c.in-Remove.is c.requires.suits c.make_key-in-Remove.ensures.key) c.remove.ensures.ok

pub returns-in-Remove-clause-asked : goal.returns-in-Remove-clause-asked
returns-in-Remove-clause-asked c =
    let old = group_of c.args.self.now in
    let key = c.make_key-in-Remove.result in
    on_ok_weaker c.remove.result (remove_asks key.table (finite.get old.places.rows key) key old (group_of c.remove.new.self)) c.remove.ensures.ok

pub returns-in-Remove-clause-disk : goal.returns-in-Remove-clause-disk
returns-in-Remove-clause-disk c =
    λ disk. remove_faults c.args.layout.now c.args.pages.now (group_of c.args.self.now) c.requires.layout c.args.change.now c.in-Remove.table c.in-Remove.tenant c.in-Remove.base c.in-Remove.chunk c.in-Remove.row
    c.make_key-in-Remove.result c.in-Remove.is c.make_key-in-Remove.ensures.key (c.remove.ensures.disk disk)

pub returns-in-PutCat-clause-ok : goal.returns-in-PutCat-clause-ok
returns-in-PutCat-clause-ok c =
    on_ok_weaker c.put_body.result (put_body_kept c.args.layout.now c.args.pages.now (group_of c.args.self.now) (group_of c.put_body.new.self) c.requires.layout c.args.change.now c.in-PutCat.table c.in-PutCat.body c.in-PutCat.is c.requires.suits c.requires.table)
    c.put_body.ensures.ok

pub returns-in-PutCat-clause-asked : goal.returns-in-PutCat-clause-asked
returns-in-PutCat-clause-asked c =
    let old = group_of c.args.self.now in
    on_ok_weaker c.put_body.result (put_body_asks c.args.layout.now c.in-PutCat.table c.args.pages.now (finite.get old.places.bodies (c.in-PutCat.table, c.in-PutCat.body)) (1 ∷ c.in-PutCat.body) (c.in-PutCat.table, c.in-PutCat.body) old (group_of c.put_body.new.self))
    c.put_body.ensures.ok

pub returns-in-PutCat-clause-disk : goal.returns-in-PutCat-clause-disk
returns-in-PutCat-clause-disk c =
    λ disk. put_body_faults c.args.layout.now c.args.pages.now (group_of c.args.self.now) c.requires.layout c.args.change.now c.in-PutCat.table c.in-PutCat.body c.in-PutCat.is c.requires.suits c.requires.table (c.put_body.ensures.disk disk)

pub returns-in-RemoveCat-clause-ok : goal.returns-in-RemoveCat-clause-ok
returns-in-RemoveCat-clause-ok c =
    on_ok_weaker c.remove_body.result (remove_body_kept c.args.layout.now c.args.pages.now (group_of c.args.self.now) (group_of c.remove_body.new.self) c.requires.layout c.args.change.now c.in-RemoveCat.table c.in-RemoveCat.body c.in-RemoveCat.is c.requires.suits)
    c.remove_body.ensures.ok

pub returns-in-RemoveCat-clause-asked : goal.returns-in-RemoveCat-clause-asked
returns-in-RemoveCat-clause-asked c =
    let old = group_of c.args.self.now in
    on_ok_weaker c.remove_body.result (remove_body_asks c.in-RemoveCat.table (finite.get old.places.bodies (c.in-RemoveCat.table, c.in-RemoveCat.body)) (c.in-RemoveCat.table, c.in-RemoveCat.body) old (group_of c.remove_body.new.self)) c.remove_body.ensures.ok

pub returns-in-RemoveCat-clause-disk : goal.returns-in-RemoveCat-clause-disk
returns-in-RemoveCat-clause-disk c =
    λ disk. remove_body_faults c.args.layout.now c.args.pages.now (group_of c.args.self.now) c.requires.layout c.args.change.now c.in-RemoveCat.table c.in-RemoveCat.body c.in-RemoveCat.is (c.remove_body.ensures.disk disk)

pub returns-in-Put-clause-small : goal.returns-in-Put-clause-small
returns-in-Put-clause-small c =
    let old = group_of c.args.self.now in
    let new = group_of c.put.new.self in
    on_ok_weaker c.put.result (λ w. (put_grows c.args.layout.now c.in-Put.table c.args.pages.now (finite.get old.places.rows (key_in c.in-Put.table c.in-Put.slot)) (slot_bytes c.args.layout.now c.in-Put.slot) (with_row (key_in c.in-Put.table c.in-Put.slot)) old new (λ place group. (refl, refl)) (slot_small c.args.layout.now c.args.change.now c.in-Put.table c.in-Put.slot c.in-Put.is c.requires.suits c.put.ensures.kinds c.put.ensures.numbers) w).0) c.put.ensures.ok

pub returns-in-Put-clause-pages : goal.returns-in-Put-clause-pages
returns-in-Put-clause-pages c =
    let old = group_of c.args.self.now in
    let new = group_of c.put.new.self in
    on_ok_weaker c.put.result (λ w. (put_grows c.args.layout.now c.in-Put.table c.args.pages.now (finite.get old.places.rows (key_in c.in-Put.table c.in-Put.slot)) (slot_bytes c.args.layout.now c.in-Put.slot) (with_row (key_in c.in-Put.table c.in-Put.slot)) old new (λ place group. (refl, refl)) (slot_small c.args.layout.now c.args.change.now c.in-Put.table c.in-Put.slot c.in-Put.is c.requires.suits c.put.ensures.kinds c.put.ensures.numbers) w).1) c.put.ensures.ok

pub returns-in-Mark-clause-small : goal.returns-in-Mark-clause-small
returns-in-Mark-clause-small c =
    let old = group_of c.args.self.now in
    let new = group_of c.mark.new.self in
    on_ok_weaker c.mark.result (λ w. (over_grows c.args.pages.now (finite.get old.places.rows c.make_key.result) (c.in-Mark.mark ∷ []) old new (omega arith) w).0) c.mark.ensures.ok

pub returns-in-Mark-clause-pages : goal.returns-in-Mark-clause-pages
returns-in-Mark-clause-pages c =
    let old = group_of c.args.self.now in
    let new = group_of c.mark.new.self in
    on_ok_weaker c.mark.result (λ w. (over_grows c.args.pages.now (finite.get old.places.rows c.make_key.result) (c.in-Mark.mark ∷ []) old new (omega arith) w).1) c.mark.ensures.ok

pub returns-in-Remove-clause-small : goal.returns-in-Remove-clause-small
returns-in-Remove-clause-small c =
    let old = group_of c.args.self.now in
    let new = group_of c.remove.new.self in
    on_ok_weaker c.remove.result (λ w. (away_grows c.make_key-in-Remove.result.table c.args.pages.now (finite.get old.places.rows c.make_key-in-Remove.result) (with_row c.make_key-in-Remove.result) old new (λ place group. (refl, refl)) w).0) c.remove.ensures.ok

pub returns-in-Remove-clause-pages : goal.returns-in-Remove-clause-pages
returns-in-Remove-clause-pages c =
    let old = group_of c.args.self.now in
    let new = group_of c.remove.new.self in
    on_ok_weaker c.remove.result (λ w. (away_grows c.make_key-in-Remove.result.table c.args.pages.now (finite.get old.places.rows c.make_key-in-Remove.result) (with_row c.make_key-in-Remove.result) old new (λ place group. (refl, refl)) w).1) c.remove.ensures.ok

pub returns-in-PutCat-clause-small : goal.returns-in-PutCat-clause-small
returns-in-PutCat-clause-small c =
    let old = group_of c.args.self.now in
    let new = group_of c.put_body.new.self in
    on_ok_weaker c.put_body.result (λ w. (put_grows c.args.layout.now c.in-PutCat.table c.args.pages.now (finite.get old.places.bodies (c.in-PutCat.table, c.in-PutCat.body)) (1 ∷ c.in-PutCat.body) (with_body (c.in-PutCat.table, c.in-PutCat.body)) old new (λ place group. (refl, refl)) (body_short c.args.layout.now c.args.change.now c.in-PutCat.table c.in-PutCat.body c.in-PutCat.is c.requires.suits) w).0) c.put_body.ensures.ok

pub returns-in-PutCat-clause-pages : goal.returns-in-PutCat-clause-pages
returns-in-PutCat-clause-pages c =
    let old = group_of c.args.self.now in
    let new = group_of c.put_body.new.self in
    on_ok_weaker c.put_body.result (λ w. (put_grows c.args.layout.now c.in-PutCat.table c.args.pages.now (finite.get old.places.bodies (c.in-PutCat.table, c.in-PutCat.body)) (1 ∷ c.in-PutCat.body) (with_body (c.in-PutCat.table, c.in-PutCat.body)) old new (λ place group. (refl, refl)) (body_short c.args.layout.now c.args.change.now c.in-PutCat.table c.in-PutCat.body c.in-PutCat.is c.requires.suits) w).1) c.put_body.ensures.ok

pub returns-in-RemoveCat-clause-small : goal.returns-in-RemoveCat-clause-small
returns-in-RemoveCat-clause-small c =
    let old = group_of c.args.self.now in
    let new = group_of c.remove_body.new.self in
    on_ok_weaker c.remove_body.result (λ w. (away_grows c.in-RemoveCat.table c.args.pages.now (finite.get old.places.bodies (c.in-RemoveCat.table, c.in-RemoveCat.body)) (with_body (c.in-RemoveCat.table, c.in-RemoveCat.body)) old new (λ place group. (refl, refl)) w).0) c.remove_body.ensures.ok

pub returns-in-RemoveCat-clause-pages : goal.returns-in-RemoveCat-clause-pages
returns-in-RemoveCat-clause-pages c =
    let old = group_of c.args.self.now in
    let new = group_of c.remove_body.new.self in
    on_ok_weaker c.remove_body.result (λ w. (away_grows c.in-RemoveCat.table c.args.pages.now (finite.get old.places.bodies (c.in-RemoveCat.table, c.in-RemoveCat.body)) (with_body (c.in-RemoveCat.table, c.in-RemoveCat.body)) old new (λ place group. (refl, refl)) w).1) c.remove_body.ensures.ok
