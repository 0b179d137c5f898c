-- The store stands with the layout that was added.
use Rattle.std.proofs.Common.{rules, ◌≡◌, refl, length}
use Rattle.mt_chunkstore.proofs.Kept.{stands_looked, stands_with}
use Rattle.mt_chunkstore.proofs.store.Store.add_layout.Goals as goal

pub returns-clause-stands : goal.returns-clause-stands
returns-clause-stands g c =
    let meaning = g.M.Machine.meaning in
    let size : length c.args.self.now.used ≡ 32 = search rules in
    rw c.count_used.ensures.same (stands_with c.args.self.now (meaning c.args.m.now) (meaning c.count_used.new.m) c.args.table c.args.layout c.set.new.self c.in_ok-used.used c.requires.stands c.count_used.ensures.looks size
    c.requires.from c.requires.upto c.requires.head c.requires.sound c.set.ensures.known c.in_ok-used.ensures.used)

pub returns-in_err-used-clause-stands : goal.returns-in_err-used-clause-stands
returns-in_err-used-clause-stands g c =
    stands_looked c.args.self.now _ (g.M.Machine.meaning c.args.m.now) (g.M.Machine.meaning c.count_used.new.m)
    (record { journal = refl; pages = c.count_used.ensures.same; layouts = refl; directory = refl; used = refl }) c.requires.stands c.count_used.ensures.looks
