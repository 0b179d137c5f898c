-- The store stands for the machine still.
use Rattle.std.proofs.Common.{refl}
use Rattle.mt_chunkstore.proofs.Kept.{stands_looked}
use Rattle.mt_chunkstore.proofs.store.Store.read_page.Goals as goal

pub returns-clause-stands : goal.returns-clause-stands
returns-clause-stands g c =
    stands_looked c.args.self.now _ (g.M.Machine.meaning c.args.m.now) (g.M.Machine.meaning c.read.new.m)
    (record { journal = refl; pages = c.read.ensures.same; layouts = refl; directory = refl; used = refl }) c.requires.stands c.read.ensures.looks
