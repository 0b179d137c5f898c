-- A scan only looks.
use Rattle.std.proofs.Common.{◌∙◌, ap, slice_index}
use Rattle.mt_chunkstore.specs.Standing.{SameStore}
use Rattle.mt_chunkstore.proofs.Kept.{stands_looked}
use Rattle.mt_chunkstore.proofs.Looking.{scan_looks}
use Rattle.mt_chunkstore.proofs.lent.LentPhys.scan.Goals as goal

pub returns-clause-ready : goal.returns-clause-ready
returns-clause-ready g c =
    let same = c.look.ensures.same in
    let all : SameStore c.args.self.now.store.now c.look.new.store = record { journal = same.journal; pages = same.pages; layouts = same.layouts; directory = same.directory; used = same.used } in
    stands_looked c.args.self.now.store.now c.look.new.store (g.M.Machine.meaning c.args.self.now.machine.now) (g.M.Machine.meaning c.look.new.m) all c.requires.ready c.look.ensures.looks

pub returns-clause-effect : goal.returns-clause-effect
returns-clause-effect g c =
    let same = c.look.ensures.same in
    let all : SameStore c.args.self.now.store.now c.look.new.store = record { journal = same.journal; pages = same.pages; layouts = same.layouts; directory = same.directory; used = same.used } in
    scan_looks c.look.result c.args.scan.now c.args.self.now.store.now c.look.new.store (g.M.Machine.meaning c.args.self.now.machine.now) (g.M.Machine.meaning c.look.new.m)
    all c.look.ensures.looks c.look.ensures.rows (ap (λ scans. slice_index scans.each) c.look.ensures.scans ∙ c.add.ensures)
