-- The page is the bytes of the area.
use Rattle.std.proofs.Common.{◌≡◌, ℕ, ◌*◌, ◌∙◌, ap, subst, OnOk, IsTrue, arith}
use Rattle.mt_machine.specs.declared.machine.Area.TheVariants as areas
use Rattle.mt_tables.specs.Pages.{bytes_at}
use Rattle.mt_pages.proofs.Loaded.{page_read}
use Rattle.mt_pages.proofs.pages.Pages.read.Goals as goal

pub returns-clause-bytes : goal.returns-clause-bytes
returns-clause-bytes g c =
    subst (λ at. OnOk c.read.result (IsTrue (g.M.Machine.meaning c.read.new.self).tells → c.read.new.buf ≡ bytes_at ((g.M.Machine.meaning c.args.m.now).content areas.Pages) at 4096)) (omega arith)
    (page_read c.read.result (c.args.n * 4096) c.read.new.buf (g.M.Machine.meaning c.args.m.now) (g.M.Machine.meaning c.read.new.self) c.read.ensures.effect 4096 (c.read.auto.buf ∙ c.told-into))
