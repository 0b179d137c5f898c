-- Both ranges were pushed.
use Rattle.std.proofs.Common.{◌≡◌, ℕ, ◌+◌, ◌-◌, ◌*◌, ◌++◌, replicate, refl, sym, ap, ◌∙◌, arith}
use Rattle.byteorder.specs.Endian.{little_bytes}
use Rattle.mt_pages.specs.Control.{control_bytes}
use Rattle.mt_pages.proofs.Planned.{both_pushed}
use Rattle.mt_pages.proofs.pages.Pages.plan_new_page.Goals as goal

pub returns-else-is_err-clause-ok : goal.returns-else-is_err-clause-ok
returns-else-is_err-clause-ok c =
    both_pushed c.push-pushed.result c.args.body.now c.push.new.self c.push-pushed.new.self c.args.table (c.args.self.now + c.args.extra - 1) _ c.write_u32.new.buf c.control_bytes.result
    c.in_ok-push.ensures.ok c.push-pushed.ensures.ok (omega (arith, c.self.view_is)) (c.write_u32.ensures ∙ ap (λ rest. little_bytes 4 c.args.table ++ rest) refl) (c.control_bytes.ensures ∙ ap control_bytes (omega (arith, c.self.view_is)))
