-- The store that was opened is ready: opening and looking tell nothing more.
use Rattle.std.proofs.Common.{Some, ap, ◌∙◌}
use Rattle.mt_store_bench.proofs.open.Goals as goal

pub returns : goal.returns
returns g c = record {
  silent = λ tells. c.requires (c.load.ensures.any_moment.told (c.add_layout.ensures.looks.leaves.told tells));
  stands = c.add_layout.ensures.stands;
  known = ap (λ known. known 16) c.in_ok-add_layout.ensures.layouts ∙ ap Some c.in_ok-layout.ensures.layout;
}
