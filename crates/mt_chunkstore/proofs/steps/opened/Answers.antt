-- The layout that was added is known.
use Rattle.std.proofs.Common.{Some, ap, ◌∙◌}
use Rattle.mt_tables.specs.Rows.{KnownLayouts}
use Rattle.mt_chunkstore.proofs.steps.opened.Goals as goal

pub returns-clause-layout : goal.returns-clause-layout
returns-clause-layout g c = ap (λ (known : KnownLayouts). known 16) c.in_ok-add_layout.ensures.layouts ∙ ap Some c.in_ok-layout.ensures.layout
