-- Both parts.
use Rattle.std.proofs.Common.{refl, sym}
use Rattle.std.proofs.lemmas.List.Elements.{All-same}
use Rattle.mt_catalog.specs.Clauses.{Extends}
use Rattle.mt_catcheck.proofs.tenant_rules.is_of_base.Goals as goal

pub returns-then-are_made : goal.returns-then-are_made
returns-then-are_made c = (
  λ passed. (c.if-are_made.ensures.0 refl, All-same (Extends c.args.extensions.now c.args.base) c.args.table.now.extended c.as_slice.result.now (sym c.as_slice.ensures) (c.all_extend.ensures.0 passed)),
  λ kept. c.all_extend.ensures.1 (All-same (Extends c.args.extensions.now c.args.base) c.as_slice.result.now c.args.table.now.extended c.as_slice.ensures kept.1),
)
