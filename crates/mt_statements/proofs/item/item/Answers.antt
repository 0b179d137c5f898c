-- The expression is read, and kept.
use Rattle.std.proofs.Common.{refl}
use Rattle.mt_reader.proofs.Fronts.{keeps_map}
use Rattle.mt_terms.specs.Inside.{IsExprInside}
use Rattle.mt_statements.specs.QueryDescent.{item_of}
use Rattle.mt_statements.specs.QueryInside.{IsItemInside}
use Rattle.mt_statements.proofs.item.item.Goals as goal

pub returns : goal.returns
unfolding item_of
returns c =
    let expr = c.in_ok-expr.ensures.taken in
    record {
      tree = record { expr = expr.tree; name = c.in_ok-name.name };
      reads = rw (expr.reads, c.in_ok-name.ensures) refl;
      keeps = rw c.named.ensures (keeps_map IsExprInside IsItemInside (λ e. record { expr = e; name = c.in_ok-name.name }) (λ e h. h) (λ e h. h) c.in_ok-expr.expr expr.tree expr.keeps);
    }
