-- A table has no condition, and so no number.
use Rattle.std.proofs.Common.{refl, sym, ap, ◌∙◌, subst}
use Rattle.std.specs.Prelude.{IfSome}
use Rattle.mt_terms.specs.Inside.{IsCondInside}
use Rattle.mt_statements.specs.QueryDescent.{following_of}
use Rattle.mt_statements.proofs.Tables.{table_alone}
use Rattle.mt_statements.proofs.reference.following.Goals as goal

pub returns-in_ok-table-in-Listed : goal.returns-in_ok-table-in-Listed
unfolding following_of
returns-in_ok-table-in-Listed c =
    let read = c.in_ok-table-in-Listed.ensures in
    let ref = c.in_ok-table-in-Listed.field-0 in
    record {
      tree = ref;
      reads = ap (λ start. following_of start c.args.reader.now) c.in-Listed.is ∙ read;
      keeps = (refl, subst (λ on. IfSome on IsCondInside) (sym (table_alone c.args.reader.now c.table.new.reader ref read)) tt);
    }
