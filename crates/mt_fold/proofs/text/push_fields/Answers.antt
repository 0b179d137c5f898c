use Rattle.std.proofs.Common.{◌++◌, true, sym, ap, ◌∙◌}
use Rattle.mt_fold.specs.declared.fold.Place.TheVariants.{Field}
use Rattle.mt_fold.specs.Parts.{first_behind, parts_text}
use Rattle.mt_fold.specs.Texts.{names_at}
use Rattle.mt_fold.proofs.Printed.{behind_more, names_in, names_in_more, parts_more}
use Rattle.mt_fold.proofs.text.push_fields.Goals as goal

pub loop-field-preserved : goal.loop-field-preserved
loop-field-preserved c =
    let fold = c.args.fold.now in
    let columns = c.args.columns.now in
    let more = names_in_more fold columns c.args.chunk c.loop-field.field in
    let so_far = names_in fold columns c.args.chunk c.loop-field.field in
    let names = names_at fold columns (Field c.args.chunk c.loop-field.field) in
    record {
      text =
          parts_more true c.loop-field.first c.args.into.now c.loop-field.into c.push_names.new.into so_far names c.loop-field.invariant.text c.loop-field.invariant.behind c.in_ok-first.ensures.text
          ∙ ap (λ names. c.args.into.now ++ parts_text true names) (sym more);
      behind = behind_more true c.loop-field.first c.in_ok-first.first so_far names c.loop-field.invariant.behind c.in_ok-first.ensures.first ∙ ap (first_behind true) (sym more);
    }
