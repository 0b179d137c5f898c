use Rattle.std.proofs.Common.{◌++◌, ◌≤◌, ◌∷◌, [], take, length, get_or, refl, sym, ap, ◌∙◌, arith}
use Rattle.mt_fold.specs.declared.shape.Shape.{Shape}
use Rattle.mt_fold.specs.declared.shape.Shape.TheVariants.{C1}
use Rattle.mt_fold.specs.Parts.{first_behind, parts_text}
use Rattle.mt_fold.specs.Texts.{chunk_names, chunk_parts, group_text, shape_name}
use Rattle.mt_fold.proofs.Printed.{behind_more, chunk_parts_all, chunk_parts_more, part_more}
use Rattle.mt_fold.proofs.text.push_chunks.Goals as goal

pub loop-chunk-preserved : goal.loop-chunk-preserved
loop-chunk-preserved c =
    let fold = c.args.fold.now in
    let columns = c.args.columns.now in
    let chunk = c.loop-chunk.chunk in
    let low = c.loop-chunk-test.true in
    let shape : Shape = get_or c.as_slice-shape-items.result.now chunk C1 in
    let more = chunk_parts_more fold columns chunk shape C1 (omega (arith, low, ap length c.as_slice-shape-items.ensures)) (ap (λ shapes. get_or shapes chunk C1) c.as_slice-shape-items.ensures) in
    let so_far = take chunk (chunk_parts fold columns) in
    let part = group_text (shape_name shape) (chunk_names fold columns chunk shape) in
    let push = c.in_ok-push_chunk.ensures ∙ ap (λ text. text ++ part) c.in_ok-push_separator.ensures in
    record {
      text =
          part_more c.args.first c.loop-chunk.first c.args.into.now c.loop-chunk.into c.push_chunk.new.into part so_far c.loop-chunk.invariant.text c.loop-chunk.invariant.behind push
          ∙ ap (λ parts. c.args.into.now ++ parts_text c.args.first parts) (sym more);
      behind = behind_more c.args.first c.loop-chunk.first _ so_far (part ∷ []) c.loop-chunk.invariant.behind refl ∙ ap (first_behind c.args.first) (sym more);
    }

pub returns : goal.returns
returns c =
    let past : length c.args.fold.now.shapes ≤ c.loop-chunk.chunk = omega (arith, ap length c.as_slice-shape-items.ensures) in
    c.loop-chunk.invariant.text ∙ ap (λ parts. c.args.into.now ++ parts_text c.args.first parts) (chunk_parts_all c.args.fold.now c.args.columns.now c.loop-chunk.chunk past)
