-- The added columns are as many as their kinds.
use Rattle.std.proofs.Common.{map, replicate, ◌++◌, ap, ◌∙◌}
use Rattle.std.proofs.lemmas.List.{length-map}
use Rattle.mt_value.specs.declared.value.Value.TheVariants.{Null}
use Rattle.mt_fold.specs.declared.fold.Placement.TheVariants.{Settled}
use Rattle.mt_fold.specs.Extended.{kinds_of}
use Rattle.mt_fold.specs.Shapes.{chunk_kind}
use Rattle.mt_rows.specs.Assembled.{assembled}
use Rattle.mt_rows.proofs.NullEnds.{rows_extended}
use Rattle.mt_rows.proofs.laws.extended_rows_end_in_nulls.Goals as goal

pub returns : goal.returns
returns c = λ content tenant base generation fold columns added base_len made shapes fill rules.
    rows_extended content tenant base generation fold (kinds_of added) shapes columns base_len made rules fill
    ∙ ap (λ n. map (λ row. record { visible = row.visible; values = row.values ++ replicate n Null }) (assembled content (record { tenant = tenant; base = base; placement = Settled generation fold })))
    (length-map added (λ column. chunk_kind column.kind))
