use Rattle.mt_codec.specs.declared.field.FieldKind.TheVariants.{Int}
use Rattle.mt_staging.proofs.Widths.{kinds_all, kinds_more}
use Rattle.mt_staging.proofs.parts.see_kinds.Goals as goal

pub loop-kind-preserved : goal.loop-kind-preserved
loop-kind-preserved c = kinds_more c.args.kinds.now c.loop-kind.kind-index Int c.loop-kind.invariant c.loop-kind-test.true c.see_kind.ensures

pub returns : goal.returns
returns c = kinds_all c.args.kinds.now c.loop-kind.kind-index c.loop-kind.invariant c.loop-kind-test.false
