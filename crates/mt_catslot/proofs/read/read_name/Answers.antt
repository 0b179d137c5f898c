use Rattle.std.proofs.Common.{Err, ap}
use Rattle.mt_value.specs.declared.text.StrFault.{StrFault}
use Rattle.mt_catslot.proofs.Reading.{name_utf8}
use Rattle.mt_catslot.proofs.read.read_name.Goals as goal

pub unreachable-requires : goal.unreachable-requires
unreachable-requires c =
    c.in-Err-NotUtf8.ensures.not_utf8.0 (ap (λ (fault : StrFault). Err fault) c.in-Err-NotUtf8.field-0-is)
    (name_utf8 c.args.bytes.now c.from-end.result c.from-end.ensures c.requires.named)
