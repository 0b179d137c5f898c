use Rattle.mt_codec.proofs.Writing.{text_placed}
use Rattle.mt_codec.proofs.field.write_text.Goals as goal

pub returns : goal.returns
returns c =
    text_placed _ _ c.args.rest.now c.args.text.now c.write_u16.new.buf c.copy_from_slice.new.self c.fill.new.self
    c.requires.room c.write_u16.ensures c.copy_from_slice.ensures.after (c.fill.ensures.after (λ y e. e))
