-- The table says the same at each of the 256 bytes.
use Rattle.std.proofs.Common.{refl, arith}
use Rattle.mt_lexer.specs.declared.piece.TheConstants.{CLASSES}
use Rattle.mt_lexer.specs.Tokens.{is_in_word}
use Rattle.mt_lexer.proofs.Classes.{agree_below, has_other_class}
use Rattle.mt_lexer.proofs.piece.is_in_word.Goals as goal

pub returns : goal.returns
unfolding agree_below
returns c = has_other_class is_in_word 46 CLASSES c.args.byte (omega arith) refl
