-- Why a text with no tokens is refused.
use Rattle.std.specs.Prelude.{◌≡◌}
use Rattle.mt_lexer.specs.declared.scan.LexFault.{LexFault}
use Rattle.mt_lexer.specs.declared.scan.LexFault.TheVariants as lexer
use Rattle.mt_reader.specs.declared.fault.ReadFault.{ReadFault}
use Rattle.mt_reader.specs.declared.fault.ReadFault.TheVariants as fault
use Rattle.mt_reader.specs.declared.parse.ParseFault.{ParseFault}
use Rattle.mt_reader.specs.declared.parse.ParseFault.TheVariants as parse

-- what has no tokens has no form
abbrev pub FaultOf : LexFault → ReadFault → Type 0
FaultOf (lexer.Bad at) answer = answer ≡ fault.Unread
FaultOf lexer.Memory answer = answer ≡ fault.Memory

-- and is no statement and no command
abbrev pub ParseFaultOf : LexFault → ParseFault → Type 0
ParseFaultOf (lexer.Bad at) answer = answer ≡ parse.Syntax
ParseFaultOf lexer.Memory answer = answer ≡ parse.Memory
