-- What a call that reads a text answers: what the text says, or why it says nothing that is served.
use Rattle.std.specs.Prelude.{Result, Ok, Err}
use Rattle.mt_reader.specs.declared.parse.ParseFault.{ParseFault}
use Rattle.mt_reader.specs.declared.parse.ParseFault.TheVariants as parse
use Rattle.mt_model.specs.Said.{Said, Unread, Outside, Unserved, Says}
use Rattle.mt_private.specs.declared.said.ServeFault.{ServeFault}
use Rattle.mt_private.specs.declared.said.ServeFault.TheVariants as fault

-- a text without a tree is none that is served
abbrev pub fault_of : ParseFault → ServeFault
fault_of parse.Syntax = fault.Unread
fault_of parse.Literal = fault.Outside
fault_of parse.Memory = fault.Memory

-- want of memory says nothing
abbrev pub ServesAs : {T : Type 0} → (Said T → Type 0) → Result T ServeFault → Type 0
ServesAs says (Ok x) = says (Says x)
ServesAs says (Err fault.Unread) = says Unread
ServesAs says (Err fault.Outside) = says Outside
ServesAs says (Err fault.Unserved) = says Unserved
ServesAs says (Err fault.Memory) = Unit {0}
