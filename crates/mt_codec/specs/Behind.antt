-- The words of the functions that read what stands behind a flag.
use Rattle.std.specs.Prelude.{◌≡◌, ℕ, ◌≤◌, List, length, take, drop}
use Rattle.byteorder.specs.Endian.{little_number}
use Rattle.mt_value.specs.declared.value.Value.{Value}
use Rattle.mt_value.specs.declared.text.StrFault.{StrFault}
use Rattle.mt_value.specs.declared.text.StrFault.TheVariants.{NotUtf8, Memory}
use Rattle.mt_codec.specs.declared.field.FieldKind.{FieldKind}
use Rattle.mt_codec.specs.declared.field.FieldFault.{FieldFault}
use Rattle.mt_codec.specs.declared.field.FieldFault.TheVariants as fault
use Rattle.mt_codec.specs.Fields.{IsBehindFlag}

-- the bytes behind the flag of a value spell some value
abbrev pub IsSpelled : FieldKind → List ℕ → Type 0
IsSpelled kind rest = (value : Value) × IsBehindFlag kind rest value

-- the bytes stand behind their number, and the field has room for them; they need not be UTF-8
pub record IsCounted (size : ℕ) (rest : List ℕ) (text : List ℕ) : Type 0 where
  pub count : little_number 2 rest ≡ length text
  pub short : length text ≤ size
  pub bytes : take (length text) (drop 2 rest) ≡ text

-- the fault of a field whose text was not made
abbrev pub fault_of : StrFault → FieldFault
fault_of NotUtf8 = fault.Bad
fault_of Memory = fault.Memory
