-- The bytes of a field.
use Rattle.std.specs.Prelude.{◌≡◌, ℕ, ◌+◌, ◌-◌, ◌^◌, ◌≤◌, ◌<◌, pos, neg_ℤ, ◌≤ℤ◌, ◌<ℤ◌, List, [], ◌∷◌, ◌++◌, length, take, drop, replicate}
use Rattle.std.specs.Int.{w64, cast_unsigned, cast_signed}
use Rattle.std.specs.Str.{IsUtf8}
use Rattle.byteorder.specs.Endian.{little_number, little_bytes}
use Rattle.mt_value.specs.declared.value.Value.{Value}
use Rattle.mt_value.specs.declared.value.Value.TheVariants as value
use Rattle.mt_codec.specs.declared.field.FieldKind.{FieldKind}
use Rattle.mt_codec.specs.declared.field.FieldKind.TheVariants.{Int, Text}

-- how many bytes a field has
abbrev pub width_of : FieldKind → ℕ
width_of Int = 9
width_of (Text size) = 3 + size

-- the value can be written to a field of this kind
abbrev pub Fits : FieldKind → Value → Type 0
Fits kind value.Null = Unit {0}
Fits Int (value.Int z) = (neg_ℤ (pos (2 ^ 63)) ≤ℤ z) × (z <ℤ pos (2 ^ 63))
Fits Int (value.Text text) = ⊥
Fits (Text size) (value.Int z) = ⊥
Fits (Text size) (value.Text text) = (length text ≤ size) × IsUtf8 text

-- What is written: a flag, 0 for NULL and 1 for a value; an integer in 8 bytes of two's complement,
-- or the length of a text in 2 bytes and the text; and zeros behind.
abbrev pub field_bytes : FieldKind → Value → List ℕ
field_bytes kind value.Null = replicate (width_of kind) 0
field_bytes kind (value.Int z) = 1 ∷ little_bytes 8 (cast_unsigned w64 z)
field_bytes kind (value.Text text) = 1 ∷ (little_bytes 2 (length text) ++ text ++ replicate (width_of kind - 3 - length text) 0)

-- The bytes of a text behind its length; what stands behind them is not read.
pub record IsText (size : ℕ) (rest : List ℕ) (text : List ℕ) : Type 0 where
  pub count : little_number 2 rest ≡ length text
  pub short : length text ≤ size
  pub bytes : take (length text) (drop 2 rest) ≡ text
  pub utf8 : IsUtf8 text

-- what stands behind the flag of a value
abbrev pub IsBehindFlag : FieldKind → List ℕ → Value → Type 0
IsBehindFlag kind rest value.Null = ⊥
IsBehindFlag Int rest (value.Int z) = z ≡ cast_signed w64 (little_number 8 rest)
IsBehindFlag Int rest (value.Text text) = ⊥
IsBehindFlag (Text size) rest (value.Int z) = ⊥
IsBehindFlag (Text size) rest (value.Text text) = IsText size rest text

-- Behind the flag 0 nothing is read; another flag than 0 and 1 spells nothing.
abbrev pub IsFlagged : FieldKind → List ℕ → Value → Type 0
IsFlagged kind [] value = ⊥
IsFlagged kind (flag ∷ rest) value.Null = flag ≡ 0
IsFlagged kind (flag ∷ rest) value = (flag ≡ 1) × IsBehindFlag kind rest value

-- the bytes spell the value
pub record IsField (kind : FieldKind) (bytes : List ℕ) (value : Value) : Type 0 where
  pub size : length bytes ≡ width_of kind
  pub flagged : IsFlagged kind bytes value

-- the bytes spell some value
abbrev pub IsSpelling : FieldKind → List ℕ → Type 0
IsSpelling kind bytes = (value : Value) × IsField kind bytes value

-- a kind that the program can have: the size of a text is a byte
abbrev pub IsKind : FieldKind → Type 0
IsKind Int = Unit {0}
IsKind (Text size) = size < 2 ^ 8
