-- What is written for a value that fits spells that value.
use Rattle.std.proofs.Common.{◌≡◌, ℕ, suc, ◌+◌, ◌-◌, ◌^◌, ◌≤◌, ◌<◌, ℤ, pos, neg_ℤ, ◌≤ℤ◌, ◌<ℤ◌, List, [], ◌++◌, length, replicate, FitsSigned, refl, sym, ap, ◌∙◌, arith, length-append}
use Rattle.std.specs.Int.{w64, cast_unsigned, cast_signed}
use Rattle.std.specs.Str.{IsUtf8}
use Rattle.std.proofs.lemmas.Int.{ints, to_z-of_z}
use Rattle.std.proofs.lemmas.List.{length-replicate, take_at}
use Rattle.byteorder.specs.Endian.{little_number, little_bytes}
use Rattle.byteorder.specs.Numbers.{little_number-reads_back}
use Rattle.mt_value.specs.declared.value.Value.{Value}
use Rattle.mt_value.specs.declared.value.Value.TheVariants as value
use Rattle.mt_codec.specs.declared.field.FieldKind.{FieldKind}
use Rattle.mt_codec.specs.declared.field.FieldKind.TheVariants.{Int, Text}
use Rattle.mt_codec.specs.Fields.{width_of, Fits, field_bytes, IsField, IsText, IsKind}

-- two's complement of an integer of 64 bits reads back
pub number_again : (z : ℤ) → neg_ℤ (pos (2 ^ 63)) ≤ℤ z → z <ℤ pos (2 ^ 63)
    → z ≡ cast_signed w64 (little_number 8 (little_bytes 8 (cast_unsigned w64 z)))
number_again z low high =
    let fits : FitsSigned w64 z = omega (arith, ints) in
    let below : cast_unsigned w64 z < 256 ^ 8 = omega (arith, ints) in
    let read : little_number 8 (little_bytes 8 (cast_unsigned w64 z)) ≡ cast_unsigned w64 z =
    little_number-reads_back 8 (cast_unsigned w64 z) [] below in
    sym (to_z-of_z w64 z fits) ∙ ap (cast_signed w64) (sym read)

-- a text behind its length reads back
pub text_again : (size : ℕ) (text : List ℕ) (zeros : List ℕ) → size < 2 ^ 8 → length text ≤ size → IsUtf8 text
    → IsText size (little_bytes 2 (length text) ++ text ++ zeros) text
text_again size text zeros byte short utf8 = record {
  count = little_number-reads_back 2 (length text) (text ++ zeros) (omega arith);
  short = short;
  bytes = take_at text zeros (length text) refl;
  utf8 = utf8;
}

-- the bytes of NULL
pub null_again : (kind : FieldKind) → IsField kind (replicate (width_of kind) 0) value.Null
null_again Int = record { size = refl; flagged = refl }
null_again (Text size) =
    let more : 3 + size ≡ suc (2 + size) = omega arith in
    rw more (record { size = omega (arith, length-replicate {A = ℕ} (2 + size) 0); flagged = refl })

-- what is written for a value that fits spells that value
pub field_again : (kind : FieldKind) (value : Value) → IsKind kind → Fits kind value → IsField kind (field_bytes kind value) value
field_again kind value.Null byte fits = null_again kind
field_again Int (value.Int z) byte fits = record { size = refl; flagged = (refl, number_again z fits.0 fits.1) }
field_again Int (value.Text text) byte fits = absurd fits
field_again (Text size) (value.Int z) byte fits = absurd fits
field_again (Text size) (value.Text text) byte fits =
    let zeros = replicate (3 + size - 3 - length text) 0 in
    record {
      size = let short = fits.0 in omega (arith, length-append text zeros, length-replicate {A = ℕ} (3 + size - 3 - length text) 0);
      flagged = (refl, text_again size text zeros byte fits.0 fits.1);
    }
