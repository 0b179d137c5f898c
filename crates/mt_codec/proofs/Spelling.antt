-- What the bytes behind the flag of a value spell.
use Rattle.std.proofs.Common.{◌≡◌, ◌↔◌, ℕ, List, length, take, drop, Result, Ok, Err, IsTrue, IsErrOf, MatchResult, refl, sym, ap, subst, ◌∙◌, rules}
use Rattle.std.specs.Int.{w64, cast_signed}
use Rattle.std.specs.Str.{IsUtf8}
use Rattle.std.specs.Result.{is_ok, IsErrAnd}
use Rattle.byteorder.specs.Endian.{little_number}
use Rattle.mt_value.specs.declared.value.Value.{Value}
use Rattle.mt_value.specs.declared.value.Value.TheVariants as value
use Rattle.mt_codec.specs.declared.field.FieldKind.{FieldKind}
use Rattle.mt_codec.specs.declared.field.FieldKind.TheVariants.{Int, Text}
use Rattle.mt_codec.specs.declared.field.FieldFault.{FieldFault}
use Rattle.mt_codec.specs.declared.field.FieldFault.TheVariants.{Bad}
use Rattle.mt_value.specs.declared.text.StrFault.{StrFault}
use Rattle.mt_value.specs.declared.text.StrFault.TheVariants.{NotUtf8, Memory}
use Rattle.mt_codec.specs.Fields.{IsBehindFlag, IsField}
use Rattle.mt_codec.specs.Behind.{fault_of, IsCounted, IsSpelled}

-- eight bytes spell an integer
pub spelled_number : (rest : List ℕ) → IsSpelled Int rest
spelled_number rest = (value.Int (cast_signed w64 (little_number 8 rest)), refl)

-- two texts of one length that stand at one place are one
one_text : (xs a b : List ℕ) → take (length a) xs ≡ a → take (length b) xs ≡ b → length a ≡ length b → a ≡ b
one_text xs a b ha hb e = sym ha ∙ ap (λ (n : ℕ). take n xs) e ∙ hb

-- the bytes behind a length spell a text where they are UTF-8
pub spelled_text : (size : ℕ) (rest text : List ℕ) → IsCounted size rest text → IsUtf8 text → IsSpelled (Text size) rest
spelled_text size rest text h u =
    (value.Text text, record { count = h.count; short = h.short; bytes = h.bytes; utf8 = u })

-- and a text that is spelled is those bytes
pub utf8_of_spelled : (size : ℕ) (rest text : List ℕ) → IsCounted size rest text → IsSpelled (Text size) rest → IsUtf8 text
utf8_of_spelled size rest text h (value.Null, s) = absurd s
utf8_of_spelled size rest text h (value.Int z, s) = absurd s
utf8_of_spelled size rest text h (value.Text t, s) =
    let e : t ≡ text = one_text (drop 2 rest) t text s.bytes h.bytes (sym s.count ∙ h.count) in
    subst IsUtf8 e s.utf8

-- a check of the bytes behind a length is a check of the text
pub checked_text : {A E : Type 0} (r : Result A E) (P : A → Type 0) (Q : E → Type 0) (kind : FieldKind) (size : ℕ) (rest text : List ℕ)
    → MatchResult r (λ s. P s × IsUtf8 text) (λ e. (IsUtf8 text → ⊥) × Q e)
    → kind ≡ Text size → IsCounted size rest text → IsTrue (is_ok r) ↔ IsSpelled kind rest
checked_text (Ok s) P Q kind size rest text h is counted =
    rw is (λ _. spelled_text size rest text counted h.1, λ _. refl)
checked_text (Err e) P Q kind size rest text h is counted =
    rw is (λ t. cc, λ s. absurd (h.0 (utf8_of_spelled size rest text counted s)))

-- a value that is spelled is no fault
pub read_is_not_bad : (kind : FieldKind) (rest : List ℕ) (value : Value) → IsBehindFlag kind rest value
    → IsErrOf {T = Value} {E = FieldFault} (Ok value) Bad ↔ (IsSpelled kind rest → ⊥)
read_is_not_bad kind rest value h = (λ e. cc, λ n. absurd (n (value, h)))

-- a text that was not made is a bad field exactly where it is not UTF-8
pub fault_of_text : (r : Result Value FieldFault) (fault : StrFault) (kind : FieldKind) (size : ℕ) (rest text : List ℕ)
    → IsErrAnd r (λ e. e ≡ fault_of fault) → IsErrOf {T = List ℕ} {E = StrFault} (Err fault) NotUtf8 ↔ (IsUtf8 text → ⊥)
    → kind ≡ Text size → IsCounted size rest text → IsErrOf r Bad ↔ (IsSpelled kind rest → ⊥)
fault_of_text (Ok value) fault kind size rest text gives h is counted = absurd gives
fault_of_text (Err e) NotUtf8 kind size rest text gives h is counted =
    rw (is, gives) (λ _ s. h.0 refl (utf8_of_spelled size rest text counted s), λ _. refl)
fault_of_text (Err e) Memory kind size rest text gives h is counted =
    rw (is, gives) (λ b. cc, λ n. let no = h.1 (λ u. n (spelled_text size rest text counted u)) in cc)

-- bytes spell one value at most
pub one_value : (kind : FieldKind) (bytes : List ℕ) (a b : Value) → IsField kind bytes a → IsField kind bytes b → a ≡ b
one_value kind bytes a b ha hb = search rules
