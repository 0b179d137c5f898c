-- What is written for fields.
use Rattle.std.proofs.Common.{◌≡◌, ℕ, zero, suc, ◌+◌, ◌-◌, ◌<◌, ◌≤◌, List, [], ◌∷◌, ◌++◌, length, take, drop, get_or, replicate, refl, sym, ap, ◌∙◌, arith, append_assoc, length-append}
use Rattle.std.proofs.lemmas.List.{append-nil, take_at, length-replicate, length-take}
use Rattle.std.proofs.lemmas.List.Sums.{sum_by-cons, sum_by_more_le}
use Rattle.mt_value.specs.declared.value.Value.{Value}
use Rattle.mt_value.specs.declared.value.Value.TheVariants as value
use Rattle.mt_codec.specs.declared.field.FieldKind.{FieldKind}
use Rattle.mt_codec.specs.declared.field.FieldKind.TheVariants.{Int, Text}
use Rattle.mt_codec.specs.Fields.{Fits, field_bytes, width_of}
use Rattle.mt_rowfile.specs.Fields.{AreFitting, fields_bytes}
use Rattle.mt_rowfile.specs.Layouts.{fields_width}

-- there is a value for each field
pub fitting_same : (kinds : List FieldKind) (values : List Value) → AreFitting kinds values → length values ≡ length kinds
fitting_same [] [] fit = refl
fitting_same [] (v ∷ values) fit = absurd fit
fitting_same (kind ∷ kinds) [] fit = absurd fit
fitting_same (kind ∷ kinds) (v ∷ values) fit = ap suc (fitting_same kinds values fit.1)

-- the value of a field fits it
pub fitting_at : (kinds : List FieldKind) (values : List Value) (i : ℕ) (k : FieldKind) (v : Value) → AreFitting kinds values → i < length kinds
    → Fits (get_or kinds i k) (get_or values i v)
fitting_at [] values i k v fit within = absurd (omega arith)
fitting_at (kind ∷ kinds) [] i k v fit within = absurd fit
fitting_at (kind ∷ kinds) (w ∷ values) zero k v fit within = fit.0
fitting_at (kind ∷ kinds) (w ∷ values) (suc i) k v fit within = fitting_at kinds values i k v fit.1 (omega arith)

-- a field is as wide as its kind says
pub field_long : (kind : FieldKind) (v : Value) → Fits kind v → length (field_bytes kind v) ≡ width_of kind
field_long kind value.Null fits = length-replicate {A = ℕ} (width_of kind) 0
field_long Int (value.Int z) fits = refl
field_long Int (value.Text text) fits = absurd fits
field_long (Text size) (value.Int z) fits = absurd fits
field_long (Text size) (value.Text text) fits =
    let unused = 3 + size - 3 - length text in
    let short = fits.0 in
    omega (arith, length-append text (replicate {A = ℕ} unused 0), length-replicate {A = ℕ} unused 0)

-- and so are all
pub fields_long : (kinds : List FieldKind) (values : List Value) → AreFitting kinds values → length (fields_bytes kinds values) ≡ fields_width kinds
fields_long [] [] fit = refl
fields_long [] (v ∷ values) fit = absurd fit
fields_long (kind ∷ kinds) [] fit = absurd fit
fields_long (kind ∷ kinds) (v ∷ values) fit =
    let first = field_long kind v fit.0 in
    let rest = fields_long kinds values fit.1 in
    omega (arith, length-append (field_bytes kind v) (fields_bytes kinds values), sum_by-cons width_of kind kinds)

-- the bytes of one field more
bytes_more : (kinds : List FieldKind) (values : List Value) (i : ℕ) (k : FieldKind) (v : Value) → i < length kinds → length values ≡ length kinds
    → fields_bytes (take (suc i) kinds) (take (suc i) values) ≡ fields_bytes (take i kinds) (take i values) ++ field_bytes (get_or kinds i k) (get_or values i v)
bytes_more [] values i k v within same = absurd (omega arith)
bytes_more (kind ∷ kinds) [] i k v within same = absurd (omega arith)
bytes_more (kind ∷ kinds) (w ∷ values) zero k v within same = append-nil (field_bytes kind w)
bytes_more (kind ∷ kinds) (w ∷ values) (suc i) k v within same =
    let rest = bytes_more kinds values i k v (omega arith) (omega arith) in
    rw rest (sym (append_assoc (field_bytes kind w) (fields_bytes (take i kinds) (take i values)) (field_bytes (get_or kinds i k) (get_or values i v))))

-- there is room for the next field
pub room_for : (kinds : List FieldKind) (i at : ℕ) (k : FieldKind) (out : List ℕ) → i < length kinds → at ≡ fields_width (take i kinds)
    → length out ≡ fields_width kinds → at + width_of (get_or kinds i k) ≤ length out
room_for kinds i at k out within is all = omega (arith, sum_by_more_le width_of kinds i k within)

-- one field more was written
pub front_more : (kinds : List FieldKind) (values : List Value) (i at : ℕ) (k : FieldKind) (v : Value) (out new : List ℕ)
    → i < length kinds → length values ≡ length kinds → Fits (get_or kinds i k) (get_or values i v)
    → at + width_of (get_or kinds i k) ≤ length out → take at out ≡ fields_bytes (take i kinds) (take i values)
    → new ≡ (take at out ++ field_bytes (get_or kinds i k) (get_or values i v)) ++ drop (at + width_of (get_or kinds i k)) out
    → take (at + width_of (get_or kinds i k)) new ≡ fields_bytes (take (suc i) kinds) (take (suc i) values)
front_more kinds values i at k v out new within same fits room front is =
    let width = width_of (get_or kinds i k) in
    let field = field_bytes (get_or kinds i k) (get_or values i v) in
    let long : length (take at out ++ field) ≡ at + width =
    omega (arith, length-append (take at out) field, field_long (get_or kinds i k) (get_or values i v) fits, length-take at out) in
    rw is (take_at (take at out ++ field) (drop (at + width) out) (at + width) long)
    ∙ ap (λ (xs : List ℕ). xs ++ field) front ∙ sym (bytes_more kinds values i k v within same)
