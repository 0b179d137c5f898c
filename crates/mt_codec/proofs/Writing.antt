-- What the writes to parts of a field leave in it.
use Rattle.std.proofs.Common.{◌≡◌, ℕ, suc, ◌+◌, ◌-◌, ◌≤◌, ◌<◌, ℤ, List, [], ◌∷◌, ◌++◌, length, take, drop, replicate, set, refl, ap, ◌∙◌, arith, length-append, length-drop}
use Rattle.std.proofs.lemmas.List.{take_at, drop_at, drop_all, take_all, append-nil}
use borrow.Rule.Slice.PartMut.{put_mid}
use Rattle.mt_value.specs.declared.value.Value.{Value}
use Rattle.mt_value.specs.declared.value.Value.TheVariants as value
use Rattle.mt_codec.specs.declared.field.FieldKind.{FieldKind}
use Rattle.mt_codec.specs.declared.field.FieldKind.TheVariants.{Int, Text}
use Rattle.mt_codec.specs.Fields.{width_of, Fits}

-- a field that a number fits has nine bytes
pub width_for_number : (kind : FieldKind) (v : Value) (z : ℤ) → v ≡ value.Int z → Fits kind v → width_of kind ≡ 9
width_for_number Int v z is fits = refl
width_for_number (Text size) v z is fits = absurd (rw is at fits)

-- a field has a byte for the flag
pub width_positive : (kind : FieldKind) → 0 < width_of kind
width_positive Int = omega arith
width_positive (Text size) = omega arith

-- what stands behind the first place
pub behind_set : (out : List ℕ) (x : ℕ) → take (length (set out 0 x) - 1) (drop 1 (set out 0 x)) ≡ drop 1 out
behind_set [] x = refl
behind_set (y ∷ out) x = take_all (length (x ∷ out) - 1) out (omega arith)

-- a first byte, and a write to all behind it
pub put_mid-behind : (out ys : List ℕ) (x : ℕ) → 0 < length out → put_mid 1 (length (set out 0 x) - 1) (set out 0 x) ys ≡ x ∷ ys
put_mid-behind [] ys x h = absurd (omega arith)
put_mid-behind (y ∷ out) ys x h =
    let rest = drop_all (length (x ∷ out) - 1) out (omega arith) in
    rw (rest, append-nil) refl

-- bytes that take all the place behind the first
pub all_behind : (out bytes : List ℕ) (x n : ℕ) → length out ≡ suc n → bytes ++ drop n (take (length (set out 0 x) - 1) (drop 1 (set out 0 x))) ≡ bytes
all_behind out bytes x n h =
    let none = drop_all n (drop 1 out) (omega (arith, length-drop 1 out)) in
    rw (behind_set out x, none) (append-nil bytes)

-- a write behind a front
put_mid-front : (front back ys : List ℕ) (a k : ℕ) → length front ≡ a → put_mid a k (front ++ back) ys ≡ front ++ (ys ++ drop k back)
put_mid-front front back ys a k e =
    rw (take_at front back a e, drop_at front back a e) refl

-- zeros in all the place behind a front
zeros_behind : (all front back zeros : List ℕ) (a : ℕ) → all ≡ front ++ back → length front ≡ a
    → zeros ≡ replicate (length (take (length all - a) (drop a all))) 0
    → put_mid a (length all - a) all zeros ≡ front ++ replicate (length back) 0
zeros_behind all front back zeros a is e z =
    let size = length-append front back in
    let long : length back ≤ length (front ++ back) - a = omega arith in
    let whole = take_all (length (front ++ back) - a) back long in
    let none = drop_all (length (front ++ back) - a) back long in
    let filled : zeros ≡ replicate (length back) 0 = z ∙ rw (is, drop_at front back a e, whole) refl in
    rw (is, put_mid-front front back zeros a (length (front ++ back) - a) e, none, append-nil, filled) refl

-- a text behind the two bytes of its length, and zeros behind it
pub text_placed : (x y : ℕ) (rest text first second third : List ℕ) → 2 + length text ≤ length rest
    → first ≡ x ∷ y ∷ drop 2 rest → second ≡ text
    → third ≡ replicate (length (take (length (put_mid 2 (2 + length text - 2) first second) - (2 + length text)) (drop (2 + length text) (put_mid 2 (2 + length text - 2) first second)))) 0
    → put_mid (2 + length text) (length (put_mid 2 (2 + length text - 2) first second) - (2 + length text)) (put_mid 2 (2 + length text - 2) first second) third
    ≡ x ∷ y ∷ (text ++ replicate (length rest - 2 - length text) 0)
text_placed x y rest text first second third room is1 is2 is3 =
    let back = drop (2 + length text - 2) (drop 2 rest) in
    let two : put_mid 2 (2 + length text - 2) first second ≡ x ∷ y ∷ (text ++ back) =
    rw (is1, is2) (put_mid-front (x ∷ y ∷ []) (drop 2 rest) text 2 (2 + length text - 2) refl) in
    let left : length back ≡ length rest - 2 - length text = omega (arith, length-drop (2 + length text - 2) (drop 2 rest), length-drop 2 rest) in
    zeros_behind (put_mid 2 (2 + length text - 2) first second) (x ∷ y ∷ text) back third (2 + length text) two (omega arith) is3
    ∙ ap (λ (n : ℕ). x ∷ y ∷ (text ++ replicate n 0)) left
