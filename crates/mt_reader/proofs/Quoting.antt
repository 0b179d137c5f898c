-- Texts between quotes, in which each quote stands twice.
use Rattle.std.proofs.Common.{◌≡◌, ℕ, ◌+◌, ◌-◌, ◌<◌, ◌≤◌, ◌==◌, Bool, true, false, cond, min, position, suc, nat_lt, Some, None, List, [], ◌∷◌, ◌++◌, length, take, drop, get_or, refl, sym, ap, ◌∙◌, subst, inl, inr, arith}
use Rattle.std.proofs.Math.Seq.{take-append_seam, drop-append-add, get_or-append_seam}
use Rattle.std.proofs.lemmas.Bool.{ne_eqb}
use Rattle.std.proofs.lemmas.Bool.Decides.{nat_tests}
use Rattle.std.proofs.lemmas.Grind.{common_steps}
use Rattle.std.proofs.lemmas.List.{append_assoc, length-append, take-append-drop}
use Rattle.std.proofs.lemmas.Str.{IsUtf8-append, IsUtf8-take, IsUtf8-drop, IsCharBoundary-before_ascii, IsCharBoundary-after_ascii}
use Rattle.std.specs.List.{position_or_len, slice_range}
use Rattle.std.specs.Str.{IsUtf8}
use Rattle.mt_value.proofs.Doubling.{doubled-cons}
use Rattle.mt_lexer.specs.Tokens.{doubled}
use Rattle.mt_reader.specs.Pieces.{undoubled, undoubled_behind}

-- doubling is undone
pub undoubled-doubled : (text : List ℕ) → undoubled (doubled text) ≡ text
undoubled-doubled [] = refl
undoubled-doubled (b ∷ bs) = elim (doubled-cons b bs) [
  | inl w ↦ ap undoubled w.1 ∙ ap (λ xs. 39 ∷ xs) (undoubled-doubled bs) ∙ ap (λ x. x ∷ bs) (sym w.0)
  | inr w ↦ ap undoubled w.1 ∙ ap (λ q. b ∷ undoubled_behind q (doubled bs)) (ne_eqb b 39 w.0) ∙ ap (λ xs. b ∷ xs) (undoubled-doubled bs)
]

-- what stands between the quotes
pub between_quotes : (bytes inside : List ℕ) → bytes ≡ 39 ∷ (inside ++ 39 ∷ []) → take (length bytes - 1 - 1) (drop 1 bytes) ≡ inside
between_quotes bytes inside e =
    let n : length (39 ∷ (inside ++ 39 ∷ [])) - 1 - 1 ≡ length inside = omega (arith, length-append inside (39 ∷ [])) in
    ap (λ xs. take (length xs - 1 - 1) (drop 1 xs)) e ∙ ap (λ k. take k (inside ++ 39 ∷ [])) n ∙ take-append_seam inside (39 ∷ [])

-- what stands before a quote of a text is a text
front_utf8 : (xs ys : List ℕ) → IsUtf8 (xs ++ 39 ∷ ys) → IsUtf8 xs
front_utf8 xs ys u =
    let all = xs ++ 39 ∷ ys in
    let at : get_or all (length xs) 0 ≡ 39 = get_or-append_seam xs 39 ys 0 in
    let low : get_or all (length xs) 0 < 128 = omega arith in
    let within : length xs < length all = omega (arith, length-append xs (39 ∷ ys)) in
    subst IsUtf8 (take-append_seam xs (39 ∷ ys)) (IsUtf8-take all (length xs) u (IsCharBoundary-before_ascii all (length xs) within low))

-- what stands behind a quote of a text is a text
back_utf8 : (xs ys : List ℕ) → IsUtf8 (xs ++ 39 ∷ ys) → IsUtf8 ys
back_utf8 xs ys u =
    let all = xs ++ 39 ∷ ys in
    let at : get_or all (length xs) 0 ≡ 39 = get_or-append_seam xs 39 ys 0 in
    let low : get_or all (length xs) 0 < 128 = omega arith in
    let within : length xs < length all = omega (arith, length-append xs (39 ∷ ys)) in
    subst IsUtf8 (drop-append-add xs (39 ∷ ys) 1) (IsUtf8-drop all (length xs + 1) u (IsCharBoundary-after_ascii all (length xs) u within low))

-- a text without one of its quotes is a text
without_quote : (xs ys : List ℕ) → IsUtf8 (xs ++ 39 ∷ ys) → IsUtf8 (xs ++ ys)
without_quote xs ys u = IsUtf8-append xs ys (front_utf8 xs ys u) (back_utf8 xs ys u)

-- a text without the doubled quotes is a text
undoubled_utf8 : (xs text : List ℕ) → IsUtf8 (xs ++ doubled text) → IsUtf8 (xs ++ text)
undoubled_utf8 xs [] u = u
undoubled_utf8 xs (b ∷ bs) u = elim (doubled-cons b bs) [
  | inl w ↦
      let v : IsUtf8 (xs ++ 39 ∷ 39 ∷ doubled bs) = subst (λ ys. IsUtf8 (xs ++ ys)) w.1 u in
      let once : IsUtf8 ((xs ++ 39 ∷ []) ++ doubled bs) = subst IsUtf8 (sym (append_assoc xs (39 ∷ []) (doubled bs))) (without_quote xs (39 ∷ doubled bs) v) in
      subst (λ x. IsUtf8 (xs ++ x ∷ bs)) (sym w.0) (subst IsUtf8 (append_assoc xs (39 ∷ []) bs) (undoubled_utf8 (xs ++ 39 ∷ []) bs once))
  | inr w ↦
      let v : IsUtf8 (xs ++ b ∷ doubled bs) = subst (λ ys. IsUtf8 (xs ++ ys)) w.1 u in
      let once : IsUtf8 ((xs ++ b ∷ []) ++ doubled bs) = subst IsUtf8 (sym (append_assoc xs (b ∷ []) (doubled bs))) v in
      subst IsUtf8 (append_assoc xs (b ∷ []) bs) (undoubled_utf8 (xs ++ b ∷ []) bs once)
]

-- the text between the quotes of a part of a text
pub quoted_utf8 : (text : List ℕ) (from upto : ℕ) (quoted : List ℕ) → IsUtf8 text → slice_range text from upto ≡ 39 ∷ (doubled quoted ++ 39 ∷ []) → IsUtf8 quoted
quoted_utf8 text from upto quoted u e =
    let n = upto - from in
    let rest = drop n (drop from text) in
    let behind : drop from text ≡ 39 ∷ (doubled quoted ++ 39 ∷ rest) = sym (take-append-drop n (drop from text)) ∙ ap (λ xs. xs ++ rest) e ∙ ap (λ xs. 39 ∷ xs) (append_assoc (doubled quoted) (39 ∷ []) rest) in
    let all : text ≡ take from text ++ 39 ∷ (doubled quoted ++ 39 ∷ rest) = sym (take-append-drop from text) ∙ ap (λ xs. take from text ++ xs) behind in
    let back : IsUtf8 (doubled quoted ++ 39 ∷ rest) = back_utf8 (take from text) (doubled quoted ++ 39 ∷ rest) (subst IsUtf8 all u) in
    undoubled_utf8 [] quoted (front_utf8 (doubled quoted) rest back)

-- how many bytes stand before the first quote
abbrev pub quote_place : List ℕ → ℕ
quote_place bytes = position_or_len (λ b. b == 39) bytes

-- behind a quote its second is left out
behind_quote : (bytes : List ℕ) → undoubled_behind true bytes ≡ undoubled (drop 1 bytes)
behind_quote [] = refl
behind_quote (b ∷ bs) = refl

-- the place of a quote that stands first, and of any other
quote_here : (b : ℕ) (bs : List ℕ) → (b == 39) ≡ true → quote_place (b ∷ bs) ≡ 0
quote_here b bs e = rw e refl

quote_behind : (b : ℕ) (bs : List ℕ) → (b == 39) ≡ false → quote_place (b ∷ bs) ≡ suc (quote_place bs)
quote_behind b bs e = rw e (omega arith)

-- up to the first quote bytes are kept, and it is, and its second is left out
undoubled-split : (bytes : List ℕ) (n : ℕ) → quote_place bytes ≡ n → undoubled bytes ≡ take (suc n) bytes ++ undoubled (drop (suc (suc n)) bytes)
undoubled-split [] n e = refl
undoubled-split (b ∷ bs) n e = by (b == 39) refl (undoubled-split bs (quote_place bs) refl) where
  by : (quote : Bool) → (b == 39) ≡ quote → undoubled bs ≡ take (suc (quote_place bs)) bs ++ undoubled (drop (suc (suc (quote_place bs))) bs) → undoubled (b ∷ bs) ≡ take (suc n) (b ∷ bs) ++ undoubled (drop (suc (suc n)) (b ∷ bs))
  by true q more = let here : n ≡ 0 = sym e ∙ quote_here b bs q in subst (λ k. undoubled (b ∷ bs) ≡ take (suc k) (b ∷ bs) ++ undoubled (drop (suc (suc k)) (b ∷ bs))) (sym here) (rw q (ap (λ xs. b ∷ xs) (behind_quote bs)))
  by false q more = let behind : n ≡ suc (quote_place bs) = sym e ∙ quote_behind b bs q in subst (λ k. undoubled (b ∷ bs) ≡ take (suc k) (b ∷ bs) ++ undoubled (drop (suc (suc k)) (b ∷ bs))) (sym behind) (rw q (ap (λ xs. b ∷ xs) more))

-- where no quote stands all are kept
undoubled-whole : (bytes : List ℕ) (n : ℕ) → quote_place bytes ≡ n → length bytes ≤ n → undoubled bytes ≡ bytes
undoubled-whole [] n e h = refl
undoubled-whole (b ∷ bs) n e h = by (b == 39) refl (λ more. undoubled-whole bs (quote_place bs) refl more) where
  by : (quote : Bool) → (b == 39) ≡ quote → (length bs ≤ quote_place bs → undoubled bs ≡ bs) → undoubled (b ∷ bs) ≡ b ∷ bs
  by true q on = let here : n ≡ 0 = sym e ∙ quote_here b bs q in absurd (omega arith)
  by false q on = let behind : n ≡ suc (quote_place bs) = sym e ∙ quote_behind b bs q in rw q (ap (λ xs. b ∷ xs) (on (omega arith)))

-- a part that begins at the end or behind it is empty
drop_within : (bytes : List ℕ) (n : ℕ) → drop (min (length bytes) n) bytes ≡ drop n bytes
drop_within bytes n = grind (arith, common_steps)

-- where the first quote is found bytes are kept up to it, and its second is left out
pub quote_found : (bytes : List ℕ) (at : ℕ) → Some at ≡ position (λ b. b == 39) bytes → undoubled bytes ≡ take (at + 1) bytes ++ undoubled (drop (min (length bytes) (at + 2)) bytes)
quote_found bytes at e = by (nat_lt (quote_place bytes) (length bytes)) e where
  by : (within : Bool) → Some at ≡ cond within (Some (quote_place bytes)) None → undoubled bytes ≡ take (at + 1) bytes ++ undoubled (drop (min (length bytes) (at + 2)) bytes)
  by true f =
      let place : quote_place bytes ≡ at = cc in
      let one : suc at ≡ at + 1 = omega arith in
      let two : suc (suc at) ≡ at + 2 = omega arith in
      undoubled-split bytes at place ∙ ap (λ n. take n bytes ++ undoubled (drop (suc (suc at)) bytes)) one ∙ ap (λ n. take (at + 1) bytes ++ undoubled (drop n bytes)) two ∙ ap (λ xs. take (at + 1) bytes ++ undoubled xs) (sym (drop_within bytes (at + 2)))
  by false f = cc

-- where none is found all are kept
pub quote_not_found : (bytes : List ℕ) → None ≡ position (λ b. b == 39) bytes → undoubled bytes ≡ bytes
quote_not_found bytes e = by (nat_lt (quote_place bytes) (length bytes)) refl e where
  by : (within : Bool) → nat_lt (quote_place bytes) (length bytes) ≡ within → None ≡ cond within (Some (quote_place bytes)) None → undoubled bytes ≡ bytes
  by true w f = cc
  by false w f = undoubled-whole bytes (quote_place bytes) refl (grind (arith, nat_tests))
