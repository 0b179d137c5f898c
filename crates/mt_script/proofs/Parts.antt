-- What the parts of a reader find in plain bytes.
use Rattle.std.proofs.Common.{◌≡◌, ℕ, suc, ◌+◌, ◌-◌, ◌<◌, ◌≤◌, false, List, ◌∷◌, ◌++◌, Some, None, length, take, drop, min, slice_range, get_or, sym, ◌∙◌, ap, subst, arith, nat_eq, ⊎_elim, length-take}
use Rattle.std.specs.List.{copy_within}
use Rattle.std.proofs.Math.Seq.{take-add}
use Rattle.std.proofs.lemmas.List.{take-append-drop, take_rest, take_all, take-take, get_or-drop, drop_more, length-drop, take_at, drop-take, drop-drop}
use Rattle.std.proofs.lemmas.Bool.{or_from, eqb-true, cases_lt}
use Rattle.memchr.specs.Find.{IsFirstByte, is_byte}
use Rattle.mt_script.specs.Lines.{Text, line_of, has_line_feed}
use Rattle.mt_script.specs.Steps.{IsPlaced, IsFirstFeed, GivesFront}
use Rattle.mt_script.proofs.Lines.{has_line_feed-append, has_line_feed-take, has_line_feed_nowhere, line_of-short, without_return-return, without_return-other}

-- a line with a carriage return at its end is given without it
pub GivesFront-return : (line : List ℕ) (n : ℕ) → length line ≡ suc n → length line ≤ 65536 → get_or line n 0 ≡ 13 → GivesFront line n
GivesFront-return line n size short last = record {
  within = omega arith;
  given = line_of-short line short ∙ ap Text (without_return-return line n size last);
}

-- another line is given whole
pub GivesFront-other : (line : List ℕ) (n : ℕ) → length line ≡ suc n → length line ≤ 65536 → nat_eq (get_or line n 0) 13 ≡ false → GivesFront line (length line)
GivesFront-other line n size short last = record {
  within = omega arith;
  given = line_of-short line short ∙ ap Text (without_return-other line n size last ∙ sym (take_all (length line) line (omega arith)));
}

-- two parts without line feed are a whole without one
pub has_line_feed_parts : (bytes : List ℕ) (n : ℕ) → has_line_feed (take n bytes) ≡ false → has_line_feed (drop n bytes) ≡ false → has_line_feed bytes ≡ false
has_line_feed_parts bytes n front back =
    subst (λ bs. has_line_feed bs ≡ false) (take-append-drop n bytes)
    (has_line_feed-append (take n bytes) (drop n bytes) ∙ or_from (has_line_feed (take n bytes)) (has_line_feed (drop n bytes)) front back)

-- a search of the rest that finds nothing
pub FindsFeed-none : (bytes : List ℕ) (n : ℕ) → has_line_feed (take n bytes) ≡ false → IsFirstByte (is_byte 10) (slice_range bytes n (length bytes)) None → has_line_feed bytes ≡ false
FindsFeed-none bytes n front none =
    let rest = slice_range bytes n (length bytes) in
    let whole : has_line_feed (take (length rest) rest) ≡ false = has_line_feed_nowhere rest (length rest) (λ k below yes. none k (omega arith) below yes) in
    has_line_feed_parts bytes n front
    (subst (λ bs. has_line_feed bs ≡ false) (take_all (length rest) rest (omega arith) ∙ take_rest bytes n) whole)

-- a search of the rest that finds a line feed
pub FindsFeed-some : (bytes : List ℕ) (n k : ℕ) → n ≤ length bytes → has_line_feed (take n bytes) ≡ false → IsFirstByte (is_byte 10) (slice_range bytes n (length bytes)) (Some k) → IsFirstFeed bytes (n + k)
FindsFeed-some bytes n k fits front found =
    let at_rest : slice_range bytes n (length bytes) ≡ drop n bytes = take_rest bytes n in
    let first = subst (λ rest. IsFirstByte (is_byte 10) rest (Some k)) at_rest found in
    let below : k < length (drop n bytes) = first.0.high in
    let within : n + k < length bytes = omega (arith, length-drop n bytes) in
    let here : get_or bytes (n + k) 0 ≡ 10 = sym (get_or-drop n bytes k 0) ∙ eqb-true (get_or (drop n bytes) k 0) 10 first.1 in
    record {
      within = within;
      split = sym (take-append-drop (n + k) bytes) ∙ ap (λ bs. take (n + k) bytes ++ bs) (drop_more bytes (n + k) 0 within ∙ ap (λ b. b ∷ drop (n + k + 1) bytes) here);
      none_before =
          rw take-add
          (has_line_feed-append (take n bytes) (take k (drop n bytes))
          ∙ or_from (has_line_feed (take n bytes)) (has_line_feed (take k (drop n bytes))) front
          (has_line_feed_nowhere (drop n bytes) k (λ j before yes. first.0.before j (omega arith) before yes)));
    }

-- the front of a front
pub take_front : (n m : ℕ) (xs : List ℕ) → take n (take m xs) ≡ take (min n m) xs
take_front n m xs =
    ⊎_elim
    (λ more.
    let size : min n m ≡ m = omega arith in
    rw size (take_all n (take m xs) (omega (arith, length-take m xs))))
    (λ less.
    let size : min n m ≡ n = omega arith in
    rw size (take-take n m xs less))
    (cases_lt m n)

-- at most n bytes of a part of the buffer, after they were moved to its front
pub kept_moved : (n : ℕ) (buffer : List ℕ) (from upto kept : ℕ) → from ≤ upto → upto ≤ length buffer → kept ≡ min n (upto - from) → take kept (copy_within buffer from (from + kept) 0) ≡ take n (slice_range buffer from upto)
kept_moved n buffer from upto kept ordered within count =
    let same : from + kept - from ≡ kept = omega arith in
    let size : length (take kept (drop from buffer)) ≡ kept = omega (arith, length-take kept (drop from buffer), length-drop from buffer) in
    rw (same, take_front, ← count) (take_at (take kept (drop from buffer)) (drop (0 + kept) buffer) kept size)

-- the same where they stand at the front already
pub kept_in_place : (n : ℕ) (buffer : List ℕ) (from upto kept : ℕ) → from ≡ 0 → kept ≡ min n (upto - from) → take kept buffer ≡ take n (slice_range buffer from upto)
kept_in_place n buffer from upto kept start count = rw (take_front, ← count, start)

-- the first n bytes of a part
pub slice_front : (xs : List ℕ) (from upto n : ℕ) → from + n ≤ upto → slice_range xs from (from + n) ≡ take n (slice_range xs from upto)
slice_front xs from upto n within =
    let size : from + n - from ≡ min n (upto - from) = omega arith in
    rw (take_front, size)

-- a part without its first n bytes
pub slice_behind : (xs : List ℕ) (from upto n : ℕ) → from + n ≤ upto → slice_range xs (from + n) upto ≡ drop n (slice_range xs from upto)
slice_behind xs from upto n within =
    let size : upto - from ≡ n + (upto - (from + n)) = omega arith in
    rw (size, drop-take, drop-drop)

-- how long a part is
pub length-slice : (xs : List ℕ) (from upto : ℕ) → upto ≤ length xs → length (slice_range xs from upto) ≡ upto - from
length-slice xs from upto within = omega (arith, length-take (upto - from) (drop from xs), length-drop from xs)

-- the line that is lent is what its bytes give
pub lent_line : (xs : List ℕ) (from upto size end : ℕ) → from + size ≤ upto → upto ≤ length xs → GivesFront (slice_range xs from (from + size)) end → line_of (take size (slice_range xs from upto)) ≡ Text (slice_range xs from (from + end))
lent_line xs from upto size end within fits gives =
    let short : end ≤ size = omega (arith, gives.within, length-slice xs from (from + size) (omega arith)) in
    ap line_of (sym (slice_front xs from upto size within)) ∙ gives.given ∙ ap Text (sym (slice_front xs from (from + size) end (omega arith)))

-- a buffer that keeps at its front the first n bytes of what was held
pub placed_front : (n : ℕ) (held buffer : List ℕ) (upto searched : ℕ) → length buffer ≡ 131072 → searched ≤ upto → upto ≤ length buffer → take searched buffer ≡ take n held → has_line_feed held ≡ false → IsPlaced buffer 0 upto searched 0 0
placed_front n held buffer upto searched size ordered within kept none =
    let none_searched : has_line_feed (take searched buffer) ≡ false = rw kept (has_line_feed-take n held none) in
    let fewer : min searched (upto - 0) ≡ searched = omega arith in
    record {
      size = size;
      ordered = omega arith;
      within = within;
      none_searched = rw (take_front, fewer) none_searched;
      line_ordered = omega arith;
      line_within = omega arith;
    }

-- what is held then, with a piece behind it
pub held_front : (n : ℕ) (held buffer : List ℕ) (kept more : ℕ) → take kept buffer ≡ take n held → slice_range buffer 0 (kept + more) ≡ take n held ++ take more (drop kept buffer)
held_front n held buffer kept more front =
    let whole : kept + more - 0 ≡ kept + more = omega arith in
    rw (whole, take-add, front)

-- the same with no piece
pub held_short : (n : ℕ) (held buffer : List ℕ) (kept : ℕ) → take kept buffer ≡ take n held → slice_range buffer 0 kept ≡ take n held
held_short n held buffer kept front =
    let whole : kept - 0 ≡ kept = omega arith in
    rw whole front

-- a vector whose elements were all written
pub written_over : (written items : List ℕ) (n : ℕ) → length written ≡ n → take n (written ++ drop (length written) items) ≡ written
written_over written items n size = take_at written (drop (length written) items) n size
