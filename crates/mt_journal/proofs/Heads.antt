-- What the bytes of a log say of a range.
use Rattle.std.proofs.Common.{◌≡◌, ℕ, zero, suc, ◌+◌, ◌^◌, ◌<◌, ◌≤◌, List, [], ◌∷◌, length, slice_index, refl, sym, ap, ◌∙◌, arith}
use Rattle.mt_journal.specs.declared.group.RangeAt.{RangeAt}
use Rattle.mt_journal.specs.Layout.{Area}
use Rattle.mt_journal.specs.Groups.{IsRead}
use Rattle.mt_journal.specs.Walk.{IsHead}

-- n bytes of an area from a place on
bytes_of : Area → ℕ → ℕ → List ℕ
bytes_of area at zero = []
bytes_of area at (suc n) = area at ∷ bytes_of area (at + 1) n

length-bytes_of : (area : Area) (at n : ℕ) → length (bytes_of area at n) ≡ n
unfolding bytes_of
length-bytes_of area at zero = refl
length-bytes_of area at (suc n) = let rest = length-bytes_of area (at + 1) n in omega (arith, rest)

slice_index-bytes_of : (area : Area) (at n k : ℕ) → k < n → area (at + k) ≡ slice_index (bytes_of area at n) k
unfolding bytes_of
slice_index-bytes_of area at zero k h = absurd (omega arith)
slice_index-bytes_of area at (suc n) zero h = let e : at + 0 ≡ at = omega arith in ap area e
slice_index-bytes_of area at (suc n) (suc k) h =
    let e : at + suc k ≡ at + 1 + k = omega arith in
    ap area e ∙ slice_index-bytes_of area (at + 1) n k (omega arith)

-- a head that speaks of places within the pages is that of a range
pub head_stands : (log : Area) (at : ℕ) (read : RangeAt) → IsHead log at read → read.bytes_at ≡ at + 12 → read.next ≡ at + 12 + read.length
    → read.position + read.length ≤ 2 ^ 40 → IsRead log at read
head_stands log at read head bytes_at next within =
    let bytes = bytes_of log (at + 12) read.length in
    let size : length bytes ≡ read.length = length-bytes_of log (at + 12) read.length in
    record {
      range = record { position = read.position; bytes = bytes };
      stands = record {
        position = head.position;
        count = head.size ∙ sym size;
        bytes = λ k h. slice_index-bytes_of log (at + 12) read.length k (omega (arith, h, size));
        within = omega (arith, within, size);
      };
      position = refl;
      size = sym size;
      bytes = bytes_at;
      next = omega (arith, next, size);
    }
