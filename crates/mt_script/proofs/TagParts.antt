-- A line cut in front of its first blank.
use Rattle.std.proofs.Common.{◌≡◌, ℕ, suc, ◌+◌, ◌<◌, ◌≤◌, Bool, true, false, not, cond, List, [], ◌∷◌, ◌++◌, length, take, drop, get_or, refl, sym, ◌∙◌, ap, subst, arith, ⊎_elim}
use Rattle.std.specs.List.{prefix_len}
use Rattle.std.specs.Str.{IsUtf8}
use Rattle.std.proofs.lemmas.Bool.{cases_lt}
use Rattle.std.proofs.lemmas.Bool.Decides.{nat_tests}
use Rattle.std.proofs.lemmas.List.{take-append-drop}
use Rattle.std.proofs.lemmas.List.Sums.{prefix_len-le-length}
use Rattle.std.proofs.lemmas.Str.{IsUtf8-drop, IsCharBoundary-end, IsCharBoundary-before_ascii}
use Rattle.std.proofs.Math.Seq.{drop-cons}
use Rattle.mt_tree.specs.declared.who.Who.{Who}
use Rattle.mt_script.specs.Lines.{is_blank}
use Rattle.mt_script.specs.Tags.{HasTag, EndsTag, CanSend, tag_bytes}
use Rattle.mt_script.specs.TagLaws.{HasNoBlank, HasNoBlank-tag, parts-determined}

-- how many bytes stand in front of the first blank
abbrev pub tag_end : List ℕ → ℕ
tag_end line = prefix_len (λ b. not (is_blank b)) line

-- none of them is a blank
HasNoBlank-front : (line : List ℕ) → HasNoBlank (take (tag_end line) line)
HasNoBlank-front [] = tt
HasNoBlank-front (b ∷ line) =
    by (is_blank b) refl (HasNoBlank-front line)
  where
    by : (blank : Bool) → is_blank b ≡ blank → HasNoBlank (take (tag_end line) line) → HasNoBlank (take (cond (not (is_blank b)) (1 + tag_end line) 0) (b ∷ line))
    by true e further = rw e tt
    by false e further = let count : 1 + tag_end line ≡ suc (tag_end line) = omega arith in rw (e, count) (e, further)

-- what follows begins with a blank, where it has a byte
EndsTag-behind : (line : List ℕ) → EndsTag (drop (tag_end line) line)
EndsTag-behind [] = tt
EndsTag-behind (b ∷ line) =
    by (is_blank b) refl (EndsTag-behind line)
  where
    by : (blank : Bool) → is_blank b ≡ blank → EndsTag (drop (tag_end line) line) → EndsTag (drop (cond (not (is_blank b)) (1 + tag_end line) 0) (b ∷ line))
    by true e further = rw e e
    by false e further = let count : 1 + tag_end line ≡ suc (tag_end line) = omega arith in rw (e, count) further

-- a tag and its text are what stands in front of the first blank and behind it
pub HasTag-cut : (line : List ℕ) (who : Who) (text : List ℕ) → HasTag line who text → take (tag_end line) line ≡ tag_bytes who
HasTag-cut line who text tagged =
    let same : take (tag_end line) line ++ drop (tag_end line) line ≡ tag_bytes who ++ text = take-append-drop (tag_end line) line ∙ tagged.spelling in
    (parts-determined (take (tag_end line) line) (tag_bytes who) (drop (tag_end line) line) text (HasNoBlank-front line) (HasNoBlank-tag who tagged.sender) (EndsTag-behind line) tagged.ends same).0

-- a tag in front of the first blank is the line's tag
pub HasTag-from_cut : (line : List ℕ) (who : Who) → IsUtf8 line → CanSend who → take (tag_end line) line ≡ tag_bytes who → HasTag line who (drop (tag_end line) line)
HasTag-from_cut line who utf8 sender front = record {
  utf8 = utf8;
  spelling = sym (take-append-drop (tag_end line) line) ∙ ap (λ bytes. bytes ++ drop (tag_end line) line) front;
  sender = sender;
  ends = EndsTag-behind line;
}

-- a blank is ASCII
blank-ascii : (b : ℕ) → is_blank b ≡ true → b < 128
blank-ascii b e = grind (arith, nat_tests)

-- a line may be cut at a blank or at its end
IsUtf8-behind : (line : List ℕ) (n : ℕ) → n ≤ length line → IsUtf8 line → EndsTag (drop n line) → IsUtf8 (drop n line)
IsUtf8-behind line n within utf8 ends =
    ⊎_elim
    (λ below.
    let blank = subst EndsTag (drop-cons line n 0 below) ends in
    IsUtf8-drop line n utf8 (IsCharBoundary-before_ascii line n below (blank-ascii (get_or line n 0) blank)))
    (λ past.
    let end : n ≡ length line = omega arith in
    IsUtf8-drop line n utf8 (rw end (IsCharBoundary-end line)))
    (cases_lt n (length line))

-- so what follows the tag is text
pub IsUtf8-text : (line : List ℕ) → IsUtf8 line → IsUtf8 (drop (tag_end line) line)
IsUtf8-text line utf8 = IsUtf8-behind line (tag_end line) (prefix_len-le-length (λ b. not (is_blank b)) line) utf8 (EndsTag-behind line)
