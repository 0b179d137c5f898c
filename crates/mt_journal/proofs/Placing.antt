-- How ranges come to their places, one after another.
use Rattle.std.proofs.Common.{◌≡◌, ℕ, ◌+◌, ◌<◌, ◌≤◌, IsTrue, List, [], ◌∷◌, ◌++◌, length, slice_index, refl, sym, ap, ◌∙◌, arith, inl}
use Rattle.mt_machine.specs.declared.machine.Area.TheVariants.{Log, Pages}
use Rattle.mt_machine.specs.Meaning.{Disk, Meaning}
use Rattle.mt_machine.specs.Leaves.{Leaves, Looks}
use Rattle.mt_journal.specs.declared.group.RangeAt.{RangeAt}
use Rattle.mt_journal.specs.Layout.{Area, Range, IsRangeAt}
use Rattle.mt_journal.specs.Groups.{IsRead}
use Rattle.mt_journal.specs.Replay.{with_ranges}
use Rattle.mt_journal.specs.Steps.{IsQuiet, Changes, IsCopied, AllAmong, SameReplay, Places, ArePlaced}
use Rattle.mt_journal.specs.Walk.{ToldRange}
use Rattle.mt_journal.proofs.Chains.{range_unique}
use Rattle.mt_machine.specs.LeavesLaws.{leaves_then, leaves_weaker}
use Rattle.mt_journal.proofs.Replaying.{same_torn, with_range_written, with_ranges_torn, with_ranges-append, among_left, among_right}

-- what leaves disks of some property puts nothing out
pub quiet_leaves : (has : Disk → Type 0) (old new : Meaning) → Leaves has old new → IsQuiet old new
quiet_leaves has old new leaves = leaves_weaker (λ _. Unit {0}) leaves (λ _ _ _. tt)

pub quiet_join : (first second third : Meaning) → IsQuiet first second → IsQuiet second third → IsQuiet first third
quiet_join first second third one two = leaves_then one two (λ _ _ _. tt)

-- a look writes no range
pub places_looks : (ranges : List Range) (old new : Meaning) → Looks old new → Places ranges old new
places_looks ranges old new looks = record {
  log = λ t. ap (λ (d : Disk). d Log) (looks.content t);
  pages = λ t all among. ap (λ (d : Disk). with_ranges all (d Pages)) (looks.content t);
  leaves = λ all start among same. leaves_weaker (SameReplay all start) looks.leaves (λ t image arises. same (looks.leaves.told_moments t).0 image arises);
}

-- where a machine tells nothing, there is nothing to say
pub places_untold : (ranges : List Range) (old new : Meaning) → IsQuiet old new → (IsTrue new.tells → ⊥) → Places ranges old new
places_untold ranges old new quiet untold = record {
  log = λ t. absurd (untold t);
  pages = λ t. absurd (untold t);
  leaves = λ all start among same. leaves_weaker (SameReplay all start) quiet (λ t image _. absurd (untold (quiet.told_moments t).1));
}

-- fewer ranges are some of more
pub places_more : (few many : List Range) (old new : Meaning) → AllAmong few many → Places few old new → Places many old new
places_more few many old new part places = record {
  log = places.log;
  pages = λ t all among. places.pages t all (λ range here. among range (part range here));
  leaves = λ all start among same. places.leaves all start (λ range here. among range (part range here)) same;
}

-- some ranges, and then others
pub places_join : (one two : List Range) (first second third : Meaning) → IsQuiet second third → Places one first second → Places two second third → Places (one ++ two) first third
places_join one two first second third quiet earlier later = record {
  log = λ t. later.log t ∙ earlier.log (quiet.told t);
  pages = λ t all among. later.pages t all (λ range here. among range (among_right range one two here)) ∙ earlier.pages (quiet.told t) all (λ range here. among range (among_left range one two here));
  leaves = λ all start among same.
      let before = earlier.leaves all start (λ range here. among range (among_left range one two here)) same in
      let behind = later.leaves all start (λ range here. among range (among_right range one two here)) before.now in
      leaves_then before behind (λ _ _ has. has);
}

pub placed_join : (one two : List Range) (first second third : Meaning) → IsQuiet second third → ArePlaced one first second → ArePlaced two second third → ArePlaced (one ++ two) first third
placed_join one two first second third quiet earlier later t =
    later t ∙ ap (λ (p : Area). with_ranges two p) (earlier (quiet.told t)) ∙ sym (with_ranges-append one two (first.content Pages))

-- what was read of a range is that of the range that stands there
pub read_is : (log : Area) (at : ℕ) (read : RangeAt) (range : Range) → IsRead log at read → IsRangeAt log at range
    → (read.position ≡ range.position) × (read.length ≡ length range.bytes) × (read.bytes_at ≡ at + 12) × (read.next ≡ at + 12 + length range.bytes)
read_is log at read range found stands =
    let same : found.range ≡ range = range_unique log at found.range range found.stands stands in (
      found.position ∙ ap (λ (r : Range). r.position) same,
      found.size ∙ ap (λ (r : Range). length r.bytes) same,
      found.bytes,
      found.next ∙ ap (λ (r : Range). at + 12 + length r.bytes) same,
    )

-- a write within the place of one range
pub places_changes : (range : Range) (at n : ℕ) (old new : Meaning) → (IsTrue old.tells → (range.position ≤ at) × (at + n ≤ range.position + length range.bytes)) → Changes Pages at n old new
    → Places (range ∷ []) old new
places_changes range at n old new within changes = record {
  log = λ t. (changes.content t).other Log (λ e. cc);
  pages = λ t all among.
      let place = within (changes.leaves.told t) in
      let torn = changes.content t in
      with_ranges_torn all range (old.content Pages) (new.content Pages) at n (among range (inl refl)) place.0 place.1 torn.before torn.after;
  leaves = λ all start among same. leaves_weaker (SameReplay all start) changes.leaves
      (λ t image torn.
      let told = changes.leaves.told_moments t in
      let place = within (changes.leaves.told told.1) in
      same_torn all start torn.0 image range at n (among range (inl refl)) place.0 place.1 torn.2 (same told.0 torn.0 torn.1));
}

-- The range at a place of the log was read, and its bytes are copied.
module _ (old mid new : Meaning) (at end : ℕ) (read : RangeAt) (range : Range) (looks : Looks old mid) (found : IsTrue mid.tells → IsRead (old.content Log) at read)
    (told : ToldRange old at range end) (changes : Changes Pages read.position read.length mid new) where
  place_is : IsTrue mid.tells → (read.position ≡ range.position) × (read.length ≡ length range.bytes) × (read.bytes_at ≡ at + 12) × (read.next ≡ at + 12 + length range.bytes)
  place_is t = read_is (old.content Log) at read range (found t) (told (looks.leaves.told t)).0

  pub places_copied : Places (range ∷ []) old new
  places_copied =
      let within : IsTrue mid.tells → (range.position ≤ read.position) × (read.position + read.length ≤ range.position + length range.bytes) = λ t. let is = place_is t in (omega (arith, is.0), omega (arith, is.0, is.1)) in
      places_join [] (range ∷ []) old mid new (quiet_leaves _ mid new changes.leaves) (places_looks [] old mid looks) (places_changes range read.position read.length mid new within changes)

  pub placed_copied : (IsTrue new.tells → IsCopied read.bytes_at read.position read.length mid.content new.content) → ArePlaced (range ∷ []) old new
  placed_copied copied t =
      let before = changes.leaves.told t in
      let is = place_is before in
      let torn = changes.content t in
      let stands = (told (looks.leaves.told before)).0 in
      let same : (k : ℕ) → mid.content Pages k ≡ old.content Pages k = λ k. ap (λ (d : Disk). d Pages k) (looks.content before) in
      let written : (k : ℕ) → k < length range.bytes → new.content Pages (range.position + k) ≡ slice_index range.bytes k = λ k h.
      let here : range.position + k ≡ read.position + k = omega (arith, is.0) in
      let there : read.bytes_at + k ≡ at + 12 + k = omega (arith, is.2) in
      ap (new.content Pages) here ∙ copied t k (omega (arith, is.1, h)) ∙ ap (λ (d : Disk). d Log (read.bytes_at + k)) (looks.content before) ∙ ap (old.content Log) there ∙ stands.bytes k h in
      with_range_written range (old.content Pages) (new.content Pages)
      (λ k h. torn.before k (omega (arith, h, is.0)) ∙ same k)
      (λ k h. torn.after k (omega (arith, h, is.0, is.1)) ∙ same k)
      written
