-- The ranges of a body, written in their places one after another.
use Rattle.std.proofs.Common.{◌≡◌, ℕ, ◌+◌, ◌^◌, ◌<◌, ◌≤◌, IsTrue, List, [], ◌∷◌, ◌++◌, length, get_or, take, drop, slice_index, sym, ap, ◌∙◌, subst, arith}
use Rattle.std.specs.Prelude.{All, slice_get, option_map, Option, Some, None, Result}
use Rattle.std.proofs.lemmas.List.{take_more, take-append-drop}
use Rattle.std.proofs.lemmas.Option.{slice_get-get_or}
use Rattle.mt_machine.specs.declared.machine.Area.TheVariants.{Pages}
use Rattle.mt_machine.specs.Meaning.{Meaning}
use Rattle.mt_machine.specs.Calls.{Writes}
use Rattle.mt_journal.specs.Layout.{Range}
use Rattle.mt_journal.specs.Spelling.{Fits}
use Rattle.mt_journal.specs.Steps.{IsQuiet, Among, AllAmong, Places, ArePlaced}
use Rattle.mt_journal.proofs.Torn.{write_changes}
use Rattle.mt_journal.proofs.Replaying.{among_left, with_range_written}
use Rattle.mt_journal.proofs.Placing.{quiet_leaves, quiet_join, places_more, places_join, placed_join, places_changes}

-- a range is known by its parts
range_of_parts : (found : Option Range) (position : ℕ) (bytes : List ℕ) → option_map (λ range. range.position) found ≡ Some position → option_map (λ range. range.bytes) found ≡ Some bytes
    → found ≡ Some (record { position = position; bytes = bytes })
range_of_parts None position bytes one two = cc
range_of_parts (Some range) position bytes one two =
    let p : range.position ≡ position = cc in
    let b : range.bytes ≡ bytes = cc in
    λ i. Some (record { position = p i; bytes = b i })

module _ (ranges : List Range) (i position : ℕ) (bytes : List ℕ) (below : i < length ranges) (position_is : option_map (λ range. range.position) (slice_get ranges i) ≡ Some position)
    (bytes_are : option_map (λ range. range.bytes) (slice_get ranges i) ≡ Some bytes) where
  range : Range
  range = record { position = position; bytes = bytes }

  range_is : get_or ranges i range ≡ range
  unfolding range
  range_is =
      let found = range_of_parts (slice_get ranges i) position bytes position_is bytes_are in
      let same = slice_get-get_or ranges i range below in
      let both : Some (get_or ranges i range) ≡ Some range = sym same ∙ found in
      cc both

  pub range_fits : All Fits ranges → position + length bytes ≤ 2 ^ 40
  unfolding range
  range_fits fit = (subst Fits range_is (fit i range below)).within

  -- the ranges up to the next
  pub take_range : take (i + 1) ranges ≡ take i ranges ++ record { position = position; bytes = bytes } ∷ []
  unfolding range
  take_range = take_more ranges i range below ∙ ap (λ (r : Range). take i ranges ++ r ∷ []) range_is

-- one write of a whole range
write_places : {T E : Type 0} (result : Result T E) (position : ℕ) (bytes : List ℕ) (old new : Meaning) → Writes result Pages position bytes old new → Places (record { position = position; bytes = bytes } ∷ []) old new
write_places result position bytes old new writes =
    places_changes (record { position = position; bytes = bytes }) position (length bytes) old new (λ _. (omega arith, omega arith)) (write_changes result Pages position bytes old new writes)

-- The next range of a body is written.
module _ {T E : Type 0} (result : Result T E) (ranges : List Range) (i position : ℕ) (bytes : List ℕ) (next : take (i + 1) ranges ≡ take i ranges ++ record { position = position; bytes = bytes } ∷ [])
    (old mid new : Meaning) (writes : Writes result Pages position bytes mid new) where
  pub write_quiet : IsQuiet old mid → IsQuiet old new
  write_quiet earlier = quiet_join old mid new earlier (quiet_leaves _ mid new (write_changes result Pages position bytes mid new writes).leaves)

  pub write_next : Places (take i ranges) old mid → Places (take (i + 1) ranges) old new
  write_next places =
      subst (λ (l : List Range). Places l old new) (sym next)
      (places_join (take i ranges) (record { position = position; bytes = bytes } ∷ []) old mid new
      (quiet_leaves _ mid new (write_changes result Pages position bytes mid new writes).leaves) places (write_places result position bytes mid new writes))

  pub write_stops : Places (take i ranges) old mid → Places ranges old new
  write_stops places =
      let front : AllAmong (take (i + 1) ranges) ranges = λ range here. subst (λ (l : List Range). Among range l) (take-append-drop (i + 1) ranges) (among_left range (take (i + 1) ranges) (drop (i + 1) ranges) here) in
      places_more (take (i + 1) ranges) ranges old new front (write_next places)

  pub write_placed : (IsTrue new.tells → (k : ℕ) → k < length bytes → new.content Pages (position + k) ≡ slice_index bytes k) → ArePlaced (take i ranges) old mid → ArePlaced (take (i + 1) ranges) old new
  write_placed inside placed =
      let one : ArePlaced (record { position = position; bytes = bytes } ∷ []) mid new = λ t.
      let torn = writes.outside t in
      with_range_written (record { position = position; bytes = bytes }) (mid.content Pages) (new.content Pages) torn.before torn.after (inside t) in
      subst (λ (l : List Range). ArePlaced l old new) (sym next)
      (placed_join (take i ranges) (record { position = position; bytes = bytes } ∷ []) old mid new
      (quiet_leaves _ mid new (write_changes result Pages position bytes mid new writes).leaves) placed one)
