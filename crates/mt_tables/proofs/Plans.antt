-- One change more keeps the plan of a group.
use Rattle.std.proofs.Common.{◌≡◌, ◌≢◌, ℕ, zero, suc, ◌+◌, ◌<◌, ◌≤◌, Bool, true, false, cond, nat_eq, ◌*◌, ◌-◌, List, [], ◌∷◌, ◌++◌, length, drop, map, get_or, replicate, Option, None, Some, refl, sym, ap, ◌∙◌, arith, subst, filter_map}
use Rattle.std.specs.List.{range_with_len}
use Rattle.std.specs.Prelude.{nat_lt}
use borrow.Author.Tests.{ltb-true, ltb-false}
use Rattle.std.specs.declared.cmp.Ordering.{Ordering}
use Rattle.std.specs.Cmp.{IsTotalOrder}
use Rattle.std.specs.FinMap as finite
use Rattle.std.specs.FinMap.{find}
use Rattle.std.specs.Ordering.{eq_by_cmp}
use Rattle.std.proofs.lemmas.Bool.Decides.{nat_tests}
use Rattle.std.proofs.lemmas.Cmp.{eq_by_cmp_equiv}
use Rattle.std.proofs.lemmas.List.{get_or-append-add, get_or-replicate, get_or-set_same, get_or-set_other, get_or_append_left, length-append, length-map}
use Rattle.mt_journal.specs.Layout.{Area, Range}
use Rattle.mt_journal.specs.Replay.{with_ranges}
use Rattle.mt_tables.specs.Commit.{IsNewPage}
use Rattle.mt_tables.specs.Pages.{AreSlotSizes, SlotPlace, SlotSizes, place_in, places_below, slot_position}
use Rattle.mt_tables.specs.Plan.{AreApart, AreFree, AreOthers, IsPlan, Says, page_positions, with_page, without_first}
use Rattle.mt_tables.specs.Tables.{TableSlot, slot_at, slots_below, tables_below}
use Rattle.mt_tables.specs.Unique.{AreUnique, Misses, NoneSays, NoneSaysIts}
use Rattle.mt_tables.proofs.Bytes.{put_at}
use Rattle.mt_tables.proofs.OneSlot.{OnlyAt, none_says, only_free, only_used, tied_are_one, unique_silent}
use Rattle.mt_tables.proofs.Places.{end_of, length-run_of, next_position, pages_high, places_rise, rising_apart, run_of, run_of-at, upto_get_or}
use Rattle.mt_tables.proofs.Written.{blank_slot, control_places, control_written, page_added, places_added}
use Rattle.mt_tables.proofs.Steps.{StandsAt, control_made, one_more_made, page_made, places_after, silent, slot_after, stands_at, step, step_unique, with_ranges-last, written}

module _ {K V : Type 0} (sizes : SlotSizes) (sound : AreSlotSizes sizes) (read : TableSlot → Option (K × V)) (count : ℕ) where
  -- a slot that says something, or nothing, is one of those below the number
  abbrev SaysIn : Area → SlotPlace → Option (K × V) → Type 0
  SaysIn area place entry = Says sizes read count area place entry

  abbrev At : Area → ℕ → SlotPlace → Type 0
  At area i place = StandsAt sizes sound count area i place

  pub at_of : (area : Area) (place : SlotPlace) (entry : Option (K × V)) (s : SaysIn area place entry) → At area s.number place
  at_of area place entry s = stands_at sizes sound count area s.number place s.within s.stands

  slots_long : (area : Area) → length (slots_below sizes count area) ≡ length (places_below sizes count area)
  slots_long area = length-map (places_below sizes count area) (slot_at sizes area)

  pub among_slots : (area : Area) (i : ℕ) (place : SlotPlace) → At area i place → i < length (slots_below sizes count area)
  among_slots area i place at = subst (λ n. i < n) (sym (slots_long area)) at.within

  earlier_apart : (area : Area) (i j : ℕ) (p q : SlotPlace) → At area i p → At area j q → i < j → p.position ≢ q.position
  earlier_apart area i j p q ati atj less same =
      let wide = sound.some p.table in
      let h : end_of sizes p ≤ q.position = subst (λ x. end_of sizes x ≤ q.position) (ati.is p)
      (subst (λ y. end_of sizes (get_or (places_below sizes count area) i p) ≤ y.position) (atj.is p)
      (rising_apart sizes (places_below sizes count area) i j p (places_rise sizes sound count area) less atj.within)) in
      absurd (omega arith)

  one_number : (area : Area) (i j : ℕ) (p q : SlotPlace) → At area i p → At area j q → p.position ≡ q.position → i ≡ j
  one_number area i j p q ati atj same = by (nat_lt i j) (nat_lt j i) refl refl
    where
      by : (a b : Bool) → nat_lt i j ≡ a → nat_lt j i ≡ b → i ≡ j
      by true b ea eb = absurd (earlier_apart area i j p q ati atj (ltb-true i j ea) same)
      by false true ea eb = absurd (earlier_apart area j i q p atj ati (ltb-true j i eb) (sym same))
      by false false ea eb = let x = ltb-false i j ea in let y = ltb-false j i eb in omega arith

  -- one position says one thing
  pub one_says : (area : Area) (p q : SlotPlace) (x y : Option (K × V)) → SaysIn area p x → SaysIn area q y → p.position ≡ q.position → x ≡ y
  one_says area p q x y one two same =
      let d : TableSlot = (0, []) in
      let number = one_number area one.number two.number p q (at_of area p x one) (at_of area q y two) same in
      sym (one.says d) ∙ ap (λ i. read (get_or (slots_below sizes count area) i d)) number ∙ two.says d

  -- what stands at other positions is as before
  pub others_say : (area : Area) (i : ℕ) (place other : SlotPlace) (bytes : List ℕ) (entry : Option (K × V)) → At area i place → length bytes ≤ sizes.width place.table → SaysIn area other entry → other.position ≢ place.position
      → SaysIn (put_at place.position bytes area) other entry
  others_say area i place other bytes entry at short s apart =
      let same = places_after sizes sound count area i place bytes at short in
      record {
        number = s.number;
        within = subst (λ places. s.number < length places) (sym same) s.within;
        stands = λ d. ap (λ places. get_or places s.number d) same ∙ s.stands d;
        says = λ d.
            let differ : s.number ≢ i = λ e. apart (ap (λ p. p.position) (sym (s.stands place) ∙ ap (λ j. get_or (places_below sizes count area) j place) e ∙ at.is place)) in
            ap (λ slots. read (get_or slots s.number d)) (written sizes sound count area i place bytes at short)
            ∙ ap read (get_or-set_other (slots_below sizes count area) i s.number (slot_after sizes sound count area place bytes) d differ)
            ∙ s.says d;
      }

  -- and what was written stands
  pub written_says : (area : Area) (i : ℕ) (place : SlotPlace) (bytes : List ℕ) → At area i place → length bytes ≤ sizes.width place.table
      → SaysIn (put_at place.position bytes area) place (read (slot_after sizes sound count area place bytes))
  written_says area i place bytes at short =
      let same = places_after sizes sound count area i place bytes at short in
      record {
        number = i;
        within = subst (λ places. i < length places) (sym same) at.within;
        stands = λ d. ap (λ places. get_or places i d) same ∙ at.is d;
        says = λ d.
            ap (λ slots. read (get_or slots i d)) (written sizes sound count area i place bytes at short)
            ∙ ap read (get_or-set_same (slots_below sizes count area) i (slot_after sizes sound count area place bytes) d (among_slots area i place at));
      }

  -- free slots stay free, where the write is into none of them
  pub still_free : (area : Area) (i : ℕ) (place : SlotPlace) (bytes : List ℕ) (table : ℕ) (positions : List ℕ) → At area i place → length bytes ≤ sizes.width place.table
      → AreOthers place.position positions → AreFree sizes read count area table positions → AreFree sizes read count (put_at place.position bytes area) table positions
  still_free area i place bytes table [] at short others free = tt
  still_free area i place bytes table (p ∷ positions) at short others free =
      (others_say area i place (record { table = table; position = p }) bytes None at short free.0 others.0, still_free area i place bytes table positions at short others.1 free.1)

  -- a slot in use is none of the free ones
  pub used_apart : (area : Area) (place : SlotPlace) (x : K × V) (table : ℕ) (positions : List ℕ) → SaysIn area place (Some x) → AreFree sizes read count area table positions → AreOthers place.position positions
  used_apart area place x table [] s free = tt
  used_apart area place x table (p ∷ positions) s free =
      ((λ same. let h = one_says area place (record { table = table; position = p }) (Some x) None s free.0 (sym same) in cc), used_apart area place x table positions s free.1)

  -- a free slot of one table is none of those of another
  pub tables_apart : (area : Area) (t u p : ℕ) (positions : List ℕ) → t ≢ u → SaysIn area (record { table = t; position = p }) None → AreFree sizes read count area u positions → AreOthers p positions
  tables_apart area t u p [] apart s free = tt
  tables_apart area t u p (q ∷ positions) apart s free = (
    (λ same.
        let a : SlotPlace = record { table = t; position = p } in
        let b : SlotPlace = record { table = u; position = q } in
        let number = one_number area s.number free.0.number a b (at_of area a None s) (at_of area b None free.0) (sym same) in
        let e : a ≡ b = sym (s.stands a) ∙ ap (λ i. get_or (places_below sizes count area) i a) number ∙ free.0.stands a in
        apart (ap (λ (place : SlotPlace). place.table) e)),
    tables_apart area t u p positions apart s free.1,
  )

-- the key of an entry, where there is one
abbrev key_in : {K V : Type 0} → K → Option (K × V) → K
key_in key None = key
key_in key (Some e) = e.0

module _ {K V : Type 0} {R : K → K → Ordering} (o : IsTotalOrder R) (exact : finite.IsAntisymmetric R) (sizes : SlotSizes) (sound : AreSlotSizes sizes) (read : TableSlot → Option (K × V)) (table_of : K → ℕ) (count : ℕ) where
  -- where the slot of a key stands
  abbrev pub place_of : K → ℕ → SlotPlace
  place_of key position = record { table = table_of key; position = position }

  -- the pages with the ranges so far
  abbrev so_far : List Range → Area → Area
  so_far ranges pages = with_ranges ranges pages

  -- and with one range more
  abbrev pub range_at : ℕ → List ℕ → Range
  range_at position bytes = record { position = position; bytes = bytes }

  -- a slot that says another key stands elsewhere
  other_place : (area : Area) (p q : SlotPlace) (k k2 : K) (v w : V) → Says sizes read count area p (Some (k, v)) → Says sizes read count area q (Some (k2, w)) → eq_by_cmp R k2 k ≡ false → q.position ≢ p.position
  other_place area p q k k2 v w one two apart same =
      let h = one_says sizes sound read count area q p (Some (k2, w)) (Some (k, v)) two one same in
      let e : k2 ≡ k = ap (key_in k2) h in
      let y : eq_by_cmp R k2 k ≡ true = ap (λ q. eq_by_cmp R k2 q) (sym e) ∙ (eq_by_cmp_equiv o).refl k2 in
      cc

  -- the slot of a key stands where its index says, once another key's was written
  other_held : (area : Area) (i : ℕ) (place : SlotPlace) (bytes : List ℕ) (k2 : K) (p2 : ℕ) → StandsAt sizes sound count area i place → length bytes ≤ sizes.width place.table
      → (s : (w : V) × Says sizes read count area (place_of k2 p2) (Some (k2, w))) → p2 ≢ place.position → (w : V) × Says sizes read count (put_at place.position bytes area) (place_of k2 p2) (Some (k2, w))
  other_held area i place bytes k2 p2 at short s apart = (s.0, others_say sizes sound read count area i place (place_of k2 p2) bytes (Some (k2, s.0)) at short s.1 apart)

  -- the slot of a key that is there is rewritten
  pub plan_rewritten : (pages : Area) (changes : List (K × Option V)) (ranges : List Range) (index : finite.FinMap R (Option ℕ)) (free : ℕ → List ℕ) (k : K) (p : ℕ) (v : V) (bytes : List ℕ)
      → IsPlan sizes read R table_of count pages changes ranges index free → finite.get index k ≡ Some (Some p) → length bytes ≤ sizes.width (table_of k)
      → read (slot_after sizes sound count (with_ranges ranges pages) (place_of k p) bytes) ≡ Some (k, v)
      → IsPlan sizes read R table_of count pages (changes ++ (k, Some v) ∷ []) (ranges ++ range_at p bytes ∷ []) index free
  plan_rewritten pages changes ranges index free k p v bytes plan there short says =
      let area = with_ranges ranges pages in
      let place = place_of k p in
      let s = plan.held k p there in
      let at = at_of sizes sound read count area place (Some (k, s.0)) s.1 in
      let only : OnlyAt R read k s.1.number (slots_below sizes count area) = only_used o read k s.0 s.1.number (slots_below sizes count area) (0, []) (among_slots sizes sound read count area s.1.number place at) plan.unique (s.1.says (0, [])) in
      let new : with_ranges (ranges ++ range_at p bytes ∷ []) pages ≡ put_at p bytes area = with_ranges-last ranges (range_at p bytes) pages in
      let here : Says sizes read count (put_at p bytes area) place (Some (k, v)) = subst (Says sizes read count (put_at p bytes area) place) says (written_says sizes sound read count area s.1.number place bytes at short) in
      record {
        made = one_more_made sizes sound count read o exact pages ranges changes s.1.number place bytes k (Some v) plan.made at short only says;
        unique = subst (λ x. AreUnique R read (slots_below sizes count x)) (sym new) (step_unique sizes sound count read o area s.1.number place bytes k (Some v) at short only says plan.unique);
        held = λ k2 p2 there2. subst (λ x. (w : V) × Says sizes read count x (place_of k2 p2) (Some (k2, w))) (sym new) (by area s.1.number at here s k2 p2 there2 (plan.held k2 p2 there2) (eq_by_cmp R k2 k) refl);
        lacked = λ k2 none. ap (λ x. finite.get (tables_below {R = R} sizes count read x) k2) new
            ∙ ap (λ m. finite.get m k2) (step sizes sound count read o exact area s.1.number place bytes k (Some v) at short only says)
            ∙ finite.get-insert o (tables_below sizes count read area) k v k2 ∙ lacks k2 none (eq_by_cmp R k2 k) refl (plan.lacked k2 none);
        are_free = λ t. subst (λ x. AreFree sizes read count x t (free t)) (sym new)
            (still_free sizes sound read count area s.1.number place bytes t (free t) at short (used_apart sizes sound read count area place (k, s.0) t (free t) s.1 (plan.are_free t)) (plan.are_free t));
        are_apart = plan.are_apart;
      }
    where
      by : (area : Area) (i : ℕ) → StandsAt sizes sound count area i (place_of k p) → Says sizes read count (put_at p bytes area) (place_of k p) (Some (k, v)) → ((w : V) × Says sizes read count area (place_of k p) (Some (k, w)))
          → (k2 : K) (p2 : ℕ) → finite.get index k2 ≡ Some (Some p2) → ((w : V) × Says sizes read count area (place_of k2 p2) (Some (k2, w))) → (t : Bool) → eq_by_cmp R k2 k ≡ t
          → (w : V) × Says sizes read count (put_at p bytes area) (place_of k2 p2) (Some (k2, w))
      by area i at here s k2 p2 there2 s2 true t =
          let same : k ≡ k2 = sym (tied_are_one exact k2 k t) in
          let place : Some (Some p) ≡ Some (Some p2) = sym there ∙ ap (finite.get index) same ∙ there2 in
          let e : p ≡ p2 = cc in
          (v, subst (λ q. Says sizes read count (put_at p bytes area) (place_of k2 q) (Some (k2, v))) e (subst (λ q. Says sizes read count (put_at p bytes area) (place_of q p) (Some (q, v))) same here))
      by area i at here s k2 p2 there2 s2 false t =
          other_held area i (place_of k p) bytes k2 p2 at short s2 (other_place area (place_of k p) (place_of k2 p2) k k2 s.0 s2.0 s.1 s2.1 t)

      lacks : (k2 : K) → finite.get index k2 ≡ Some None → (t : Bool) → eq_by_cmp R k2 k ≡ t → {m : Option V} → m ≡ None → cond t (Some v) m ≡ None
      lacks k2 none true t is = let same = tied_are_one exact k2 k t in let h : finite.get index k ≡ Some None = ap (finite.get index) (sym same) ∙ none in cc
      lacks k2 none false t is = is

  -- the free positions of each table, once the first of one table was written
  free_then : (area : Area) (i p : ℕ) (rest : List ℕ) (free : ℕ → List ℕ) (k : K) (bytes : List ℕ) → StandsAt sizes sound count area i (place_of k p) → length bytes ≤ sizes.width (table_of k)
      → free (table_of k) ≡ p ∷ rest → AreApart (p ∷ rest) → Says sizes read count area (place_of k p) None → AreFree sizes read count area (table_of k) rest
      → ((t : ℕ) → AreFree sizes read count area t (free t)) → (t : ℕ) → AreFree sizes read count (put_at p bytes area) t (without_first (table_of k) free t)
  free_then area i p rest free k bytes at short first apart s others all t = by (nat_eq t (table_of k)) refl
    where
      by : (b : Bool) → nat_eq t (table_of k) ≡ b → AreFree sizes read count (put_at p bytes area) t (cond b (drop 1 (free t)) (free t))
      by true e =
          let same : t ≡ table_of k = grind (arith, nat_tests, e) in
          let list : drop 1 (free t) ≡ rest = ap (λ u. drop 1 (free u)) same ∙ ap (drop 1) first in
          subst (AreFree sizes read count (put_at p bytes area) t) (sym list)
          (subst (λ u. AreFree sizes read count (put_at p bytes area) u rest) (sym same)
          (still_free sizes sound read count area i (place_of k p) bytes (table_of k) rest at short apart.0 others))
      by false e =
          let differ : table_of k ≢ t = λ same. (let h : nat_eq t (table_of k) ≡ true = grind (arith, nat_tests, same) in cc) in
          still_free sizes sound read count area i (place_of k p) bytes t (free t) at short (tables_apart sizes sound read count area (table_of k) t p (free t) differ s (all t)) (all t)

  apart_then : (p : ℕ) (rest : List ℕ) (free : ℕ → List ℕ) (table : ℕ) → free table ≡ p ∷ rest → ((t : ℕ) → AreApart (free t)) → (t : ℕ) → AreApart (without_first table free t)
  apart_then p rest free table first all t = by (nat_eq t table) refl
    where
      by : (b : Bool) → nat_eq t table ≡ b → AreApart (cond b (drop 1 (free t)) (free t))
      by true e =
          let same : t ≡ table = grind (arith, nat_tests, e) in
          let list : drop 1 (free t) ≡ rest = ap (λ u. drop 1 (free u)) same ∙ ap (drop 1) first in
          subst AreApart (sym list) (subst AreApart (ap free same ∙ first) (all t)).1
      by false e = all t

  -- a key that stands nowhere gets the first free position of its table
  pub plan_taken : (pages : Area) (changes : List (K × Option V)) (ranges : List Range) (index : finite.FinMap R (Option ℕ)) (free : ℕ → List ℕ) (p : ℕ) (rest : List ℕ) (k : K) (v : V) (bytes : List ℕ)
      → IsPlan sizes read R table_of count pages changes ranges index free → free (table_of k) ≡ p ∷ rest → finite.get index k ≡ Some None → length bytes ≤ sizes.width (table_of k)
      → read (slot_after sizes sound count (with_ranges ranges pages) (place_of k p) bytes) ≡ Some (k, v)
      → IsPlan sizes read R table_of count pages (changes ++ (k, Some v) ∷ []) (ranges ++ range_at p bytes ∷ []) (finite.insert index k (Some p)) (without_first (table_of k) free)
  plan_taken pages changes ranges index free p rest k v bytes plan first none short says =
      let area = with_ranges ranges pages in
      let place = place_of k p in
      let all : AreFree sizes read count area (table_of k) (p ∷ rest) = subst (AreFree sizes read count area (table_of k)) first (plan.are_free (table_of k)) in
      let s = all.0 in
      let at = at_of sizes sound read count area place None s in
      let missing : find R k (filter_map read (slots_below sizes count area)) ≡ None = sym (finite.get-from_entries o (filter_map read (slots_below sizes count area)) k) ∙ plan.lacked k none in
      let only : OnlyAt R read k s.number (slots_below sizes count area) =
      only_free o read k s.number (slots_below sizes count area) (0, []) (among_slots sizes sound read count area s.number place at) (none_says o read k (slots_below sizes count area) missing) (s.says (0, [])) in
      let new : with_ranges (ranges ++ range_at p bytes ∷ []) pages ≡ put_at p bytes area = with_ranges-last ranges (range_at p bytes) pages in
      let here : Says sizes read count (put_at p bytes area) place (Some (k, v)) = subst (Says sizes read count (put_at p bytes area) place) says (written_says sizes sound read count area s.number place bytes at short) in
      record {
        made = one_more_made sizes sound count read o exact pages ranges changes s.number place bytes k (Some v) plan.made at short only says;
        unique = subst (λ x. AreUnique R read (slots_below sizes count x)) (sym new) (step_unique sizes sound count read o area s.number place bytes k (Some v) at short only says plan.unique);
        held = λ k2 p2 there2. subst (λ x. (w : V) × Says sizes read count x (place_of k2 p2) (Some (k2, w))) (sym new)
            (by area s at here k2 p2 (eq_by_cmp R k2 k) refl (sym (finite.get-insert o index k (Some p) k2) ∙ there2) (plan.held k2 p2));
        lacked = λ k2 none2. ap (λ x. finite.get (tables_below {R = R} sizes count read x) k2) new
            ∙ ap (λ m. finite.get m k2) (step sizes sound count read o exact area s.number place bytes k (Some v) at short only says)
            ∙ finite.get-insert o (tables_below sizes count read area) k v k2 ∙ lacks k2 (eq_by_cmp R k2 k) (sym (finite.get-insert o index k (Some p) k2) ∙ none2) (plan.lacked k2);
        are_free = λ t. subst (λ x. AreFree sizes read count x t (without_first (table_of k) free t)) (sym new)
            (free_then area s.number p rest free k bytes at short first (subst AreApart first (plan.are_apart (table_of k))) s all.1 plan.are_free t);
        are_apart = apart_then p rest free (table_of k) first plan.are_apart;
      }
    where
      by : (area : Area) (s : Says sizes read count area (place_of k p) None) → StandsAt sizes sound count area s.number (place_of k p) → Says sizes read count (put_at p bytes area) (place_of k p) (Some (k, v)) → (k2 : K) (p2 : ℕ) (t : Bool) → eq_by_cmp R k2 k ≡ t
          → cond t (Some (Some p)) (finite.get index k2) ≡ Some (Some p2) → (finite.get index k2 ≡ Some (Some p2) → (w : V) × Says sizes read count area (place_of k2 p2) (Some (k2, w)))
          → (w : V) × Says sizes read count (put_at p bytes area) (place_of k2 p2) (Some (k2, w))
      by area s at here k2 p2 true t is held =
          let same : k ≡ k2 = sym (tied_are_one exact k2 k t) in
          let e : p ≡ p2 = cc in
          (v, subst (λ q. Says sizes read count (put_at p bytes area) (place_of k2 q) (Some (k2, v))) e (subst (λ q. Says sizes read count (put_at p bytes area) (place_of q p) (Some (q, v))) same here))
      by area s at here k2 p2 false t is held =
          let s2 = held is in
          other_held area s.number (place_of k p) bytes k2 p2 at short s2 (λ same. let h = one_says sizes sound read count area (place_of k2 p2) (place_of k p) (Some (k2, s2.0)) None s2.1 s same in cc)

      lacks : (k2 : K) (t : Bool) → cond t (Some (Some p)) (finite.get index k2) ≡ Some None → {m : Option V} → (finite.get index k2 ≡ Some None → m ≡ None) → cond t (Some v) m ≡ None
      lacks k2 true is rest = cc
      lacks k2 false is rest = rest is

  -- a key loses its place, which is not among the free ones before the group is committed
  pub plan_removed : (pages : Area) (changes : List (K × Option V)) (ranges : List Range) (index : finite.FinMap R (Option ℕ)) (free : ℕ → List ℕ) (k : K) (p : ℕ) (bytes : List ℕ)
      → IsPlan sizes read R table_of count pages changes ranges index free → finite.get index k ≡ Some (Some p) → length bytes ≤ sizes.width (table_of k)
      → read (slot_after sizes sound count (with_ranges ranges pages) (place_of k p) bytes) ≡ None
      → IsPlan sizes read R table_of count pages (changes ++ (k, None) ∷ []) (ranges ++ range_at p bytes ∷ []) (finite.insert index k None) free
  plan_removed pages changes ranges index free k p bytes plan there short says =
      let area = with_ranges ranges pages in
      let place = place_of k p in
      let s = plan.held k p there in
      let at = at_of sizes sound read count area place (Some (k, s.0)) s.1 in
      let only : OnlyAt R read k s.1.number (slots_below sizes count area) = only_used o read k s.0 s.1.number (slots_below sizes count area) (0, []) (among_slots sizes sound read count area s.1.number place at) plan.unique (s.1.says (0, [])) in
      let new : with_ranges (ranges ++ range_at p bytes ∷ []) pages ≡ put_at p bytes area = with_ranges-last ranges (range_at p bytes) pages in
      record {
        made = one_more_made sizes sound count read o exact pages ranges changes s.1.number place bytes k None plan.made at short only says;
        unique = subst (λ x. AreUnique R read (slots_below sizes count x)) (sym new) (step_unique sizes sound count read o area s.1.number place bytes k None at short only says plan.unique);
        held = λ k2 p2 there2. subst (λ x. (w : V) × Says sizes read count x (place_of k2 p2) (Some (k2, w))) (sym new)
            (by area s.1.number at s k2 p2 (eq_by_cmp R k2 k) refl (sym (finite.get-insert o index k None k2) ∙ there2) (plan.held k2 p2));
        lacked = λ k2 none. ap (λ x. finite.get (tables_below {R = R} sizes count read x) k2) new
            ∙ ap (λ m. finite.get m k2) (step sizes sound count read o exact area s.1.number place bytes k None at short only says)
            ∙ finite.get-remove o (tables_below sizes count read area) k k2 ∙ lacks k2 (eq_by_cmp R k2 k) (sym (finite.get-insert o index k None k2) ∙ none) (plan.lacked k2);
        are_free = λ t. subst (λ x. AreFree sizes read count x t (free t)) (sym new)
            (still_free sizes sound read count area s.1.number place bytes t (free t) at short (used_apart sizes sound read count area place (k, s.0) t (free t) s.1 (plan.are_free t)) (plan.are_free t));
        are_apart = plan.are_apart;
      }
    where
      by : (area : Area) (i : ℕ) → StandsAt sizes sound count area i (place_of k p) → ((w : V) × Says sizes read count area (place_of k p) (Some (k, w))) → (k2 : K) (p2 : ℕ) (t : Bool) → eq_by_cmp R k2 k ≡ t
          → cond t (Some None) (finite.get index k2) ≡ Some (Some p2) → (finite.get index k2 ≡ Some (Some p2) → (w : V) × Says sizes read count area (place_of k2 p2) (Some (k2, w)))
          → (w : V) × Says sizes read count (put_at p bytes area) (place_of k2 p2) (Some (k2, w))
      by area i at s k2 p2 true t is held = cc
      by area i at s k2 p2 false t is held =
          let s2 = held is in
          other_held area i (place_of k p) bytes k2 p2 at short s2 (other_place area (place_of k p) (place_of k2 p2) k k2 s.0 s2.0 s.1 s2.1 t)

      lacks : (k2 : K) (t : Bool) → cond t (Some None) (finite.get index k2) ≡ Some None → {m : Option V} → (finite.get index k2 ≡ Some None → m ≡ None) → cond t None m ≡ None
      lacks k2 true is rest = refl
      lacks k2 false is rest = rest is

  -- a range of the other tables, into a slot that said nothing here and says nothing, changes nothing
  pub plan_silent : (pages : Area) (changes : List (K × Option V)) (ranges : List Range) (index : finite.FinMap R (Option ℕ)) (free free2 : ℕ → List ℕ) (place : SlotPlace) (bytes : List ℕ)
      → IsPlan sizes read R table_of count pages changes ranges index free → Says sizes read count (with_ranges ranges pages) place None → length bytes ≤ sizes.width place.table
      → read (slot_after sizes sound count (with_ranges ranges pages) place bytes) ≡ None
      → ((t : ℕ) → AreFree sizes read count (with_ranges ranges pages) t (free2 t)) → ((t : ℕ) → AreOthers place.position (free2 t)) → ((t : ℕ) → AreApart (free2 t))
      → IsPlan sizes read R table_of count pages changes (ranges ++ range_at place.position bytes ∷ []) index free2
  plan_silent pages changes ranges index free free2 place bytes plan s short says all others apart =
      let area = with_ranges ranges pages in
      let at = at_of sizes sound read count area place None s in
      let new : with_ranges (ranges ++ range_at place.position bytes ∷ []) pages ≡ put_at place.position bytes area = with_ranges-last ranges (range_at place.position bytes) pages in
      let same : tables_below {R = R} sizes count read (put_at place.position bytes area) ≡ tables_below sizes count read area = silent sizes sound count read area s.number place bytes (0, []) at short (s.says (0, [])) says in
      record {
        made = ap (tables_below sizes count read) new ∙ same ∙ plan.made;
        unique = subst (λ x. AreUnique R read (slots_below sizes count x)) (sym new)
            (subst (AreUnique R read) (sym (written sizes sound count area s.number place bytes at short))
            (unique_silent R read (slots_below sizes count area) s.number (slot_after sizes sound count area place bytes) (0, []) (s.says (0, [])) says plan.unique));
        held = λ k2 p2 there2. subst (λ x. (w : V) × Says sizes read count x (place_of k2 p2) (Some (k2, w))) (sym new)
            (let s2 = plan.held k2 p2 there2 in
            other_held area s.number place bytes k2 p2 at short s2 (λ e. let h = one_says sizes sound read count area (place_of k2 p2) place (Some (k2, s2.0)) None s2.1 s e in cc));
        lacked = λ k2 none. ap (λ x. finite.get (tables_below {R = R} sizes count read x) k2) new ∙ ap (λ m. finite.get m k2) same ∙ plan.lacked k2 none;
        are_free = λ t. subst (λ x. AreFree sizes read count x t (free2 t)) (sym new) (still_free sizes sound read count area s.number place bytes t (free2 t) at short (others t) (all t));
        are_apart = apart;
      }

module _ {K V : Type 0} (sizes : SlotSizes) (sound : AreSlotSizes sizes) (read : TableSlot → Option (K × V)) (count : ℕ) (old new : Area) where
  -- what a slot says, where a page more has its places and slots behind all others
  front_says : (more : List SlotPlace) (slots : List TableSlot) → places_below sizes (count + 1) new ≡ places_below sizes count old ++ more → slots_below sizes (count + 1) new ≡ slots_below sizes count old ++ slots
      → (place : SlotPlace) (entry : Option (K × V)) → Says sizes read count old place entry → Says sizes read (count + 1) new place entry
  front_says more slots same_places same_slots place entry s =
      let at = at_of sizes sound read count old place entry s in
      let among = among_slots sizes sound read count old s.number place at in
      record {
        number = s.number;
        within = subst (λ ps. s.number < length ps) (sym same_places) (let l = length-append (places_below sizes count old) more in let w = s.within in omega arith);
        stands = λ d. ap (λ ps. get_or ps s.number d) same_places ∙ get_or_append_left (places_below sizes count old) more d s.number s.within ∙ s.stands d;
        says = λ d. ap (λ ss. read (get_or ss s.number d)) same_slots ∙ ap read (get_or_append_left (slots_below sizes count old) slots d s.number among) ∙ s.says d;
      }

  front_free : (more : List SlotPlace) (slots : List TableSlot) → places_below sizes (count + 1) new ≡ places_below sizes count old ++ more → slots_below sizes (count + 1) new ≡ slots_below sizes count old ++ slots
      → (table : ℕ) (positions : List ℕ) → AreFree sizes read count old table positions → AreFree sizes read (count + 1) new table positions
  front_free more slots same_places same_slots table [] free = tt
  front_free more slots same_places same_slots table (p ∷ positions) free =
      (front_says more slots same_places same_slots (record { table = table; position = p }) None free.0, front_free more slots same_places same_slots table positions free.1)

  module _ (table : ℕ) (is : IsNewPage count table old new) (free : read (blank_slot sizes table) ≡ None) where
    -- the j-th slot of the new page says nothing
    blank_says : (j : ℕ) → j < sizes.count table → Says sizes read (count + 1) new (record { table = table; position = slot_position (sizes.width table) count j }) None
    blank_says j within =
        let places = places_added sizes count old new table is in
        let slots = page_added sizes sound count old new table is in
        let long = slots_long sizes sound read count old in
        record {
          number = length (places_below sizes count old) + j;
          within = subst (λ ps. length (places_below sizes count old) + j < length ps) (sym places)
              (let l = length-append (places_below sizes count old) (run_of sizes table count 0 (sizes.count table)) in let r = length-run_of sizes table count 0 (sizes.count table) in omega arith);
          stands = λ d. ap (λ ps. get_or ps (length (places_below sizes count old) + j) d) places
              ∙ get_or-append-add (places_below sizes count old) (run_of sizes table count 0 (sizes.count table)) j d ∙ run_of-at sizes table count 0 (sizes.count table) j d within ∙ ap (place_in sizes table count) (omega arith);
          says = λ d. ap (λ ss. read (get_or ss (length (places_below sizes count old) + j) d)) slots
              ∙ ap (λ n. read (get_or (slots_below sizes count old ++ replicate (sizes.count table) (blank_slot sizes table)) (n + j) d)) (sym long)
              ∙ ap read (get_or-append-add (slots_below sizes count old) (replicate (sizes.count table) (blank_slot sizes table)) j d ∙ get_or-replicate (sizes.count table) j (blank_slot sizes table) d within) ∙ free;
        }

    blanks_free : (i n : ℕ) → i + n ≤ sizes.count table → AreFree sizes read (count + 1) new table (map (slot_position (sizes.width table) count) (range_with_len i n))
    blanks_free i zero within = tt
    blanks_free i (suc n) within = (blank_says i (omega arith), blanks_free (i + 1) n (omega arith))

-- positions that rise are apart
module _ (sizes : SlotSizes) (sound : AreSlotSizes sizes) where
  -- no position of a page's slots from the i-th on is one that lies before it
  before_run : (table page at i n : ℕ) → at < slot_position (sizes.width table) page i → AreOthers at (map (slot_position (sizes.width table) page) (range_with_len i n))
  before_run table page at i zero before = tt
  before_run table page at i (suc n) before =
      let next = next_position sizes (sizes.width table) page i in
      ((λ same. absurd (omega arith)), before_run table page at (i + 1) n (omega arith))

  run_apart : (table page i n : ℕ) → AreApart (map (slot_position (sizes.width table) page) (range_with_len i n))
  run_apart table page i zero = tt
  run_apart table page i (suc n) =
      let wide = sound.some table in
      let next = next_position sizes (sizes.width table) page i in
      (before_run table page (slot_position (sizes.width table) page i) (i + 1) n (omega arith), run_apart table page (i + 1) n)

  others_append : (at : ℕ) (xs ys : List ℕ) → AreOthers at xs → AreOthers at ys → AreOthers at (xs ++ ys)
  others_append at [] ys one two = two
  others_append at (x ∷ xs) ys one two = (one.0, others_append at xs ys one.1 two)

  module _ {K V : Type 0} (read : TableSlot → Option (K × V)) (count : ℕ) (old : Area) where
    -- a slot of the pages below a number lies before the page with that number
    lies_before : (some : 1 ≤ count) (place : SlotPlace) (entry : Option (K × V)) → Says sizes read count old place entry → place.position < 4096 * count
    lies_before some place entry s =
        let wide = sound.some place.table in
        let h : end_of sizes place ≤ 4096 * count = subst (λ x. end_of sizes x ≤ 4096 * count) (s.stands place)
        (upto_get_or sizes (4096 * count) (places_below sizes count old) s.number place (pages_high sizes sound old count 1 (count - 1) (omega arith)) s.within) in
        omega arith

    free_and_new : (some : 1 ≤ count) (table t : ℕ) (positions : List ℕ) → AreFree sizes read count old t positions → AreApart positions → AreApart (positions ++ page_positions sizes table count)
    free_and_new some table t [] free apart = run_apart table count 0 (sizes.count table)
    free_and_new some table t (p ∷ positions) free apart =
        let before = lies_before some (record { table = t; position = p }) None free.0 in
        (others_append p positions (page_positions sizes table count) apart.0 (before_run table count p 0 (sizes.count table) (omega arith)), free_and_new some table t positions free.1 apart.1)

module _ {K V : Type 0} (R : K → K → Ordering) (sizes : SlotSizes) (sound : AreSlotSizes sizes) (read : TableSlot → Option (K × V)) (table_of : K → ℕ) (count : ℕ) where
  blanks_unique : (slots : List TableSlot) (n : ℕ) (blank : TableSlot) → read blank ≡ None → AreUnique R read slots → AreUnique R read (slots ++ replicate n blank)
  blanks_unique [] zero blank free unique = tt
  blanks_unique [] (suc n) blank free unique = (subst (λ e. NoneSaysIts R read e (replicate n blank)) (sym free) tt, blanks_unique [] n blank free tt)
  blanks_unique (slot ∷ slots) n blank free unique = (by (read slot) unique.0, blanks_unique slots n blank free unique.1)
    where
      none_blank : (k : K) (m : ℕ) → NoneSays R read k (replicate m blank)
      none_blank k zero = tt
      none_blank k (suc m) = (subst (λ e. Misses R k e) (sym free) tt, none_blank k m)

      none_more : (k : K) (rest : List TableSlot) → NoneSays R read k rest → NoneSays R read k (rest ++ replicate n blank)
      none_more k [] none = none_blank k n
      none_more k (r ∷ rest) none = (none.0, none_more k rest none.1)

      by : (e : Option (K × V)) → NoneSaysIts R read e slots → NoneSaysIts R read e (slots ++ replicate n blank)
      by None none = tt
      by (Some e) none = none_more e.0 slots none

  -- the positions of a new page are free behind those that were
  pub plan_with_page : (pages : Area) (changes : List (K × Option V)) (ranges more : List Range) (index : finite.FinMap R (Option ℕ)) (free : ℕ → List ℕ) (table : ℕ)
      → IsPlan sizes read R table_of count pages changes ranges index free → IsNewPage count table (with_ranges ranges pages) (with_ranges (ranges ++ more) pages) → read (blank_slot sizes table) ≡ None
      → IsPlan sizes read R table_of (count + 1) pages changes (ranges ++ more) index (with_page sizes table count free)
  plan_with_page pages changes ranges more index free table plan is blank =
      let old = with_ranges ranges pages in
      let new = with_ranges (ranges ++ more) pages in
      let places = places_added sizes count old new table is in
      let slots = page_added sizes sound count old new table is in
      let run = run_of sizes table count 0 (sizes.count table) in
      let blanks = replicate (sizes.count table) (blank_slot sizes table) in
      let same : tables_below {R = R} sizes (count + 1) read new ≡ tables_below sizes count read old = page_made sizes sound count read old new table is blank in
      record {
        made = same ∙ plan.made;
        unique = subst (AreUnique R read) (sym slots) (blanks_unique (slots_below sizes count old) (sizes.count table) (blank_slot sizes table) blank plan.unique);
        held = λ k p there. let s = plan.held k p there in (s.0, front_says sizes sound read count old new run blanks places slots (record { table = table_of k; position = p }) (Some (k, s.0)) s.1);
        lacked = λ k none. ap (λ m. finite.get m k) same ∙ plan.lacked k none;
        are_free = λ t. free_by old new is blank run blanks places slots t (plan.are_free t) (nat_eq t table) refl;
        are_apart = λ t. apart_by old is.some t (plan.are_free t) (plan.are_apart t) (nat_eq t table);
      }
    where
      free_by : (old new : Area) (is : IsNewPage count table old new) (blank : read (blank_slot sizes table) ≡ None) (run : List SlotPlace) (blanks : List TableSlot) → places_below sizes (count + 1) new ≡ places_below sizes count old ++ run
          → slots_below sizes (count + 1) new ≡ slots_below sizes count old ++ blanks → (t : ℕ) → AreFree sizes read count old t (free t) → (b : Bool) → nat_eq t table ≡ b
          → AreFree sizes read (count + 1) new t (cond b (free t ++ page_positions sizes table count) (free t))
      free_by old new is blank run blanks places slots t all true e =
          let same : t ≡ table = grind (arith, nat_tests, e) in
          free_append2 new t (free t) (page_positions sizes table count) (front_free sizes sound read count old new run blanks places slots t (free t) all)
          (subst (λ u. AreFree sizes read (count + 1) new u (page_positions sizes table count)) (sym same) (blanks_free sizes sound read count old new table is blank 0 (sizes.count table) (omega arith)))
        where
          free_append2 : (area : Area) (u : ℕ) (xs ys : List ℕ) → AreFree sizes read (count + 1) area u xs → AreFree sizes read (count + 1) area u ys → AreFree sizes read (count + 1) area u (xs ++ ys)
          free_append2 area u [] ys one two = two
          free_append2 area u (x ∷ xs) ys one two = (one.0, free_append2 area u xs ys one.1 two)
      free_by old new is blank run blanks places slots t all false e = front_free sizes sound read count old new run blanks places slots t (free t) all

      apart_by : (old : Area) → 1 ≤ count → (t : ℕ) → AreFree sizes read count old t (free t) → AreApart (free t) → (b : Bool) → AreApart (cond b (free t ++ page_positions sizes table count) (free t))
      apart_by old some t all apart true = free_and_new sizes sound read count old some table t (free t) all apart
      apart_by old some t all apart false = apart

  -- a range in page 0 changes nothing of the plan
  pub plan_with_control : (pages : Area) (changes : List (K × Option V)) (ranges : List Range) (index : finite.FinMap R (Option ℕ)) (free : ℕ → List ℕ) (at : ℕ) (bytes : List ℕ)
      → IsPlan sizes read R table_of count pages changes ranges index free → at + length bytes ≤ 4096
      → IsPlan sizes read R table_of count pages changes (ranges ++ record { position = at; bytes = bytes } ∷ []) index free
  plan_with_control pages changes ranges index free at bytes plan low =
      let old = with_ranges ranges pages in
      let new : with_ranges (ranges ++ record { position = at; bytes = bytes } ∷ []) pages ≡ put_at at bytes old = with_ranges-last ranges (record { position = at; bytes = bytes }) pages in
      let places = control_places sizes count old at bytes low in
      let slots = control_written sizes count old at bytes low in
      let same : tables_below {R = R} sizes count read (put_at at bytes old) ≡ tables_below sizes count read old = control_made sizes sound count read old at bytes low in
      record {
        made = ap (tables_below sizes count read) new ∙ same ∙ plan.made;
        unique = subst (λ x. AreUnique R read (slots_below sizes count x)) (sym new) (subst (AreUnique R read) (sym slots) plan.unique);
        held = λ k p there. let s = plan.held k p there in
            (s.0, subst (λ x. Says sizes read count x (record { table = table_of k; position = p }) (Some (k, s.0))) (sym new) (says_still old (put_at at bytes old) places slots (record { table = table_of k; position = p }) (Some (k, s.0)) s.1));
        lacked = λ k none. ap (λ x. finite.get (tables_below {R = R} sizes count read x) k) new ∙ ap (λ m. finite.get m k) same ∙ plan.lacked k none;
        are_free = λ t. subst (λ x. AreFree sizes read count x t (free t)) (sym new) (free_still old (put_at at bytes old) places slots t (free t) (plan.are_free t));
        are_apart = plan.are_apart;
      }
    where
      says_still : (old new : Area) → places_below sizes count new ≡ places_below sizes count old → slots_below sizes count new ≡ slots_below sizes count old → (place : SlotPlace) (entry : Option (K × V)) → Says sizes read count old place entry → Says sizes read count new place entry
      says_still old new places slots place entry s = record {
        number = s.number;
        within = subst (λ ps. s.number < length ps) (sym places) s.within;
        stands = λ d. ap (λ ps. get_or ps s.number d) places ∙ s.stands d;
        says = λ d. ap (λ ss. read (get_or ss s.number d)) slots ∙ s.says d;
      }

      free_still : (old new : Area) → places_below sizes count new ≡ places_below sizes count old → slots_below sizes count new ≡ slots_below sizes count old → (t : ℕ) (positions : List ℕ) → AreFree sizes read count old t positions → AreFree sizes read count new t positions
      free_still old new places slots t [] all = tt
      free_still old new places slots t (p ∷ positions) all = (says_still old new places slots (record { table = t; position = p }) None all.0, free_still old new places slots t positions all.1)
