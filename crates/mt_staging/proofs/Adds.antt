-- What the parts of a change say of the whole.
use Rattle.std.proofs.Common.{◌≡◌, ◌⊎◌, ℕ, ◌+◌, ◌^◌, ◌<◌, ◌≤◌, Bool, true, false, cond, List, [], ◌∷◌, ◌++◌, length, Option, None, Some, is_some, refl, sym, ap, ◌∙◌, inl, inr, arith, subst}
use Rattle.std.specs.declared.cmp.Ordering.{Ordering}
use Rattle.std.specs.Ordering.{eq_by_cmp}
use Rattle.std.specs.Cmp.{IsTotalOrder}
use Rattle.std.specs.FinMap as finite
use Rattle.mt_journal.specs.Layout.{Area}
use Rattle.mt_rowfile.specs.declared.layout.Head.TheVariants.{Catalogue, Conventional}
use Rattle.mt_rowfile.specs.declared.layout.Layout.{Layout}
use Rattle.mt_rowfile.specs.declared.slot.SlotRow.{SlotRow}
use Rattle.mt_rowfile.specs.Fields.{AreKinds}
use Rattle.mt_rowfile.specs.Layouts.{IsLayout, IsOfRows, body_width, slots_per_page}
use Rattle.mt_rowfile.specs.Slots.{FitsLayout, HasNumbers, slot_bytes}
use Rattle.mt_physplan.specs.declared.change.Change.{Change}
use Rattle.mt_physplan.specs.declared.change.Change.TheVariants.{Put, Mark, Remove, PutCat, RemoveCat}
use Rattle.mt_physplan.specs.declared.key.Key.{Key}
use Rattle.mt_physplan.specs.Applied.{body_cmp}
use Rattle.mt_physplan.specs.Keys.{conventional_key, key_cmp, key_in}
use Rattle.mt_physplan.proofs.Keys.{keys_total}
use Rattle.mt_places.specs.Named.{table_of}
use Rattle.mt_tables.specs.Rows.{AreKnown, KnownLayouts, layout_of, sizes_of}
use Rattle.mt_tables.proofs.Bodies.{bodies_total}
use Rattle.mt_tables.proofs.Sizes.{sizes_sound}
use Rattle.mt_staging.specs.Group.{GroupState, IsAsked, IsGroup, IsLost, NeedsPage, Suits}
use Rattle.mt_staging.specs.Steps.{FindsFree, IsFarFree, IsFarOver, IsFull, PutFaults, PutsSlot, TakesAway, WriteFaults, WritesFree, WritesOver, page_made, with_body, with_row}
use Rattle.mt_staging.proofs.Keeps.{body_long, body_low, free_low, mark_keeps, put_body_keeps, put_keeps, remove_body_keeps, remove_keeps, row_low, slot_long}

-- a change keeps a group
abbrev pub Keeps : Layout → ℕ → Change → GroupState → GroupState → Type 0
Keeps layout count change old new =
    (known : KnownLayouts) (area : Area) (start : ℕ → ℕ) (changes : List Change) → AreKnown known → layout_of known (table_of change) ≡ Some layout
    → IsGroup known count area start changes old → IsGroup known count area start (changes ++ change ∷ []) new

-- what a fault of the disk says
abbrev pub Faults : Layout → ℕ → Change → GroupState → Type 0
Faults layout count change old =
    (known : KnownLayouts) (area : Area) (start : ℕ → ℕ) (changes : List Change) → AreKnown known → layout_of known (table_of change) ≡ Some layout
    → IsGroup known count area start changes old → IsLost change old.places ⊎ ((2 ^ 28 ≤ count + length old.added) × NeedsPage change old.places)

-- what was asked for is still
abbrev pub AsksStill : GroupState → GroupState → Type 0
AsksStill old new = (other : Change) → IsAsked other old.places → IsAsked other new.places

-- a map has a key more at most
still_there : {K V : Type 0} {R : K → K → Ordering} (o : IsTotalOrder R) (m : finite.FinMap R V) (k : K) (v : V) (q : K) → finite.contains_key m q ≡ true → finite.contains_key (finite.insert m k v) q ≡ true
still_there {R = R} o m k v q there = ap is_some (finite.get-insert o m k v q) ∙ by (eq_by_cmp R q k)
  where
    by : (b : Bool) → is_some (cond b (Some v) (finite.get m q)) ≡ true
    by true = refl
    by false = there

rows_still : (old : GroupState) (key : Key) (place : Option ℕ) → AsksStill old (with_row key place old)
rows_still old key place other asked = ((λ q is. still_there keys_total old.places.rows key place q (asked.0 q is)), asked.1)

bodies_still : (old : GroupState) (body : ℕ × List ℕ) (place : Option ℕ) → AsksStill old (with_body body place old)
bodies_still old body place other asked = (asked.0, (λ q is. still_there bodies_total old.places.bodies body place q (asked.1 q is)))

found_still : (layout : Layout) (table count position : ℕ) (old new : GroupState) → FindsFree layout table count position old new → AsksStill old new
found_still layout table count position old new (inl first) = subst (AsksStill old) (sym first.rest) (λ other asked. asked)
found_still layout table count position old new (inr (mid, made, first)) =
    subst (AsksStill old) (sym first.rest) (subst (AsksStill old) (sym made.page) (λ other asked. asked))

pub over_asks : (place : Option (Option ℕ)) (bytes : List ℕ) (old new : GroupState) → WritesOver place bytes old new → AsksStill old new
over_asks place bytes old new w = subst (AsksStill old) (sym w.written) (λ other asked. asked)

pub put_asks : (layout : Layout) (table count : ℕ) (place : Option (Option ℕ)) (bytes : List ℕ) (key : Key) (old new : GroupState) → PutsSlot layout table count place bytes (with_row key) old new → AsksStill old new
put_asks layout table count place bytes key old new (inl w) = over_asks place bytes old new w
put_asks layout table count place bytes key old new (inr w) =
    subst (AsksStill old) (sym w.written) (λ other asked. rows_still w.between key (Some w.position) other (found_still layout table count w.position old w.between w.found other asked))

pub put_body_asks : (layout : Layout) (table count : ℕ) (place : Option (Option ℕ)) (bytes : List ℕ) (body : ℕ × List ℕ) (old new : GroupState) → PutsSlot layout table count place bytes (with_body body) old new → AsksStill old new
put_body_asks layout table count place bytes body old new (inl w) = over_asks place bytes old new w
put_body_asks layout table count place bytes body old new (inr w) =
    subst (AsksStill old) (sym w.written) (λ other asked. bodies_still w.between body (Some w.position) other (found_still layout table count w.position old w.between w.found other asked))

pub remove_asks : (table : ℕ) (place : Option (Option ℕ)) (key : Key) (old new : GroupState) → TakesAway table place (with_row key) old new → AsksStill old new
remove_asks table place key old new w = subst (AsksStill old) (sym w.written) (rows_still old key None)

pub remove_body_asks : (table : ℕ) (place : Option (Option ℕ)) (body : ℕ × List ℕ) (old new : GroupState) → TakesAway table place (with_body body) old new → AsksStill old new
remove_body_asks table place body old new w = subst (AsksStill old) (sym w.written) (bodies_still old body None)

module _ (layout : Layout) (count : ℕ) (old new : GroupState) (sound : IsLayout layout) where
  pub put_kept : (change : Change) (table : ℕ) (slot : SlotRow) → change ≡ Put table slot → Suits layout change → table_of change ≤ 31 → AreKinds layout.kinds → HasNumbers slot
      → PutsSlot layout table count (finite.get old.places.rows (key_in table slot)) (slot_bytes layout slot) (with_row (key_in table slot)) old new → Keeps layout count change old new
  put_kept change table slot is suits small kinds numbers puts =
      subst (λ c. Suits layout c → table_of c ≤ 31 → Keeps layout count c old new) (sym is)
      (λ suits small known area start changes are found g. put_keeps known count area start changes old g layout table slot found suits.0 suits.2 kinds suits.1 numbers small new puts) suits small

  pub mark_kept : (change : Change) (table tenant row mark : ℕ) (key : Key) → change ≡ Mark table tenant row mark → Suits layout change → key ≡ conventional_key table tenant row
      → WritesOver (finite.get old.places.rows key) (mark ∷ []) old new → Keeps layout count change old new
  mark_kept change table tenant row mark key is suits named w =
      subst (λ c. Suits layout c → Keeps layout count c old new) (sym is)
      (λ suits known area start changes are found g. mark_keeps known count area start changes old g layout table tenant row mark new found suits.0 suits.1 (subst (λ k. WritesOver (finite.get old.places.rows k) (mark ∷ []) old new) named w)) suits

  pub remove_kept : (change : Change) (table tenant base chunk row : ℕ) (key : Key) → change ≡ Remove table tenant base chunk row → Suits layout change → key ≡ record { table = table; tenant = tenant; base = base; chunk = chunk; row = row }
      → TakesAway key.table (finite.get old.places.rows key) (with_row key) old new → Keeps layout count change old new
  remove_kept change table tenant base chunk row key is suits named w =
      subst (λ c. Suits layout c → Keeps layout count c old new) (sym is)
      (λ suits known area start changes are found g. remove_keeps known count area start changes old g layout table tenant base chunk row new found suits
      (subst (λ (k : Key). TakesAway k.table (finite.get old.places.rows k) (with_row k) old new) named w)) suits

  pub put_body_kept : (change : Change) (table : ℕ) (body : List ℕ) → change ≡ PutCat table body → Suits layout change → table_of change ≤ 31
      → PutsSlot layout table count (finite.get old.places.bodies (table, body)) (1 ∷ body) (with_body (table, body)) old new → Keeps layout count change old new
  put_body_kept change table body is suits small puts =
      subst (λ c. Suits layout c → table_of c ≤ 31 → Keeps layout count c old new) (sym is)
      (λ suits small known area start changes are found g. put_body_keeps known count area start changes old g layout table body found sound suits.0 suits.1 small new puts) suits small

  pub remove_body_kept : (change : Change) (table : ℕ) (body : List ℕ) → change ≡ RemoveCat table body → Suits layout change
      → TakesAway table (finite.get old.places.bodies (table, body)) (with_body (table, body)) old new → Keeps layout count change old new
  remove_body_kept change table body is suits w =
      subst (λ c. Suits layout c → Keeps layout count c old new) (sym is)
      (λ suits known area start changes are found g. remove_body_keeps known count area start changes old g layout table body new found sound suits.0 w) suits

-- a slot that lies in the pages does not end behind them
not_far : (p n w : ℕ) → p + w ≤ 2 ^ 40 → n ≤ w → 2 ^ 40 < p + n → ⊥
not_far p n w low short far = omega (arith, low, short, far)

module _ (layout : Layout) (count : ℕ) (old : GroupState) (sound : IsLayout layout) where
  pub put_faults : (change : Change) (table : ℕ) (slot : SlotRow) → change ≡ Put table slot → Suits layout change → table_of change ≤ 31 → AreKinds layout.kinds → HasNumbers slot
      → PutFaults layout table count (finite.get old.places.rows (key_in table slot)) (slot_bytes layout slot) old → Faults layout count change old
  put_faults change table slot is suits small kinds numbers faults =
      subst (λ c. Suits layout c → table_of c ≤ 31 → Faults layout count c old) (sym is)
      (λ suits small known area start changes are found g. by known area start changes g found suits.0 suits.2 suits.1 small faults) suits small
    where
      by : (known : KnownLayouts) (area : Area) (start : ℕ → ℕ) (changes : List Change) → IsGroup known count area start changes old → layout_of known table ≡ Some layout → IsOfRows layout.head → 1 ≤ slots_per_page layout → FitsLayout layout slot → table ≤ 31
          → PutFaults layout table count (finite.get old.places.rows (key_in table slot)) (slot_bytes layout slot) old → IsLost (Put table slot) old.places ⊎ ((2 ^ 28 ≤ count + length old.added) × NeedsPage (Put table slot) old.places)
      by known area start changes g found rows room fits small (inl f) =
          let long = slot_long known count area start changes old g layout table slot found rows room kinds fits numbers in
          absurd (not_far f.position (length (slot_bytes layout slot)) ((sizes_of known).width table) (row_low known count area start changes old g (key_in table slot) f.position f.stands) (omega (arith, long)) f.far)
      by known area start changes g found rows room fits small (inr (inl f)) =
          let long = slot_long known count area start changes old g layout table slot found rows room kinds fits numbers in
          absurd (not_far f.position (length (slot_bytes layout slot)) ((sizes_of known).width table) (free_low known count area start changes old g layout table f.position f.between found small f.found) (omega (arith, long)) f.far)
      by known area start changes g found rows room fits small (inr (inr f)) = inr (f.many, (f.nowhere, f.none_left))

  pub put_body_faults : (change : Change) (table : ℕ) (body : List ℕ) → change ≡ PutCat table body → Suits layout change → table_of change ≤ 31
      → PutFaults layout table count (finite.get old.places.bodies (table, body)) (1 ∷ body) old → Faults layout count change old
  put_body_faults change table body is suits small faults =
      subst (λ c. Suits layout c → table_of c ≤ 31 → Faults layout count c old) (sym is)
      (λ suits small known area start changes are found g. by known area start changes g found suits.0 suits.1 small faults) suits small
    where
      by : (known : KnownLayouts) (area : Area) (start : ℕ → ℕ) (changes : List Change) → IsGroup known count area start changes old → layout_of known table ≡ Some layout → layout.head ≡ Catalogue table → length body ≡ body_width table → table ≤ 31
          → PutFaults layout table count (finite.get old.places.bodies (table, body)) (1 ∷ body) old → IsLost (PutCat table body) old.places ⊎ ((2 ^ 28 ≤ count + length old.added) × NeedsPage (PutCat table body) old.places)
      by known area start changes g found head size small (inl f) =
          let long = body_long known count area start changes old g layout table body found sound head size in
          absurd (not_far f.position (length (1 ∷ body)) ((sizes_of known).width table) (body_low known count area start changes old g (table, body) f.position f.stands) (omega (arith, long)) f.far)
      by known area start changes g found head size small (inr (inl f)) =
          let long = body_long known count area start changes old g layout table body found sound head size in
          absurd (not_far f.position (length (1 ∷ body)) ((sizes_of known).width table) (free_low known count area start changes old g layout table f.position f.between found small f.found) (omega (arith, long)) f.far)
      by known area start changes g found head size small (inr (inr f)) = inr (f.many, (f.nowhere, f.none_left))

  -- a row that is marked or removed stands nowhere
  row_faults : (known : KnownLayouts) (area : Area) (start : ℕ → ℕ) (changes : List Change) (key : Key) (mark : ℕ) → IsGroup known count area start changes old → WriteFaults (finite.get old.places.rows key) (mark ∷ []) → finite.get old.places.rows key ≡ Some None
  row_faults known area start changes key mark g (inl f) =
      let some = (sizes_sound known).some key.table in
      absurd (not_far f.position 1 ((sizes_of known).width key.table) (row_low known count area start changes old g key f.position f.stands) some f.far)
  row_faults known area start changes key mark g (inr none) = none

  pub mark_faults : (change : Change) (table tenant row mark : ℕ) (key : Key) → change ≡ Mark table tenant row mark → key ≡ conventional_key table tenant row → WriteFaults (finite.get old.places.rows key) (mark ∷ []) → Faults layout count change old
  mark_faults change table tenant row mark key is named faults =
      subst (λ c. Faults layout count c old) (sym is)
      (λ known area start changes are found g. inl (key, ap (λ (k : Key). Some k) (sym named), row_faults known area start changes key mark g faults))

  pub remove_faults : (change : Change) (table tenant base chunk row : ℕ) (key : Key) → change ≡ Remove table tenant base chunk row → key ≡ record { table = table; tenant = tenant; base = base; chunk = chunk; row = row }
      → WriteFaults (finite.get old.places.rows key) (0 ∷ []) → Faults layout count change old
  remove_faults change table tenant base chunk row key is named faults =
      subst (λ c. Faults layout count c old) (sym is) (λ known area start changes are found g. inl (key, ap (λ (k : Key). Some k) (sym named), row_faults known area start changes key 0 g faults))

  pub remove_body_faults : (change : Change) (table : ℕ) (body : List ℕ) → change ≡ RemoveCat table body → WriteFaults (finite.get old.places.bodies (table, body)) (0 ∷ []) → Faults layout count change old
  remove_body_faults change table body is faults =
      subst (λ c. Faults layout count c old) (sym is) (λ known area start changes are found g. inl (by known area start changes g faults))
    where
      by : (known : KnownLayouts) (area : Area) (start : ℕ → ℕ) (changes : List Change) → IsGroup known count area start changes old → WriteFaults (finite.get old.places.bodies (table, body)) (0 ∷ []) → finite.get old.places.bodies (table, body) ≡ Some None
      by known area start changes g (inl f) =
          let some = (sizes_sound known).some table in
          absurd (not_far f.position 1 ((sizes_of known).width table) (body_low known count area start changes old g (table, body) f.position f.stands) some f.far)
      by known area start changes g (inr none) = none
