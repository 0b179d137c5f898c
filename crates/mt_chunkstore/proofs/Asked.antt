-- What changes name is asked for from the start, and while the pages are looked through.
use Rattle.std.proofs.Common.{◌≡◌, ℕ, zero, suc, ◌+◌, ◌-◌, ◌*◌, ◌<◌, ◌≤◌, ◌||◌, nat_le, Bool, true, false, cond, IsTrue, List, [], ◌∷◌, map, length, slice_index, slice_index_or, All, Option, None, Some, is_some, refl, sym, ap, subst, ◌∙◌, arith}
use Rattle.std.specs.Prelude.{filter_map, OnOk, Result, Ok, Err}
use Rattle.std.specs.List.{list_any, cons_option}
use Rattle.std.specs.declared.cmp.Ordering.{Ordering}
use Rattle.std.specs.Ordering.{eq_by_cmp}
use Rattle.std.specs.Cmp.{IsTotalOrder}
use Rattle.std.specs.FinMap as finite
use Rattle.std.proofs.lemmas.Bool.{false≢true}
use Rattle.std.proofs.lemmas.Bool.Decides.{nat_tests}
use Rattle.std.proofs.lemmas.Cmp.{eq_by_cmp_equiv}
use Rattle.std.proofs.lemmas.List.Elements.{All-head, All-tail}
use Rattle.mt_machine.specs.declared.machine.Area.TheVariants.{Pages}
use Rattle.mt_machine.specs.Meaning.{Disk, Meaning}
use Rattle.mt_machine.specs.Leaves.{Looks}
use Rattle.mt_rowfile.specs.declared.layout.Layout.{Layout}
use Rattle.mt_physplan.specs.declared.change.Change.{Change}
use Rattle.mt_physplan.proofs.Keys.{keys_total}
use Rattle.mt_tables.specs.Pages.{bytes_at, table_at}
use Rattle.mt_tables.specs.Plan.{PlacedSlot, placed_in, sought, with_place}
use Rattle.mt_tables.specs.Rows.{KnownLayouts, body_in, layout_of, row_in, sizes_of}
use Rattle.mt_tables.specs.Tables.{TableSlot}
use Rattle.mt_tables.proofs.Bodies.{bodies_total}
use Rattle.mt_directory.specs.Directory.{directory_of, listed_table}
use Rattle.mt_places.specs.Named.{body_key, is_of, row_key, table_of}
use Rattle.mt_places.specs.Places.{IsBegun, IsLooked, PlacesState}
use Rattle.mt_places.proofs.Pages.{table-within}
use Rattle.mt_staging.specs.Group.{IsAsked}
use Rattle.mt_chunkstore.specs.Changes.{IsSuited}
use Rattle.mt_chunkstore.specs.Walked.{IsFound, IsWalked}
use Rattle.mt_chunkstore.proofs.OnePage.{layout_some, listed_is}
use Rattle.mt_chunkstore.proofs.Walked.{NamesNone, walked_none, walked_page, walked_past}

module _ {K V : Type 0} {R : K → K → Ordering} (o : IsTotalOrder R) (read : TableSlot → Option (K × V)) where
  -- a look at slots keeps what is asked for
  sought_keeps : (slots : List PlacedSlot) (index : finite.FinMap R (Option ℕ)) (key : K) → finite.contains_key index key ≡ true → finite.contains_key (sought read slots index) key ≡ true
  sought_keeps [] index key there = there
  sought_keeps (slot ∷ slots) index key there = sought_keeps slots (with_place (read slot.1) slot.0.position index) key (by (read slot.1))
    where
      either : (t : Bool) → is_some (cond t (Some (Some slot.0.position)) (finite.get index key)) ≡ true
      either true = refl
      either false = there

      one : (e : K × V) (b : Bool) → finite.contains_key (cond b (finite.insert index e.0 (Some slot.0.position)) index) key ≡ true
      one e true = ap is_some (finite.get-insert o index e.0 (Some slot.0.position) key) ∙ either (eq_by_cmp R key e.0)
      one e false = there

      by : (e : Option (K × V)) → finite.contains_key (with_place e slot.0.position index) key ≡ true
      by None = there
      by (Some e) = one e (finite.contains_key index e.0)

module _ {K : Type 0} {R : K → K → Ordering} (o : IsTotalOrder R) (key_of : Change → Option K) where
  abbrev begun_with : Option K → List Change → finite.FinMap R (Option ℕ)
  begun_with named changes = finite.from_entries (map (λ key. (key, None)) (cons_option named (filter_map key_of changes)))

  -- each key that a change names is asked for at the start
  named_asked : (changes : List Change) (k : ℕ) (d : Change) (key : K) → k < length changes → key_of (slice_index_or changes k d) ≡ Some key
      → finite.contains_key (begun_with None changes) key ≡ true
  named_asked [] k d key within is = absurd (omega arith)
  named_asked (change ∷ changes) zero d key within is = by (key_of change) is
    where
      by : (named : Option K) → named ≡ Some key → finite.contains_key (begun_with named changes) key ≡ true
      by None e = absurd (cc)
      by (Some k) e =
          let same : k ≡ key = cc in
          let tied : eq_by_cmp R key k ≡ true = ap (λ x. eq_by_cmp R key x) same ∙ (eq_by_cmp_equiv o).refl key in
          ap is_some (finite.get-insert o (begun_with None changes) k None key ∙ ap (λ t. cond t (Some None) (finite.get (begun_with None changes) key)) tied)
  named_asked (change ∷ changes) (suc k) d key within is = by (key_of change) (named_asked changes k d key (omega arith) is)
    where
      by : (named : Option K) → finite.contains_key (begun_with None changes) key ≡ true → finite.contains_key (begun_with named changes) key ≡ true
      by None rest = rest
      by (Some k) rest = ap is_some (finite.get-insert o (begun_with None changes) k None key) ∙ either (eq_by_cmp R key k)
        where
          either : (t : Bool) → is_some (cond t (Some None) (finite.get (begun_with None changes) key)) ≡ true
          either true = refl
          either false = rest

-- what the changes name is asked for
all_asked : (changes : List Change) (begun : PlacesState) → IsBegun changes begun → All (λ change. IsAsked change begun) changes
all_asked changes begun is = λ k d within. (
  (λ key named. ap (λ rows. finite.contains_key rows key) is.rows ∙ named_asked keys_total row_key changes k d key within named),
  (λ key named. ap (λ bodies. finite.contains_key bodies key) is.bodies ∙ named_asked bodies_total body_key changes k d key within named),
)

-- and stays so while a page is looked at
pub asked_looked : (known : KnownLayouts) (table page : ℕ) (bytes : List ℕ) (old new : PlacesState) → IsLooked known table page bytes old new → (change : Change) → IsAsked change old → IsAsked change new
asked_looked known table page bytes old new look change asked =
    let slots = placed_in (sizes_of known) table page bytes in (
      (λ key named. ap (λ rows. finite.contains_key rows key) look.rows ∙ sought_keeps keys_total (row_in known) slots old.rows key (asked.0 key named)),
      (λ key named. ap (λ bodies. finite.contains_key bodies key) look.bodies ∙ sought_keeps bodies_total body_in slots old.bodies key (asked.1 key named)),
    )

-- a table that a change names has a layout that is known
named_layout : (known : KnownLayouts) (table : ℕ) (changes : List Change) → All (IsSuited known) changes → list_any (is_of table) changes ≡ true → (layout : Layout) × (layout_of known table ≡ Some layout)
named_layout known table [] all is = absurd (false≢true is)
named_layout known table (change ∷ changes) all is = by (is_of table change) refl is (named_layout known table changes (All-tail (IsSuited known) change changes all))
  where
    by : (b : Bool) → is_of table change ≡ b → (b || list_any (is_of table) changes) ≡ true → (list_any (is_of table) changes ≡ true → (layout : Layout) × (layout_of known table ≡ Some layout)) → (layout : Layout) × (layout_of known table ≡ Some layout)
    by true e some rest =
        let one = All-head (IsSuited known) change changes all in
        let same : table_of change ≡ table = grind (arith, nat_tests, e) in
        (one.layout, ap (layout_of known) (sym same) ∙ one.is_known)
    by false e some rest = rest some

-- a number that no table has is named by none
named_within : (known : KnownLayouts) (table : ℕ) (changes : List Change) → All (IsSuited known) changes → list_any (is_of table) changes ≡ true → table ≤ 31
named_within known table changes all is = let found = named_layout known table changes all is in table-within known table found.0 found.1

listed_small : (table : ℕ) → table ≤ 31 → listed_table table ≡ table
listed_small table few = grind (arith, nat_tests, few)

listed_some : (table : ℕ) → 1 ≤ listed_table table → listed_table table ≡ table
listed_some table some = by (nat_le table 31) refl some
  where
    by : (b : Bool) → nat_le table 31 ≡ b → 1 ≤ cond b table 0 → cond b table 0 ≡ table
    by true e h = refl
    by false e h = absurd (omega arith)

-- nor is one whose listed table none names
none_listed : (known : KnownLayouts) (table : ℕ) (changes : List Change) → All (IsSuited known) changes → list_any (is_of (listed_table table)) changes ≡ false → NamesNone changes table
none_listed known table changes all none = by (list_any (is_of table) changes) refl
  where
    by : (b : Bool) → list_any (is_of table) changes ≡ b → list_any (is_of table) changes ≡ false
    by true e = ap (λ t. list_any (is_of t) changes) (sym (listed_small table (named_within known table changes all e))) ∙ none
    by false e = e

-- no page was looked at
pub found_none : (known : KnownLayouts) (changes : List Change) (tables : List ℕ) (count : ℕ) (machine : Meaning) (places : PlacesState) → IsBegun changes places → IsFound known changes 1 tables count machine places
found_none known changes tables count machine places is = record {
  asked = all_asked changes places is;
  begun = places;
  begins = is;
  walked = λ tells listed. walked_none known (machine.content Pages) changes places is;
}

module _ (known : KnownLayouts) (changes : List Change) (suited : All (IsSuited known) changes) (n count : ℕ) (some : 1 ≤ n) (within : n < count) (tables : List ℕ) where
  -- a page of a table that is named was looked at
  pub found_page : (old new : Meaning) (places next : PlacesState) → IsFound known changes n tables count old places → Looks old new → places.named (slice_index tables (n - 1)) ≡ true
      → (IsTrue new.tells → (layout : Layout) → layout_of known (slice_index tables (n - 1)) ≡ Some layout → IsLooked known (slice_index tables (n - 1)) n (bytes_at (old.content Pages) (4096 * n) 4096) places next)
      → ((change : Change) → IsAsked change places → IsAsked change next) → IsFound known changes (n + 1) tables count new next
  found_page old new places next is looks named looked kept = record {
    asked = λ k d inside. kept (slice_index_or changes k d) (is.asked k d inside);
    begun = is.begun;
    begins = is.begins;
    walked = λ tells listed.
        let area = old.content Pages in
        let table = slice_index tables (n - 1) in
        let same : new.content ≡ old.content = looks.content tells in
        let before : tables ≡ directory_of count area = listed ∙ ap (λ (d : Disk). directory_of count (d Pages)) same in
        let walked = is.walked (looks.leaves.told tells) before in
        let said : table ≡ listed_table (table_at area n) = ap (λ (ts : List ℕ). slice_index ts (n - 1)) before ∙ listed_is area count n some within in
        let asked : list_any (is_of table) changes ≡ true = sym (is.begins.named table) ∙ ap (λ (f : ℕ → Bool). f table) (sym walked.named) ∙ named in
        let found = named_layout known table changes suited asked in
        let of_table : table ≡ table_at area n = said ∙ listed_some (table_at area n) (subst (λ t. 1 ≤ t) said (layout_some known table found.0 found.1)) in
        let look : IsLooked known (table_at area n) n (bytes_at area (4096 * n) 4096) places next = subst (λ t. IsLooked known t n (bytes_at area (4096 * n) 4096) places next) of_table (looked tells found.0 found.1) in
        subst (λ (d : Disk). IsWalked known (d Pages) (n + 1) is.begun next) (sym same) (walked_page known area n is.begun places next some walked look);
  }

  -- and one of another was passed over
  pub found_past : (machine : Meaning) (places : PlacesState) → IsFound known changes n tables count machine places → places.named (slice_index tables (n - 1)) ≡ false → IsFound known changes (n + 1) tables count machine places
  found_past machine places is named = record {
    asked = is.asked;
    begun = is.begun;
    begins = is.begins;
    walked = λ tells listed.
        let area = machine.content Pages in
        let table = slice_index tables (n - 1) in
        let walked = is.walked tells listed in
        let said : table ≡ listed_table (table_at area n) = ap (λ (ts : List ℕ). slice_index ts (n - 1)) listed ∙ listed_is area count n some within in
        let none : list_any (is_of table) changes ≡ false = sym (is.begins.named table) ∙ ap (λ (f : ℕ → Bool). f table) (sym walked.named) ∙ named in
        walked_past known area n changes is.begun places some is.begins (none_listed known (table_at area n) changes suited (ap (λ t. list_any (is_of t) changes) (sym said) ∙ none)) walked;
  }

-- what holds where a call succeeds gives what follows from it
pub on_ok : {T E P Q : Type 0} → (r : Result T E) → OnOk r P → (P → Q) → OnOk r Q
on_ok (Ok x) p so = so p
on_ok (Err e) p so = tt
