-- A look through the pages from page 1 on, which passes over those of tables that no change names.
use Rattle.std.proofs.Common.{◌≡◌, ◌≢◌, ℕ, zero, suc, ◌+◌, ◌-◌, ◌*◌, ◌≤◌, ◌&&◌, ◌||◌, Bool, true, false, cond, nat_eq, List, [], ◌∷◌, ◌++◌, map, take, Option, None, Some, refl, sym, ap, ◌∙◌, arith}
use Rattle.std.specs.Prelude.{filter_map, count_by}
use Rattle.std.specs.List.{list_any, cons_option}
use Rattle.std.specs.Ordering.{eq_by_cmp}
use Rattle.std.specs.declared.cmp.Ordering.{Ordering}
use Rattle.std.specs.Cmp.{IsTotalOrder}
use Rattle.std.specs.FinMap as finite
use Rattle.std.proofs.lemmas.Bool.Decides.{nat_tests}
use Rattle.std.proofs.lemmas.Bool.{false≢true}
use Rattle.std.proofs.lemmas.List.{append-nil, map-append}
use Rattle.std.proofs.lemmas.List.Sums.{sum_by-cons}
use Rattle.mt_journal.specs.Layout.{Area}
use Rattle.mt_physplan.specs.declared.change.Change.{Change}
use Rattle.mt_physplan.specs.declared.change.Change.TheVariants.{Put, Mark, Remove, PutCat, RemoveCat}
use Rattle.mt_physplan.specs.declared.key.Key.{Key}
use Rattle.mt_physplan.proofs.Keys.{keys_exact, keys_total}
use Rattle.mt_tables.specs.Pages.{SlotSizes, bytes_at, page_places, places_below, table_at}
use Rattle.mt_tables.specs.Plan.{PlacedSlot, free_in, placed, placed_in, sought}
use Rattle.mt_tables.specs.Rows.{KnownLayouts, body_in, row_in, sizes_of}
use Rattle.mt_tables.proofs.Bodies.{bodies_exact, bodies_total}
use Rattle.mt_tables.proofs.OneSlot.{tied_are_one}
use Rattle.mt_tables.proofs.PageSlots.{placed_page}
use Rattle.mt_tables.proofs.Places.{pages_places}
use Rattle.mt_tables.proofs.Readings.{body_of_table, row_of_table}
use Rattle.mt_tables.proofs.Seeks.{free_elsewhere, free_in_then, placed_of_table, sought_elsewhere, sought_lacks, sought_then}
use Rattle.mt_tables.proofs.Sizes.{sizes_sound}
use Rattle.mt_places.specs.Named.{body_key, is_of, is_put, row_key, table_of}
use Rattle.mt_places.specs.Places.{IsBegun, IsLooked, PlacesState}
use Rattle.mt_chunkstore.specs.Walked.{IsWalked}

take-none : (n : ℕ) → ◌≡◌ {A = List ℕ} (take n []) []
take-none zero = refl
take-none (suc n) = refl

-- so many of what is there and of what comes behind so many of it
take-more : (n : ℕ) (xs ys : List ℕ) → take n (take n xs ++ ys) ≡ take n (xs ++ ys)
take-more zero xs ys = refl
take-more (suc n) [] ys = refl
take-more (suc n) (x ∷ xs) ys = ap (λ rest. x ∷ rest) (take-more n xs ys)

-- no page was looked at yet
pub walked_none : (known : KnownLayouts) (area : Area) (changes : List Change) (begun : PlacesState) → IsBegun changes begun → IsWalked known area 1 begun begun
walked_none known area changes begun is = record {
  rows = refl;
  bodies = refl;
  free = λ table. is.free table ∙ sym (take-none (begun.wanted table));
  wanted = refl;
  named = refl;
}

pages_last : (sizes : SlotSizes) (area : Area) (first n : ℕ) → pages_places sizes area first (suc n) ≡ pages_places sizes area first n ++ page_places sizes area (first + n)
pages_last sizes area first zero = let e : first + 0 ≡ first = omega arith in append_none (page_places sizes area first) ∙ ap (page_places sizes area) (sym e)
  where
    append_none : {A : Type 0} (xs : List A) → xs ++ [] ≡ xs
    append_none [] = refl
    append_none (x ∷ xs) = ap (λ (rest : List _). x ∷ rest) (append_none xs)
pages_last sizes area first (suc n) =
    let e : first + 1 + n ≡ first + suc n = omega arith in
    ap (λ rest. page_places sizes area first ++ rest) (pages_last sizes area (first + 1) n ∙ ap (λ k. pages_places sizes area (first + 1) n ++ page_places sizes area k) e)
    ∙ regroup (page_places sizes area first) (pages_places sizes area (first + 1) n) (page_places sizes area (first + suc n))
  where
    regroup : {A : Type 0} (xs ys zs : List A) → xs ++ (ys ++ zs) ≡ (xs ++ ys) ++ zs
    regroup [] ys zs = refl
    regroup (x ∷ xs) ys zs = ap (λ (rest : List _). x ∷ rest) (regroup xs ys zs)

-- the slots of one page more
pub placed_next : (known : KnownLayouts) (area : Area) (n : ℕ) → 1 ≤ n
    → placed (sizes_of known) area (places_below (sizes_of known) (n + 1) area)
    ≡ placed (sizes_of known) area (places_below (sizes_of known) n area) ++ placed_in (sizes_of known) (table_at area n) n (bytes_at area (4096 * n) 4096)
placed_next known area n some =
    let sizes = sizes_of known in
    let e : n + 1 - 1 ≡ suc (n - 1) = omega arith in
    let f : 1 + (n - 1) ≡ n = omega arith in
    ap (λ k. placed sizes area (pages_places sizes area 1 k)) e
    ∙ ap (placed sizes area) (pages_last sizes area 1 (n - 1))
    ∙ map-append (λ place. (place, _)) (pages_places sizes area 1 (n - 1)) (page_places sizes area (1 + (n - 1)))
    ∙ ap (λ k. placed sizes area (pages_places sizes area 1 (n - 1)) ++ placed sizes area (page_places sizes area k)) f
    ∙ ap (λ more. placed sizes area (pages_places sizes area 1 (n - 1)) ++ more) (placed_page sizes area n ((sizes_sound known).within (table_at area n)))

-- one page more was looked at
pub walked_page : (known : KnownLayouts) (area : Area) (n : ℕ) (begun places next : PlacesState) → 1 ≤ n → IsWalked known area n begun places
    → IsLooked known (table_at area n) n (bytes_at area (4096 * n) 4096) places next → IsWalked known area (n + 1) begun next
walked_page known area n begun places next some is look =
    let sizes = sizes_of known in
    let before = placed sizes area (places_below sizes n area) in
    let more = placed_in sizes (table_at area n) n (bytes_at area (4096 * n) 4096) in
    let grown = placed_next known area n some in
    record {
      rows = look.rows ∙ ap (sought (row_in known) more) is.rows ∙ sym (sought_then (row_in known) before more begun.rows) ∙ ap (λ slots. sought (row_in known) slots begun.rows) (sym grown);
      bodies = look.bodies ∙ ap (sought body_in more) is.bodies ∙ sym (sought_then body_in before more begun.bodies) ∙ ap (λ slots. sought body_in slots begun.bodies) (sym grown);
      free = λ t.
          look.free t
          ∙ ap (λ (wanted : ℕ → ℕ). take (wanted t) (places.free t ++ free_in t more)) is.wanted
          ∙ ap (λ free. take (begun.wanted t) (free ++ free_in t more)) (is.free t)
          ∙ take-more (begun.wanted t) (free_in t before) (free_in t more)
          ∙ ap (take (begun.wanted t)) (sym (free_in_then t before more) ∙ ap (free_in t) (sym grown));
      wanted = look.wanted ∙ is.wanted;
      named = look.named ∙ is.named;
    }

none_some : {A : Type 0} (x : A) → None ≡ Some x → ⊥
none_some x e = cc

some_none : (position : ℕ) → Some None ≡ Some (Some position) → ⊥
some_none position e = cc

-- no change names a table
abbrev pub NamesNone : List Change → ℕ → Type 0
NamesNone changes table = list_any (is_of table) changes ≡ false

either_false : (a b : Bool) → (a || b) ≡ false → (a ≡ false) × (b ≡ false)
either_false true b e = absurd (false≢true (sym e))
either_false false b e = (refl, e)

other_table : (change : Change) (table : ℕ) → is_of table change ≡ false → table_of change ≢ table
other_table change table other same = let h : nat_eq (table_of change) table ≡ true = grind (arith, nat_tests, same) in cc

-- no change puts a slot into a table that none names
no_puts : (changes : List Change) (table : ℕ) → NamesNone changes table → count_by (λ change. is_put change && is_of table change) changes ≡ 0
no_puts [] table none = refl
no_puts (change ∷ changes) table none =
    let parts = either_false (is_of table change) (list_any (is_of table) changes) none in
    let one = sum_by-cons (λ change. cond (is_put change && is_of table change) 1 0) change changes in
    let e : ◌≡◌ {A = ℕ} (cond (is_put change && is_of table change) 1 0) 0 = ap (λ b. cond b 1 0) (by (is_put change) (is_of table change) parts.0) in
    let h = no_puts changes table parts.1 in
    one ∙ omega (arith, h, e)
  where
    by : (a b : Bool) → b ≡ false → (a && b) ≡ false
    by true b e = e
    by false b e = refl

-- the table of a row that a change names is the change's
row_table : (change : Change) (key : Key) → row_key change ≡ Some key → key.table ≡ table_of change
row_table (Put table slot) key is = cc
row_table (Mark table tenant row mark) key is = cc
row_table (Remove table tenant base chunk row) key is = cc
row_table (PutCat table body) key is = cc
row_table (RemoveCat table body) key is = cc

body_table : (change : Change) (key : ℕ × List ℕ) → body_key change ≡ Some key → key.0 ≡ table_of change
body_table (Put table slot) key is = cc
body_table (Mark table tenant row mark) key is = cc
body_table (Remove table tenant base chunk row) key is = cc
body_table (PutCat table body) key is = cc
body_table (RemoveCat table body) key is = cc

module _ {K : Type 0} {R : K → K → Ordering} (o : IsTotalOrder R) (exact : finite.IsAntisymmetric R) (key_of : Change → Option K) where
  -- the keys that changes name, with no place
  abbrev asked : List Change → finite.FinMap R (Option ℕ)
  asked changes = finite.from_entries (map (λ key. (key, None)) (filter_map key_of changes))

  -- and one more, where there is one
  abbrev asked_with : Option K → List Change → finite.FinMap R (Option ℕ)
  asked_with named changes = finite.from_entries (map (λ key. (key, None)) (cons_option named (filter_map key_of changes)))

  -- a key of a table that no change names is not asked for
  not_asked : (key_table : K → ℕ) → ((change : Change) (key : K) → key_of change ≡ Some key → key_table key ≡ table_of change)
      → (changes : List Change) (table : ℕ) → NamesNone changes table → (key : K) → key_table key ≡ table → finite.get (asked changes) key ≡ None
  not_asked key_table of_table [] table none key is = finite.get-empty R key
  not_asked key_table of_table (change ∷ changes) table none key is =
      let parts = either_false (is_of table change) (list_any (is_of table) changes) none in
      by (key_of change) refl parts.0 (not_asked key_table of_table changes table parts.1 key is)
    where
      by : (named : Option K) → key_of change ≡ named → is_of table change ≡ false → finite.get (asked changes) key ≡ None
          → finite.get (asked_with named changes) key ≡ None
      by None named other rest = rest
      by (Some k) named other rest = inner (eq_by_cmp R key k) refl
        where
          inner : (t : Bool) → eq_by_cmp R key k ≡ t → finite.get (finite.insert (asked changes) k None) key ≡ None
          inner true tied =
              let same : key ≡ k = tied_are_one exact key k tied in
              absurd (other_table change table other (sym (of_table change k named) ∙ ap key_table (sym same) ∙ is))
          inner false tied = finite.get-insert o (asked changes) k None key ∙ ap (λ t. cond t (Some None) (finite.get (asked changes) key)) tied ∙ rest

  -- none has a place yet
  pub no_place : (changes : List Change) (key : K) (position : ℕ) → finite.get (asked changes) key ≡ Some (Some position) → ⊥
  no_place [] key position there = none_some (Some position) (sym (finite.get-empty R key) ∙ there)
  no_place (change ∷ changes) key position there = by (key_of change) there (no_place changes key position)
    where
      by : (named : Option K) → finite.get (asked_with named changes) key ≡ Some (Some position)
          → (finite.get (asked changes) key ≡ Some (Some position) → ⊥) → ⊥
      by None there rest = rest there
      by (Some k) there rest = inner (eq_by_cmp R key k) (sym (finite.get-insert o (asked changes) k None key) ∙ there)
        where
          inner : (t : Bool) → cond t (Some None) (finite.get (asked changes) key) ≡ Some (Some position) → ⊥
          inner true h = some_none position h
          inner false h = rest h

-- a page of a table that no change names is passed over
pub walked_past : (known : KnownLayouts) (area : Area) (n : ℕ) (changes : List Change) (begun places : PlacesState) → 1 ≤ n → IsBegun changes begun → NamesNone changes (table_at area n) → IsWalked known area n begun places → IsWalked known area (n + 1) begun places
walked_past known area n changes begun places some start none is =
    let sizes = sizes_of known in
    let table = table_at area n in
    let before = placed sizes area (places_below sizes n area) in
    let more = placed_in sizes table n (bytes_at area (4096 * n) 4096) in
    let grown = placed_next known area n some in
    record {
      rows = is.rows
          ∙ sym (sought_elsewhere (row_in known) (λ key. key.table) (row_of_table known) table more (sought (row_in known) before begun.rows) (placed_of_table sizes table n (bytes_at area (4096 * n) 4096))
          (λ key of. sought_lacks (row_in known) keys_total keys_exact before begun.rows key (ap (λ rows. finite.get rows key) start.rows ∙ not_asked keys_total keys_exact row_key (λ key. key.table) row_table changes table none key of)))
          ∙ sym (sought_then (row_in known) before more begun.rows) ∙ ap (λ slots. sought (row_in known) slots begun.rows) (sym grown);
      bodies = is.bodies
          ∙ sym (sought_elsewhere body_in (λ key. key.0) body_of_table table more (sought body_in before begun.bodies) (placed_of_table sizes table n (bytes_at area (4096 * n) 4096))
          (λ key of. sought_lacks body_in bodies_total bodies_exact before begun.bodies key (ap (λ bodies. finite.get bodies key) start.bodies ∙ not_asked bodies_total bodies_exact body_key (λ key. key.0) body_table changes table none key of)))
          ∙ sym (sought_then body_in before more begun.bodies) ∙ ap (λ slots. sought body_in slots begun.bodies) (sym grown);
      free = λ t. is.free t ∙ by t (nat_eq t table) refl ∙ ap (λ slots. take (begun.wanted t) (free_in t slots)) (sym grown);
      wanted = is.wanted;
      named = is.named;
    }
  where
    sizes : SlotSizes
    sizes = sizes_of known

    before : List PlacedSlot
    before = placed sizes area (places_below sizes n area)

    more : List PlacedSlot
    more = placed_in sizes (table_at area n) n (bytes_at area (4096 * n) 4096)

    by : (t : ℕ) (b : Bool) → nat_eq t (table_at area n) ≡ b → take (begun.wanted t) (free_in t before) ≡ take (begun.wanted t) (free_in t (before ++ more))
    by t true e =
        let same : t ≡ table_at area n = grind (arith, nat_tests, e) in
        let unwanted : begun.wanted t ≡ 0 = ap begun.wanted same ∙ start.wanted (table_at area n) ∙ no_puts changes (table_at area n) none in
        ap (λ w. take w (free_in t before)) unwanted ∙ sym (ap (λ w. take w (free_in t (before ++ more))) unwanted)
    by t false e =
        let apart : table_at area n ≢ t = λ same. (let h : nat_eq t (table_at area n) ≡ true = grind (arith, nat_tests, same) in cc) in
        ap (take (begun.wanted t)) (sym (append-nil (free_in t before)) ∙ ap (λ ys. free_in t before ++ ys) (sym (free_elsewhere sizes (table_at area n) t n (bytes_at area (4096 * n) 4096) apart)) ∙ sym (free_in_then t before more))
