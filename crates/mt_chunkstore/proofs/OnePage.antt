-- One page more of a scan's walk.
use Rattle.std.proofs.Common.{◌≡◌, ℕ, zero, suc, ◌+◌, ◌-◌, ◌*◌, ◌<◌, ◌≤◌, true, false, nat_eq, List, map, drop, slice_index, Some, refl, sym, ap, ◌∙◌, subst, All, arith}
use Rattle.std.proofs.lemmas.Bool.Decides.{nat_tests}
use Rattle.std.proofs.lemmas.List.FromFn.{get_or-map-range_with_len}
use Rattle.mt_machine.specs.Meaning.{Rose}
use Rattle.mt_journal.specs.Layout.{Area}
use Rattle.mt_rowfile.specs.declared.layout.Layout.{Layout}
use Rattle.mt_rowfile.specs.Pages.{slots_in, slots_of_page}
use Rattle.mt_physplan.specs.declared.key.Key.{Key}
use Rattle.mt_physplan.specs.declared.scan.Scan.{Scan}
use Rattle.mt_physplan.specs.Content.{Content, in_scan}
use Rattle.mt_tables.specs.Pages.{bytes_at, table_at}
use Rattle.mt_tables.specs.Rows.{KnownLayouts, layout_of, row_in, sizes_of, slot_count_by, width_by}
use Rattle.mt_tables.specs.Tables.{TableSlot, slot_at}
use Rattle.mt_tables.proofs.PageSlots.{page_slots, pages_slots, slots_of_table, walk_elsewhere, walk_then}
use Rattle.mt_tables.proofs.Places.{pages_places}
use Rattle.mt_tables.proofs.Readings.{row_of_table}
use Rattle.mt_tables.proofs.Sizes.{sizes_sound}
use Rattle.mt_directory.specs.Directory.{directory_of, listed_table}
use Rattle.mt_chunkstore.specs.Asking.{slots_on, with_asked}

-- the slots of so many pages from one on
abbrev pub slots_from : KnownLayouts → Area → ℕ → ℕ → List TableSlot
slots_from known area first n = map (slot_at (sizes_of known) area) (pages_places (sizes_of known) area first n)

-- the slots of a page with a known layout are the parts of its bytes
pub slots_by_layout : (known : KnownLayouts) (area : Area) (table n : ℕ) (layout : Layout) → table_at area n ≡ table → layout_of known table ≡ Some layout
    → slots_on known area n ≡ map (λ bytes. (table, bytes)) (slots_of_page layout (bytes_at area (4096 * n) 4096))
slots_by_layout known area table n layout of_table is =
    let sizes = sizes_of known in
    let body = drop 8 (bytes_at area (4096 * n) 4096) in
    page_slots sizes area n ((sizes_sound known).within (table_at area n))
    ∙ ap (λ t. map (λ bytes. (t, bytes)) (slots_in (width_by (layout_of known t)) (slot_count_by (layout_of known t)) body)) of_table
    ∙ ap (λ f. map (λ bytes. (table, bytes)) (slots_in (width_by f) (slot_count_by f) body)) is

-- the directory has the table of each page, up to 31
pub listed_is : (area : Area) (count n : ℕ) → 1 ≤ n → n < count → slice_index (directory_of count area) (n - 1) ≡ listed_table (table_at area n)
listed_is area count n some within = get_or-map-range_with_len (λ page. listed_table (table_at area page)) 1 (count - 1) (n - 1) n 0 (omega arith) (omega arith)

-- a page that is listed for the table is of it
of_listed : (t table : ℕ) → 1 ≤ table → listed_table t ≡ table → t ≡ table
of_listed t table some is = grind (arith, nat_tests, some, is)

not_listed : (t table : ℕ) → table ≤ 31 → nat_eq (listed_table t) table ≡ false → nat_eq t table ≡ false
not_listed t table few other = grind (arith, nat_tests, few, other)

pub of_its_table : (area : Area) (tables : List ℕ) (count n table : ℕ) → tables ≡ directory_of count area → 1 ≤ n → n < count → 1 ≤ table → nat_eq (slice_index tables (n - 1)) table ≡ true → table_at area n ≡ table
of_its_table area tables count n table are some within positive listed =
    let said : slice_index tables (n - 1) ≡ listed_table (table_at area n) = ap (λ (ts : List ℕ). slice_index ts (n - 1)) are ∙ listed_is area count n some within in
    let same : slice_index tables (n - 1) ≡ table = grind (arith, nat_tests, listed) in
    of_listed (table_at area n) table positive (sym said ∙ same)

pub of_another : (area : Area) (tables : List ℕ) (count n table : ℕ) → tables ≡ directory_of count area → 1 ≤ n → n < count → table ≤ 31 → nat_eq (slice_index tables (n - 1)) table ≡ false → nat_eq (table_at area n) table ≡ false
of_another area tables count n table are some within few other =
    let said : slice_index tables (n - 1) ≡ listed_table (table_at area n) = ap (λ (ts : List ℕ). slice_index ts (n - 1)) are ∙ listed_is area count n some within in
    not_listed (table_at area n) table few (ap (λ t. nat_eq t table) (sym said) ∙ other)

-- a table with a layout of rows is not 0
pub layout_some : (known : KnownLayouts) (table : ℕ) (layout : Layout) → layout_of known table ≡ Some layout → 1 ≤ table
layout_some known zero layout is = absurd (cc)
layout_some known (suc table) layout is = omega arith

-- what a page of another table holds is not asked for
pub elsewhere : (scan : Scan) (known : KnownLayouts) (area : Area) (n : ℕ) (found : Content) → nat_eq (table_at area n) scan.table ≡ false → with_asked scan known (slots_on known area n) found ≡ found
elsewhere scan known area n found other =
    let table = table_at area n in
    let sizes = sizes_of known in
    let parts = slots_in (sizes.width table) (sizes.count table) (drop 8 (bytes_at area (4096 * n) 4096)) in
    let is = page_slots sizes area n ((sizes_sound known).within table) in
    walk_elsewhere (row_in known) (λ key. key.table) (in_scan scan) table (row_of_table known) (λ key same. not_asked scan key (ap (λ t. nat_eq t scan.table) same ∙ other))
    (slots_on known area n) (subst (All (λ (slot : TableSlot). slot.0 ≡ table)) (sym is) (slots_of_table table parts)) found
  where
    not_asked : (scan : Scan) (key : Key) → nat_eq key.table scan.table ≡ false → in_scan scan key ≡ false
    not_asked scan key other = rw other refl

-- once a page was looked at
pub page_passed : (scan : Scan) (known : KnownLayouts) (area here : Area) (n left more : ℕ) (found new all : Content) → here ≡ area → left ≡ suc more → with_asked scan known (slots_from known area n left) found ≡ all
    → new ≡ with_asked scan known (slots_on known here n) found → with_asked scan known (slots_from known area (n + 1) more) new ≡ all
page_passed scan known area here n left more found new all same is before adds =
    ap (with_asked scan known (slots_from known area (n + 1) more)) (adds ∙ ap (λ (a : Area). with_asked scan known (slots_on known a n) found) same)
    ∙ sym (walk_then (row_in known) (in_scan scan) (slots_on known area n) (slots_from known area (n + 1) more) found)
    ∙ ap (λ slots. with_asked scan known slots found) (sym (pages_slots (sizes_of known) area n more))
    ∙ ap (λ k. with_asked scan known (slots_from known area n k) found) (sym is) ∙ before

-- a fault that was counted later was counted since earlier
pub rose_since : (first second third : ℕ) → first ≤ second → Rose second third → Rose first third
rose_since first second third up rose = omega (arith, up, rose)
