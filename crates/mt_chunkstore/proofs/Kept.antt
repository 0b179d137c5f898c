-- What a store's standing for a machine outlasts.
use Rattle.std.proofs.Common.{◌≡◌, ◌≢◌, ℕ, ◌≤◌, IsTrue, IfSome, Bool, true, false, cond, nat_eq, List, length, slice_index, slice_set, Option, Some, refl, sym, ap, subst, ◌∙◌, arith}
use Rattle.std.proofs.lemmas.Bool.Decides.{nat_tests}
use Rattle.std.proofs.lemmas.List.{get_or-set_same, get_or-set_other}
use Rattle.mt_machine.specs.declared.machine.Area.TheVariants.{Pages}
use Rattle.mt_machine.specs.Meaning.{Meaning}
use Rattle.mt_machine.specs.Leaves.{Looks}
use Rattle.mt_journal.specs.Commits.{StandsFor}
use Rattle.mt_rowfile.specs.declared.layout.Head.TheVariants.{Conventional}
use Rattle.mt_rowfile.specs.declared.layout.Layout.{Layout}
use Rattle.mt_rowfile.specs.Layouts.{IsLayout}
use Rattle.mt_tables.specs.Rows.{AreKnown, KnownLayouts, layout_of, sizes_of}
use Rattle.mt_pages.specs.Standing.{Counts}
use Rattle.mt_directory.specs.Known.{known_in, with_layout}
use Rattle.mt_chunkstore.specs.declared.store.Store.{Store}
use Rattle.mt_staging.specs.Group.{used_in}
use Rattle.mt_chunkstore.specs.Standing.{SameStore, Stands}
use Rattle.mt_chunkstore.specs.StandsLaws.{looks_keep, stands_still}
use Rattle.mt_chunkstore.proofs.InUse.{used_elsewhere}

-- a stretch that changes neither area, and counts scans, leaves the store standing
pub stands_looked : (store after : Store) (old new : Meaning) → SameStore store after → Stands store old → Looks old new → Stands after new
stands_looked store after old new same before looks =
    let stands = stands_still before (looks_keep looks) in
    record {
      journal = subst (λ tail. StandsFor tail new) (sym same.journal) stands.journal;
      pages = subst (λ count. Counts count new) (sym same.pages) stands.pages;
      sized = rw (same.directory, same.pages) stands.sized;
      known = rw same.layouts stands.known;
      directory = λ tells. rw (same.directory, same.pages) (stands.directory tells);
      used = λ tells table few. rw (same.used, same.layouts, same.pages) (stands.used tells table few);
    }

-- the layouts with one of a conventional table more
known_with : (known : KnownLayouts) (table : ℕ) (layout : Layout) → AreKnown known → layout.head ≡ Conventional → IsLayout layout → AreKnown (with_layout table layout known)
known_with known table layout all head sound t = by (nat_eq t table) where
  by : (b : Bool) → IfSome (cond b (Some layout) (known t)) (λ one. (one.head ≡ Conventional) × IsLayout one)
  by true = (head, sound)
  by false = all t

layout_with : (known : KnownLayouts) (table : ℕ) (layout : Layout) → 16 ≤ table → table ≤ 31 → layout_of (with_layout table layout known) table ≡ Some layout
layout_with known table layout from upto = grind (arith, nat_tests)

layout_beside : (known : KnownLayouts) (table : ℕ) (layout : Layout) (t : ℕ) → t ≢ table → layout_of (with_layout table layout known) t ≡ layout_of known t
layout_beside known table layout t other =
    let is : nat_eq t table ≡ false = grind (arith, nat_tests, other) in
    grind (arith, is)

-- a layout was made known, and the slots in use of its table were counted by it
pub stands_with : (store : Store) (old new : Meaning) (table : ℕ) (layout : Layout) (layouts : List (Option Layout)) (counted : ℕ) → Stands store old → Looks old new → length store.used ≡ 32
    → 16 ≤ table → table ≤ 31 → layout.head ≡ Conventional → IsLayout layout → known_in layouts ≡ with_layout table layout (known_in store.layouts)
    → (IsTrue new.tells → (known : KnownLayouts) → layout_of known table ≡ Some layout → counted ≡ used_in (sizes_of known) table store.pages (new.content Pages))
    → Stands (record { journal = store.journal; pages = store.pages; layouts = layouts; directory = store.directory; used = slice_set store.used table counted; scans = store.scans }) new
stands_with store old new table layout layouts counted before looks size from upto head sound is counts =
    let stands = stands_still before (looks_keep looks) in
    let known = known_in store.layouts in
    record {
      journal = stands.journal;
      pages = stands.pages;
      sized = stands.sized;
      known = subst AreKnown (sym is) (known_with known table layout stands.known head sound);
      directory = stands.directory;
      used = λ tells t few. subst (λ (ls : KnownLayouts). slice_index (slice_set store.used table counted) t ≡ used_in (sizes_of ls) t store.pages (new.content Pages)) (sym is)
          (by t (nat_eq t table) refl (stands.used tells t few) (counts tells));
    }
  where
    by : (t : ℕ) (b : Bool) → nat_eq t table ≡ b → slice_index store.used t ≡ used_in (sizes_of (known_in store.layouts)) t store.pages (new.content Pages)
        → ((known : KnownLayouts) → layout_of known table ≡ Some layout → counted ≡ used_in (sizes_of known) table store.pages (new.content Pages))
        → slice_index (slice_set store.used table counted) t ≡ used_in (sizes_of (with_layout table layout (known_in store.layouts))) t store.pages (new.content Pages)
    by t true is was counts =
        let same : t ≡ table = grind (arith, nat_tests, is) in
        let known = with_layout table layout (known_in store.layouts) in
        ap (slice_index (slice_set store.used table counted)) same ∙ get_or-set_same store.used table counted 0 (omega (arith, size, upto))
        ∙ counts known (layout_with (known_in store.layouts) table layout from upto) ∙ ap (λ k. used_in (sizes_of known) k store.pages (new.content Pages)) (sym same)
    by t false is was counts =
        let other : t ≢ table = grind (arith, nat_tests, is) in
        get_or-set_other store.used table t counted 0 (grind (arith, other)) ∙ was
        ∙ sym (used_elsewhere (known_in store.layouts) (with_layout table layout (known_in store.layouts)) t store.pages (new.content Pages) (layout_beside (known_in store.layouts) table layout t other))
