-- The kinds of changes of one slot: each keeps what stands.
use Rattle.std.proofs.Common.{◌≡◌, ℕ, ◌+◌, ◌<◌, ◌≤◌, ◌&&◌, Bool, true, false, not, cond, nat_eq, List, [], ◌∷◌, ◌++◌, length, Option, None, Some, refl, sym, ap, ◌∙◌, arith, subst}
use Rattle.std.proofs.lemmas.Bool.Decides.{nat_tests}
use Rattle.std.specs.FinMap as finite
use Rattle.mt_journal.specs.Layout.{Area, Range}
use Rattle.mt_journal.specs.Replay.{with_ranges}
use Rattle.mt_rowfile.specs.declared.layout.Layout.{Layout}
use Rattle.mt_rowfile.specs.declared.layout.Head.TheVariants.{Catalogue}
use Rattle.mt_rowfile.specs.Layouts.{IsOfRows}
use Rattle.mt_rowfile.specs.Pages.{is_free}
use Rattle.mt_physplan.specs.declared.change.Change.{Change}
use Rattle.mt_physplan.specs.declared.key.Cell.{Cell}
use Rattle.mt_physplan.specs.declared.key.Key.{Key}
use Rattle.mt_physplan.specs.Applied.{applied, applied_by, body_cmp, catalogue_applied, catalogue_applied_by}
use Rattle.mt_physplan.specs.Keys.{key_cmp}
use Rattle.mt_physplan.proofs.Keys.{keys_exact, keys_total}
use Rattle.mt_tables.specs.Commit.{with_value, with_values}
use Rattle.mt_tables.specs.Pages.{SlotPlace, bytes_at}
use Rattle.mt_tables.specs.Plan.{AreFree, IsPlan, Says, without_first}
use Rattle.mt_tables.specs.Rows.{IsReadableSlot, KnownLayouts, body_in, catalogue_of, is_of_catalogue, layout_of, row_in, rows_of, sizes_of}
use Rattle.mt_tables.specs.Tables.{overwritten, slot_at}
use Rattle.mt_tables.proofs.Bodies.{bodies_exact, bodies_total}
use Rattle.mt_tables.proofs.Plans.{plan_removed, plan_rewritten, plan_taken}
use Rattle.mt_tables.proofs.Readings.{body_elsewhere, row_catalogue}
use Rattle.mt_tables.proofs.Sizes.{sizes_sound}
use Rattle.mt_tables.proofs.Steps.{with_values-last}
use Rattle.mt_staging.specs.Group.{GroupState, PutsReadable}
use Rattle.mt_staging.specs.Steps.{one_freed, one_more_of, one_taken, with_body, with_free, with_row, with_write}
use Rattle.mt_staging.proofs.Lists.{once, same_number}
use Rattle.mt_staging.proofs.NewKeys.{newly}
use Rattle.mt_staging.proofs.Pairs.{other_taken, other_used, said_there}
use Rattle.mt_staging.proofs.Slots.{body_is_free, body_is_used, row_is_free, row_is_used, rows_elsewhere}
use Rattle.mt_staging.proofs.Standing.{IsOneMore, Stands, here_where, one_more_stands, uses}

-- a slot in use counts for its table, and a free one for none
uses_used : (t table : ℕ) (bytes : List ℕ) → is_free bytes ≡ false → uses t table bytes ≡ nat_eq table t
uses_used t table bytes used = ap (λ b. nat_eq table t && not b) used ∙ and_true (nat_eq table t)
  where
    and_true : (b : Bool) → (b && true) ≡ b
    and_true true = refl
    and_true false = refl

uses_free : (t table : ℕ) (bytes : List ℕ) → is_free bytes ≡ true → uses t table bytes ≡ false
uses_free t table bytes free = ap (λ b. nat_eq table t && not b) free ∙ and_false (nat_eq table t)
  where
    and_false : (b : Bool) → (b && false) ≡ false
    and_false true = refl
    and_false false = refl

pub one_more : (table : ℕ) (counts : ℕ → ℕ) (t : ℕ) → one_more_of table counts t ≡ counts t + once (nat_eq table t)
one_more table counts t = ap (λ b. cond b (counts t + 1) (counts t)) (same_number t table) ∙ by (nat_eq table t)
  where
    by : (b : Bool) → cond b (counts t + 1) (counts t) ≡ counts t + once b
    by true = refl
    by false = omega arith

module _ (known : KnownLayouts) (count total : ℕ) (area : Area) (changes : List Change) (change : Change) (group : GroupState) (s : Stands known count total area changes group) where
  abbrev before : Area
  before = with_ranges group.ranges area

  abbrev width : ℕ → ℕ
  width table = (sizes_of known).width table

  -- what the change does to the rows and to the catalogue, and how many keys are new by it
  abbrev Effects : (Key × Option Cell) → (ℕ → ℕ) → Type 0
  Effects e more =
      (applied_by change (applied changes (rows_of known area)) ≡ with_value e.0 e.1 (applied changes (rows_of known area)))
      × (catalogue_applied_by change (catalogue_applied changes (catalogue_of known area)) ≡ catalogue_applied changes (catalogue_of known area))
      × ((t : ℕ) → newly t change (applied changes (rows_of known area)) (catalogue_applied changes (catalogue_of known area)) ≡ more t)

  abbrev BodyEffects : ((ℕ × List ℕ) × Option (Unit {0})) → (ℕ → ℕ) → Type 0
  BodyEffects e more =
      (applied_by change (applied changes (rows_of known area)) ≡ applied changes (rows_of known area))
      × (catalogue_applied_by change (catalogue_applied changes (catalogue_of known area)) ≡ with_value e.0 e.1 (catalogue_applied changes (catalogue_of known area)))
      × ((t : ℕ) → newly t change (applied changes (rows_of known area)) (catalogue_applied changes (catalogue_of known area)) ≡ more t)

  rows_then : (e : Key × Option Cell) (more : ℕ → ℕ) → Effects e more → with_values (s.row_values ++ e ∷ []) (rows_of known area) ≡ applied_by change (applied changes (rows_of known area))
  rows_then e more effects = with_values-last s.row_values e (rows_of known area) ∙ ap (with_value e.0 e.1) s.row_changes ∙ sym effects.0

  bodies_then : (e : (ℕ × List ℕ) × Option (Unit {0})) (more : ℕ → ℕ) → BodyEffects e more → with_values (s.body_values ++ e ∷ []) (catalogue_of known area) ≡ catalogue_applied_by change (catalogue_applied changes (catalogue_of known area))
  bodies_then e more effects = with_values-last s.body_values e (catalogue_of known area) ∙ ap (with_value e.0 e.1) s.body_changes ∙ sym effects.1

  module _ (key : Key) (layout : Layout) (found : layout_of known key.table ≡ Some layout) (rows : IsOfRows layout.head) where
    none_of_bodies : (bytes : List ℕ) → body_in (key.table, bytes) ≡ None
    none_of_bodies bytes = body_elsewhere (key.table, bytes) (rows_elsewhere known key.table layout found rows)

    abbrev there : ℕ → SlotPlace
    there p = record { table = key.table; position = p }

    pub row_rewritten : (p : ℕ) (cell : Cell) (bytes : List ℕ) → finite.get group.places.rows key ≡ Some (Some p) → length bytes ≤ width key.table
        → row_in known (key.table, overwritten bytes (bytes_at before p (width key.table))) ≡ Some (key, cell) → Effects (key, Some cell) (λ t. 0)
        → (IsReadableSlot known (key.table, bytes_at before p (width key.table)) → PutsReadable change → IsReadableSlot known (key.table, overwritten bytes (bytes_at before p (width key.table))))
        → Stands known count total area (changes ++ change ∷ []) (with_write p bytes group)
    row_rewritten p cell bytes is short says effects reads =
        let held = s.rows.held key p is in
        let old_says = said_there (sizes_of known) (row_in known) total before (there p) (Some (key, held.0)) held.1 in
        one_more_stands known count total area changes change group (with_write p bytes group) (λ t. nat_eq key.table t) (λ t. nat_eq key.table t) s (record {
          place = there p;
          bytes = bytes;
          here = here_where known total before (row_in known) (there p) (Some (key, held.0)) held.1;
          short = short;
          ranges = refl;
          added = refl;
          row_values = s.row_values ++ (key, Some cell) ∷ [];
          row_changes = rows_then (key, Some cell) (λ t. 0) effects;
          rows = plan_rewritten keys_total keys_exact (sizes_of known) (sizes_sound known) (row_in known) (λ k. k.table) total area s.row_values group.ranges group.places.rows group.places.free key p cell bytes s.rows is short says;
          body_values = s.body_values;
          body_changes = s.body_changes ∙ sym effects.1;
          bodies = other_used bodies_total bodies_exact (sizes_of known) (sizes_sound known) body_in (λ k. k.0) total area (row_in known) s.body_values group.ranges group.places.bodies group.places.free (there p) (key, held.0) bytes
              s.bodies held.1 s.rows.are_free none_of_bodies short;
          was_used = λ t. uses_used t key.table (bytes_at before p (width key.table)) (row_is_used known (slot_at (sizes_of known) before (there p)) (key, held.0) old_says);
          is_used = λ t. uses_used t key.table (overwritten bytes (bytes_at before p (width key.table))) (row_is_used known (key.table, overwritten bytes (bytes_at before p (width key.table))) (key, cell) says);
          takes = λ t. let e = effects.2 t in omega (arith, e);
          reads = reads;
          balance = λ t. refl;
        })

    pub row_taken : (p : ℕ) (rest : List ℕ) (cell : Cell) (bytes : List ℕ) → group.places.free key.table ≡ p ∷ rest → finite.get group.places.rows key ≡ Some None → length bytes ≤ width key.table
        → row_in known (key.table, overwritten bytes (bytes_at before p (width key.table))) ≡ Some (key, cell) → Effects (key, Some cell) (λ t. once (nat_eq key.table t))
        → (IsReadableSlot known (key.table, bytes_at before p (width key.table)) → PutsReadable change → IsReadableSlot known (key.table, overwritten bytes (bytes_at before p (width key.table))))
        → Stands known count total area (changes ++ change ∷ []) (one_taken key.table (with_write p bytes (with_row key (Some p) (with_free (without_first key.table group.places.free) group))))
    row_taken p rest cell bytes first none short says effects reads =
        let all : AreFree (sizes_of known) (row_in known) total before key.table (p ∷ rest) = subst (AreFree (sizes_of known) (row_in known) total before key.table) first (s.rows.are_free key.table) in
        let old_says = said_there (sizes_of known) (row_in known) total before (there p) None all.0 in
        let new : GroupState = one_taken key.table (with_write p bytes (with_row key (Some p) (with_free (without_first key.table group.places.free) group))) in
        one_more_stands known count total area changes change group new (λ t. false) (λ t. nat_eq key.table t) s (record {
          place = there p;
          bytes = bytes;
          here = here_where known total before (row_in known) (there p) None all.0;
          short = short;
          ranges = refl;
          added = refl;
          row_values = s.row_values ++ (key, Some cell) ∷ [];
          row_changes = rows_then (key, Some cell) (λ t. once (nat_eq key.table t)) effects;
          rows = plan_taken keys_total keys_exact (sizes_of known) (sizes_sound known) (row_in known) (λ k. k.table) total area s.row_values group.ranges group.places.rows group.places.free p rest key cell bytes s.rows first none short says;
          body_values = s.body_values;
          body_changes = s.body_changes ∙ sym effects.1;
          bodies = other_taken bodies_total bodies_exact (sizes_of known) (sizes_sound known) body_in (λ k. k.0) total area s.body_values group.ranges group.places.bodies group.places.free key.table p rest bytes s.bodies first none_of_bodies short;
          was_used = λ t. uses_free t key.table (bytes_at before p (width key.table)) (row_is_free known key.table (bytes_at before p (width key.table)) layout found rows old_says);
          is_used = λ t. uses_used t key.table (overwritten bytes (bytes_at before p (width key.table))) (row_is_used known (key.table, overwritten bytes (bytes_at before p (width key.table))) (key, cell) says);
          takes = λ t. let e = effects.2 t in let m = one_more key.table group.taken t in omega (arith, e, m);
          reads = reads;
          balance = λ t. let m = one_more key.table group.taken t in omega (arith, m);
        })

    pub row_removed : (p : ℕ) (bytes : List ℕ) → finite.get group.places.rows key ≡ Some (Some p) → length bytes ≤ width key.table
        → is_free (overwritten bytes (bytes_at before p (width key.table))) ≡ true → row_in known (key.table, overwritten bytes (bytes_at before p (width key.table))) ≡ None → Effects (key, None) (λ t. 0)
        → (IsReadableSlot known (key.table, bytes_at before p (width key.table)) → PutsReadable change → IsReadableSlot known (key.table, overwritten bytes (bytes_at before p (width key.table))))
        → Stands known count total area (changes ++ change ∷ []) (one_freed key.table (with_row key None (with_write p bytes group)))
    row_removed p bytes is short free says effects reads =
        let held = s.rows.held key p is in
        let old_says = said_there (sizes_of known) (row_in known) total before (there p) (Some (key, held.0)) held.1 in
        let new : GroupState = one_freed key.table (with_row key None (with_write p bytes group)) in
        one_more_stands known count total area changes change group new (λ t. nat_eq key.table t) (λ t. false) s (record {
          place = there p;
          bytes = bytes;
          here = here_where known total before (row_in known) (there p) (Some (key, held.0)) held.1;
          short = short;
          ranges = refl;
          added = refl;
          row_values = s.row_values ++ (key, None) ∷ [];
          row_changes = rows_then (key, None) (λ t. 0) effects;
          rows = plan_removed keys_total keys_exact (sizes_of known) (sizes_sound known) (row_in known) (λ k. k.table) total area s.row_values group.ranges group.places.rows group.places.free key p bytes s.rows is short says;
          body_values = s.body_values;
          body_changes = s.body_changes ∙ sym effects.1;
          bodies = other_used bodies_total bodies_exact (sizes_of known) (sizes_sound known) body_in (λ k. k.0) total area (row_in known) s.body_values group.ranges group.places.bodies group.places.free (there p) (key, held.0) bytes
              s.bodies held.1 s.rows.are_free none_of_bodies short;
          was_used = λ t. uses_used t key.table (bytes_at before p (width key.table)) (row_is_used known (slot_at (sizes_of known) before (there p)) (key, held.0) old_says);
          is_used = λ t. uses_free t key.table (overwritten bytes (bytes_at before p (width key.table))) free;
          takes = λ t. let e = effects.2 t in omega (arith, e);
          reads = reads;
          balance = λ t. let m = one_more key.table group.freed t in omega (arith, m);
        })

  module _ (key : ℕ × List ℕ) (layout : Layout) (number : ℕ) (found : layout_of known key.0 ≡ Some layout) (head : layout.head ≡ Catalogue number) (kept : is_of_catalogue key.0 ≡ true) where
    none_of_rows : (bytes : List ℕ) → row_in known (key.0, bytes) ≡ None
    none_of_rows bytes = row_catalogue known (key.0, bytes) layout number found head

    abbrev place_at : ℕ → SlotPlace
    place_at p = record { table = key.0; position = p }

    pub body_rewritten : (p : ℕ) (bytes : List ℕ) → finite.get group.places.bodies key ≡ Some (Some p) → length bytes ≤ width key.0
        → body_in (key.0, overwritten bytes (bytes_at before p (width key.0))) ≡ Some (key, tt) → BodyEffects (key, Some tt) (λ t. 0)
        → (IsReadableSlot known (key.0, bytes_at before p (width key.0)) → PutsReadable change → IsReadableSlot known (key.0, overwritten bytes (bytes_at before p (width key.0))))
        → Stands known count total area (changes ++ change ∷ []) (with_write p bytes group)
    body_rewritten p bytes is short says effects reads =
        let held = s.bodies.held key p is in
        let old_says = said_there (sizes_of known) body_in total before (place_at p) (Some (key, held.0)) held.1 in
        one_more_stands known count total area changes change group (with_write p bytes group) (λ t. nat_eq key.0 t) (λ t. nat_eq key.0 t) s (record {
          place = place_at p;
          bytes = bytes;
          here = here_where known total before body_in (place_at p) (Some (key, held.0)) held.1;
          short = short;
          ranges = refl;
          added = refl;
          row_values = s.row_values;
          row_changes = s.row_changes ∙ sym effects.0;
          rows = other_used keys_total keys_exact (sizes_of known) (sizes_sound known) (row_in known) (λ k. k.table) total area body_in s.row_values group.ranges group.places.rows group.places.free (place_at p) (key, held.0) bytes
              s.rows held.1 s.bodies.are_free none_of_rows short;
          body_values = s.body_values ++ (key, Some tt) ∷ [];
          body_changes = bodies_then (key, Some tt) (λ t. 0) effects;
          bodies = plan_rewritten bodies_total bodies_exact (sizes_of known) (sizes_sound known) body_in (λ k. k.0) total area s.body_values group.ranges group.places.bodies group.places.free key p tt bytes s.bodies is short says;
          was_used = λ t. uses_used t key.0 (bytes_at before p (width key.0)) (body_is_used (slot_at (sizes_of known) before (place_at p)) (key, held.0) old_says);
          is_used = λ t. uses_used t key.0 (overwritten bytes (bytes_at before p (width key.0))) (body_is_used (key.0, overwritten bytes (bytes_at before p (width key.0))) (key, tt) says);
          takes = λ t. let e = effects.2 t in omega (arith, e);
          reads = reads;
          balance = λ t. refl;
        })

    pub body_taken : (p : ℕ) (rest : List ℕ) (bytes : List ℕ) → group.places.free key.0 ≡ p ∷ rest → finite.get group.places.bodies key ≡ Some None → length bytes ≤ width key.0
        → body_in (key.0, overwritten bytes (bytes_at before p (width key.0))) ≡ Some (key, tt) → BodyEffects (key, Some tt) (λ t. once (nat_eq key.0 t))
        → (IsReadableSlot known (key.0, bytes_at before p (width key.0)) → PutsReadable change → IsReadableSlot known (key.0, overwritten bytes (bytes_at before p (width key.0))))
        → Stands known count total area (changes ++ change ∷ []) (one_taken key.0 (with_write p bytes (with_body key (Some p) (with_free (without_first key.0 group.places.free) group))))
    body_taken p rest bytes first none short says effects reads =
        let all : AreFree (sizes_of known) body_in total before key.0 (p ∷ rest) = subst (AreFree (sizes_of known) body_in total before key.0) first (s.bodies.are_free key.0) in
        let old_says = said_there (sizes_of known) body_in total before (place_at p) None all.0 in
        let new : GroupState = one_taken key.0 (with_write p bytes (with_body key (Some p) (with_free (without_first key.0 group.places.free) group))) in
        one_more_stands known count total area changes change group new (λ t. false) (λ t. nat_eq key.0 t) s (record {
          place = place_at p;
          bytes = bytes;
          here = here_where known total before body_in (place_at p) None all.0;
          short = short;
          ranges = refl;
          added = refl;
          row_values = s.row_values;
          row_changes = s.row_changes ∙ sym effects.0;
          rows = other_taken keys_total keys_exact (sizes_of known) (sizes_sound known) (row_in known) (λ k. k.table) total area s.row_values group.ranges group.places.rows group.places.free key.0 p rest bytes s.rows first none_of_rows short;
          body_values = s.body_values ++ (key, Some tt) ∷ [];
          body_changes = bodies_then (key, Some tt) (λ t. once (nat_eq key.0 t)) effects;
          bodies = plan_taken bodies_total bodies_exact (sizes_of known) (sizes_sound known) body_in (λ k. k.0) total area s.body_values group.ranges group.places.bodies group.places.free p rest key tt bytes s.bodies first none short says;
          was_used = λ t. uses_free t key.0 (bytes_at before p (width key.0)) (body_is_free key.0 (bytes_at before p (width key.0)) kept old_says);
          is_used = λ t. uses_used t key.0 (overwritten bytes (bytes_at before p (width key.0))) (body_is_used (key.0, overwritten bytes (bytes_at before p (width key.0))) (key, tt) says);
          takes = λ t. let e = effects.2 t in let m = one_more key.0 group.taken t in omega (arith, e, m);
          reads = reads;
          balance = λ t. let m = one_more key.0 group.taken t in omega (arith, m);
        })

    pub body_removed : (p : ℕ) (bytes : List ℕ) → finite.get group.places.bodies key ≡ Some (Some p) → length bytes ≤ width key.0
        → is_free (overwritten bytes (bytes_at before p (width key.0))) ≡ true → body_in (key.0, overwritten bytes (bytes_at before p (width key.0))) ≡ None → BodyEffects (key, None) (λ t. 0)
        → (IsReadableSlot known (key.0, bytes_at before p (width key.0)) → PutsReadable change → IsReadableSlot known (key.0, overwritten bytes (bytes_at before p (width key.0))))
        → Stands known count total area (changes ++ change ∷ []) (one_freed key.0 (with_body key None (with_write p bytes group)))
    body_removed p bytes is short free says effects reads =
        let held = s.bodies.held key p is in
        let old_says = said_there (sizes_of known) body_in total before (place_at p) (Some (key, held.0)) held.1 in
        let new : GroupState = one_freed key.0 (with_body key None (with_write p bytes group)) in
        one_more_stands known count total area changes change group new (λ t. nat_eq key.0 t) (λ t. false) s (record {
          place = place_at p;
          bytes = bytes;
          here = here_where known total before body_in (place_at p) (Some (key, held.0)) held.1;
          short = short;
          ranges = refl;
          added = refl;
          row_values = s.row_values;
          row_changes = s.row_changes ∙ sym effects.0;
          rows = other_used keys_total keys_exact (sizes_of known) (sizes_sound known) (row_in known) (λ k. k.table) total area body_in s.row_values group.ranges group.places.rows group.places.free (place_at p) (key, held.0) bytes
              s.rows held.1 s.bodies.are_free none_of_rows short;
          body_values = s.body_values ++ (key, None) ∷ [];
          body_changes = bodies_then (key, None) (λ t. 0) effects;
          bodies = plan_removed bodies_total bodies_exact (sizes_of known) (sizes_sound known) body_in (λ k. k.0) total area s.body_values group.ranges group.places.bodies group.places.free key p bytes s.bodies is short says;
          was_used = λ t. uses_used t key.0 (bytes_at before p (width key.0)) (body_is_used (slot_at (sizes_of known) before (place_at p)) (key, held.0) old_says);
          is_used = λ t. uses_free t key.0 (overwritten bytes (bytes_at before p (width key.0))) free;
          takes = λ t. let e = effects.2 t in omega (arith, e);
          reads = reads;
          balance = λ t. let m = one_more key.0 group.freed t in omega (arith, m);
        })
