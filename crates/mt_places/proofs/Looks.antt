-- What a look at a page of a table finds.
use Rattle.std.proofs.Common.{◌≡◌, ℕ, ◌≤◌, Bool, true, false, cond, nat_eq, List, [], ◌∷◌, ◌++◌, take, drop, Some, refl, sym, ap, ◌∙◌}
use Rattle.std.specs.Cmp.{nat_eq_equiv}
use Rattle.std.proofs.lemmas.Bool.{eqb-true}
use Rattle.mt_rowfile.specs.declared.layout.Layout.{Layout}
use Rattle.mt_rowfile.specs.Layouts.{slot_width, slots_per_page}
use Rattle.mt_tables.specs.Plan.{free_in, sought}
use Rattle.mt_tables.specs.Rows.{KnownLayouts, body_in, layout_of, row_in, row_with}
use Rattle.mt_places.specs.Held.{Held, TableState, offered, state_of, table_in, trimmed, with_table}
use Rattle.mt_places.specs.Places.{IsLooked}
use Rattle.mt_places.specs.Walked.{free_by, slots_by}
use Rattle.mt_places.proofs.Listed.{take-first}
use Rattle.mt_places.proofs.Pages.{free-other, placed-known, sought-alike, table-within}

behind_all : (xs : List ℕ) → xs ++ [] ≡ xs
behind_all [] = refl
behind_all (x ∷ xs) = ap (λ ys. x ∷ ys) (behind_all xs)

-- the free positions of a table, which is that of the page or another
free_at : (layout : Layout) (table page : ℕ) (bytes : List ℕ) (state : TableState) (t : ℕ) (b : Bool) → nat_eq t table ≡ b
    → (cond b (offered (free_by layout table page bytes) (trimmed state)) (trimmed state)).free ≡ take state.wanted (state.free ++ free_in t (slots_by layout table page bytes))
free_at layout table page bytes state t true e =
    let same : t ≡ table = eqb-true t table e in
    take-first state.wanted state.free (free_by layout table page bytes) ∙ ap (λ k. take state.wanted (state.free ++ free_in k (slots_by layout table page bytes))) (sym same)
free_at layout table page bytes state t false e =
    let none = free-other t (slot_width layout) table page 0 (slots_per_page layout) (drop 8 bytes) (nat_eq_equiv.symm table t ∙ e) in
    ap (take state.wanted) (sym (behind_all state.free) ∙ ap (λ positions. state.free ++ positions) (sym none))

wanted_at : (positions : List ℕ) (state : TableState) (b : Bool) → (cond b (offered positions (trimmed state)) (trimmed state)).wanted ≡ state.wanted
wanted_at positions state true = refl
wanted_at positions state false = refl

named_at : (positions : List ℕ) (state : TableState) (b : Bool) → (cond b (offered positions (trimmed state)) (trimmed state)).named ≡ state.named
named_at positions state true = refl
named_at positions state false = refl

pub looked : (known : KnownLayouts) (table page : ℕ) (bytes : List ℕ) (layout : Layout) (old new : Held) → layout_of known table ≡ Some layout
    → new.rows ≡ sought (row_with (Some layout)) (slots_by layout table page bytes) old.rows
    → new.bodies ≡ sought body_in (slots_by layout table page bytes) old.bodies
    → (table ≤ 31 → (t : ℕ) → table_in new.tables t ≡ with_table table (offered (free_by layout table page bytes)) (λ t. trimmed (table_in old.tables t)) t)
    → IsLooked known table page bytes (state_of old) (state_of new)
looked known table page bytes layout old new is rows_are bodies_are tables_are =
    let placed = placed-known known table page bytes layout is in
    let tables = tables_are (table-within known table layout is) in
    record {
      rows = rows_are
          ∙ sought-alike (row_with (Some layout)) (row_in known) (slot_width layout) table page 0 (slots_per_page layout) (drop 8 bytes) old.rows (λ slot. ap (λ found. row_with found (table, slot)) (sym is))
          ∙ ap (λ slots. sought (row_in known) slots old.rows) (sym placed);
      bodies = bodies_are ∙ ap (λ slots. sought body_in slots old.bodies) (sym placed);
      free = λ t.
          ap (λ (state : TableState). state.free) (tables t)
          ∙ free_at layout table page bytes (table_in old.tables t) t (nat_eq t table) refl
          ∙ ap (λ slots. take (table_in old.tables t).wanted ((table_in old.tables t).free ++ free_in t slots)) (sym placed);
      wanted = λ i t. (ap (λ (state : TableState). state.wanted) (tables t) ∙ wanted_at (free_by layout table page bytes) (table_in old.tables t) (nat_eq t table)) i;
      named = λ i t. (ap (λ (state : TableState). state.named) (tables t) ∙ named_at (free_by layout table page bytes) (table_in old.tables t) (nat_eq t table)) i;
    }
