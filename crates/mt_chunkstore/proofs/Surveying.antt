-- What is known of the pages that were read so far.
use Rattle.std.proofs.Common.{◌≡◌, ◌≢◌, ℕ, ◌+◌, ◌-◌, ◌*◌, ◌<◌, ◌≤◌, Bool, true, false, cond, nat_eq, IsTrue, Some, List, [], ◌∷◌, ◌++◌, length, replicate, slice_index, sym, ap, ◌∙◌, arith, length-append}
use Rattle.std.proofs.lemmas.Bool.Decides.{nat_tests}
use Rattle.byteorder.specs.Endian.{little_number}
use Rattle.mt_machine.specs.declared.machine.Area.TheVariants.{Pages}
use Rattle.mt_machine.specs.Meaning.{Disk, Meaning}
use Rattle.mt_machine.specs.Leaves.{Looks}
use Rattle.mt_journal.specs.Layout.{Area}
use Rattle.mt_rowfile.specs.declared.layout.Layout.{Layout}
use Rattle.mt_physplan.proofs.Counted.{none_counted}
use Rattle.mt_tables.specs.Pages.{bytes_at, table_at}
use Rattle.mt_tables.specs.Rows.{KnownLayouts, layout_of, sizes_of}
use Rattle.mt_directory.specs.Directory.{directory_of, listed_table}
use Rattle.mt_chunkstore.specs.Found.{Surveyed, used_by, used_on}
use Rattle.mt_staging.specs.Group.{used_in}
use Rattle.mt_chunkstore.proofs.InUse.{directory_at, directory_more, few_on, page_table, used_more}

-- no page was read
pub surveyed_none : (known : KnownLayouts) (tables used : List ℕ) (machine : Meaning) → tables ≡ [] → used ≡ replicate 32 0 → Surveyed known 1 tables used machine
surveyed_none known tables used machine none zeros =
    let zero_at : (table : ℕ) → slice_index used table ≡ 0 = λ table. ap (λ us. slice_index us table) zeros ∙ ap (λ (f : ℕ → ℕ). f table) (none_counted 32) in
    record {
      sized = ap length none;
      listed = λ tells. none;
      counted = λ tells table. zero_at table;
      few = λ table. (let z = zero_at table in omega arith);
    }

-- what was found stands while the machine is looked at
pub surveyed_after : {known : KnownLayouts} {count : ℕ} {tables used : List ℕ} {old new : Meaning} → Surveyed known count tables used old → Looks old new → Surveyed known count tables used new
surveyed_after {known} {count} {tables} {used} {old} {new} found looks = record {
  sized = found.sized;
  listed = λ tells. found.listed (looks.leaves.told tells) ∙ ap (λ (d : Disk). directory_of count (d Pages)) (sym (looks.content tells));
  counted = λ tells table. found.counted (looks.leaves.told tells) table ∙ ap (λ (d : Disk). used_in (sizes_of known) table count (d Pages)) (sym (looks.content tells));
  few = found.few;
}

-- one page more
pub surveyed_more : (known : KnownLayouts) (count : ℕ) (tables used more_tables more_used page : List ℕ) (old new : Meaning) → 1 ≤ count → Surveyed known count tables used old → Looks old new
    → (IsTrue new.tells → page ≡ bytes_at (old.content Pages) (4096 * count) 4096) → more_tables ≡ tables ++ listed_table (little_number 4 page) ∷ []
    → ((table : ℕ) → slice_index more_used table ≡ slice_index used table + used_on known table page) → Surveyed known (count + 1) more_tables more_used new
surveyed_more known count tables used more_tables more_used page old new some before looks read listed counted =
    let found = surveyed_after before looks in
    let bytes : IsTrue new.tells → page ≡ bytes_at (new.content Pages) (4096 * count) 4096 = λ tells. read tells ∙ ap (λ (d : Disk). bytes_at (d Pages) (4096 * count) 4096) (sym (looks.content tells)) in
    record {
      sized = ap length listed ∙ length-append tables (listed_table (little_number 4 page) ∷ []) ∙ (let size = before.sized in omega arith);
      listed = λ tells. listed ∙ ap (λ ts. ts ++ listed_table (little_number 4 page) ∷ []) (found.listed tells)
          ∙ ap (λ t. directory_of count (new.content Pages) ++ listed_table t ∷ []) (ap (little_number 4) (bytes tells) ∙ page_table (new.content Pages) (4096 * count))
          ∙ sym (directory_more count (new.content Pages) some);
      counted = λ tells table. counted table ∙ ap (λ k. k + used_on known table page) (found.counted tells table)
          ∙ ap (λ bs. used_in (sizes_of known) table count (new.content Pages) + used_on known table bs) (bytes tells)
          ∙ sym (used_more known table (new.content Pages) count some);
      few = λ table. (let one = counted table in let was = before.few table in let on = few_on known table page in omega arith);
    }

-- whether a page is of a table, as the directory has it
listed_as : (x table : ℕ) → table ≤ 31 → 1 ≤ table → (listed_table x ≡ table → x ≡ table) × (x ≡ table → listed_table x ≡ table)
listed_as x table upto from = (λ e. grind (arith, nat_tests, e), λ e. grind (arith, nat_tests, e))

module _ (known : KnownLayouts) (table n count : ℕ) (layout : Layout) (from : 1 ≤ table) (upto : table ≤ 31) (some : 1 ≤ n) (within : n < count) (is : layout_of known table ≡ Some layout) where
  on_page : (area : Area) (b : Bool) → nat_eq (table_at area n) table ≡ b → used_on known table (bytes_at area (4096 * n) 4096) ≡ cond b (used_by (layout_of known table) (bytes_at area (4096 * n) 4096)) 0
  on_page area b e = ap (λ c. cond c (used_by (layout_of known table) (bytes_at area (4096 * n) 4096)) 0) (ap (λ x. nat_eq x table) (page_table area (4096 * n)) ∙ e)

  -- a page of the table was counted
  pub counted_here : (used slots : ℕ) (tables page : List ℕ) (first old new : Meaning) → Looks first old → Looks old new → (IsTrue first.tells → tables ≡ directory_of count (first.content Pages)) → slice_index tables (n - 1) ≡ table
      → (IsTrue old.tells → used ≡ used_in (sizes_of known) table n (old.content Pages)) → (IsTrue new.tells → page ≡ bytes_at (old.content Pages) (4096 * n) 4096) → slots ≡ used_by (Some layout) page
      → IsTrue new.tells → used + slots ≡ used_in (sizes_of known) table (n + 1) (new.content Pages)
  counted_here used slots tables page first old new one two listed same before read counted tells =
      let told = two.leaves.told tells in
      let area = old.content Pages in
      let bytes = bytes_at area (4096 * n) 4096 in
      let tables_are : tables ≡ directory_of count area = listed (one.leaves.told told) ∙ ap (λ (d : Disk). directory_of count (d Pages)) (sym (one.content told)) in
      let found : listed_table (table_at area n) ≡ table = sym (directory_at count n area some within) ∙ ap (λ ts. slice_index ts (n - 1)) (sym tables_are) ∙ same in
      let is_of : table_at area n ≡ table = (listed_as (table_at area n) table upto from).0 found in
      let test : nat_eq (table_at area n) table ≡ true = grind (arith, nat_tests, is_of) in
      let more : slots ≡ used_on known table bytes = counted ∙ ap (λ bs. used_by (Some layout) bs) (read tells) ∙ ap (λ found. used_by found bytes) (sym is) ∙ sym (on_page area true test) in
      ap (λ k. k + slots) (before told) ∙ ap (λ k. used_in (sizes_of known) table n area + k) more
      ∙ sym (used_more known table area n some) ∙ ap (λ (d : Disk). used_in (sizes_of known) table (n + 1) (d Pages)) (sym (two.content tells))

  -- a page of another table has no slot of it
  pub counted_elsewhere : (used : ℕ) (tables : List ℕ) (first old : Meaning) → Looks first old → (IsTrue first.tells → tables ≡ directory_of count (first.content Pages)) → slice_index tables (n - 1) ≢ table
      → (IsTrue old.tells → used ≡ used_in (sizes_of known) table n (old.content Pages)) → IsTrue old.tells → used ≡ used_in (sizes_of known) table (n + 1) (old.content Pages)
  counted_elsewhere used tables first old one listed other before tells =
      let area = old.content Pages in
      let bytes = bytes_at area (4096 * n) 4096 in
      let tables_are : tables ≡ directory_of count area = listed (one.leaves.told tells) ∙ ap (λ (d : Disk). directory_of count (d Pages)) (sym (one.content tells)) in
      let found : slice_index tables (n - 1) ≡ listed_table (table_at area n) = ap (λ ts. slice_index ts (n - 1)) tables_are ∙ directory_at count n area some within in
      let is_not : table_at area n ≢ table = λ e. other (found ∙ (listed_as (table_at area n) table upto from).1 e) in
      let test : nat_eq (table_at area n) table ≡ false = grind (arith, nat_tests, is_not) in
      let none : used_on known table bytes ≡ 0 = on_page area false test in
      let was = before tells in
      let more = used_more known table area n some in
      omega (arith, was, more, none)
