-- Counts of scans in an array, by table.
use Rattle.std.proofs.Common.{◌≡◌, ℕ, zero, suc, nat_eq, nat_le, nat_lt, if◌then◌else◌, List, length, slice_set, slice_index, replicate, refl, arith}
use Rattle.std.proofs.lemmas.Bool.Decides.{nat_tests}
use Rattle.std.proofs.lemmas.List.{get_or-set_same, get_or-set_other}
use Rattle.mt_machine.specs.Faults.{one_more}
use Rattle.mt_physplan.specs.Phys.{no_scans, scanned_once}

-- the array after one scan of a table
abbrev pub counted_scan : ℕ → List ℕ → List ℕ
counted_scan table scans = if nat_lt table 32 then slice_set scans table (one_more (slice_index scans table)) else scans

counted_at : (table : ℕ) (scans : List ℕ) → length scans ≡ 32 → (t : ℕ) → slice_index (counted_scan table scans) t ≡ scanned_once table (slice_index scans) t
counted_at table scans size t =
    let same = get_or-set_same scans table (one_more (slice_index scans table)) 0 in
    let other = get_or-set_other scans table t (one_more (slice_index scans table)) 0 in
    grind (arith, nat_tests)

-- it counts for that table alone
pub counted_once : (table : ℕ) (scans : List ℕ) → length scans ≡ 32 → slice_index (counted_scan table scans) ≡ scanned_once table (slice_index scans)
counted_once table scans size = λ i t. counted_at table scans size t i

zero_at : (n t : ℕ) → slice_index (replicate n 0) t ≡ 0
zero_at zero t = refl
zero_at (suc n) zero = refl
zero_at (suc n) (suc t) = zero_at n t

-- an array of zeros counts nothing
pub none_counted : (n : ℕ) → slice_index (replicate n 0) ≡ no_scans
none_counted n = λ i t. zero_at n t i
