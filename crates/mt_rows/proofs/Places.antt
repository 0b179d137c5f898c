-- The keys of places: which tests they pass, and that keys that compare alike are one.
use Rattle.std.proofs.Common.{◌≡◌, ℕ, ◌<◌, ◌≤◌, ◌==◌, nat_le, nat_lt, true, refl, sym, ap, ◌∙◌, eqb-true, eq-eqb, leb-true, le-leb, ltb-true, lt-ltb}
use Rattle.std.proofs.lemmas.Bool.{and_from, and_parts}
use Rattle.std.specs.declared.cmp.Ordering.{Ordering}
use Rattle.std.specs.declared.cmp.Ordering.TheVariants.{Less, Equal, Greater}
use Rattle.std.specs.Ordering.{eq_by_cmp, is_eq}
use Rattle.std.specs.Cmp.{both_ways, tied_itself}
use Rattle.mt_physplan.specs.declared.key.Key.{Key}
use Rattle.mt_physplan.specs.Content.{in_scan}
use Rattle.mt_physplan.specs.Keys.{key_cmp}
use Rattle.mt_physplan.proofs.Keys.{keys_exact, keys_total}
use Rattle.mt_rows.specs.Changes.{is_at}
use Rattle.mt_rows.specs.Series.{Series, in_series, key_at, scan_of}

-- a key of a series is that of its Row
pub key_in_series : (series : Series) (key : Key) → in_series series key ≡ true → key ≡ key_at series key.row
key_in_series series key passes =
    let chunk = and_parts _ _ passes in
    let base = and_parts _ _ chunk.0 in
    let first = and_parts _ _ base.0 in
    λ i. record { table = eqb-true key.table series.table first.0 i; tenant = eqb-true key.tenant series.tenant first.1 i; base = eqb-true key.base series.base base.1 i; chunk = eqb-true key.chunk series.chunk chunk.1 i; row = key.row }

pub row_in_series : (series : Series) (row : ℕ) → in_series series (key_at series row) ≡ true
row_in_series series row = rw (eq-eqb series.table series.table refl, eq-eqb series.tenant series.tenant refl, eq-eqb series.base series.base refl, eq-eqb series.chunk series.chunk refl) refl

-- only the key of a place is at it
pub key_at_place : (series : Series) (row : ℕ) (key : Key) → is_at series row key ≡ true → key ≡ key_at series row
key_at_place series row key passes =
    let parts = and_parts (in_series series key) (key.row == row) passes in
    key_in_series series key parts.0 ∙ ap (key_at series) (eqb-true key.row row parts.1)

pub place_at_itself : (series : Series) (row : ℕ) → is_at series row (key_at series row) ≡ true
place_at_itself series row = and_from _ _ (row_in_series series row) (eq-eqb row row refl)

-- a scan asks for the keys of its Rows alone
pub key_in_scan : (series : Series) (from upto : ℕ) (key : Key) → in_scan (scan_of series from upto) key ≡ true → (key ≡ key_at series key.row) × (from ≤ key.row) × (key.row < upto)
key_in_scan series from upto key passes =
    let high = and_parts _ (nat_lt key.row upto) passes in
    let low = and_parts (in_series series key) (nat_le from key.row) high.0 in
    (key_in_series series key low.0, leb-true from key.row low.1, ltb-true key.row upto high.1)

pub row_in_scan : (series : Series) (from upto row : ℕ) → from ≤ row → row < upto → in_scan (scan_of series from upto) (key_at series row) ≡ true
row_in_scan series from upto row low high = and_from _ _ (and_from _ _ (row_in_series series row) (le-leb from row low)) (lt-ltb row upto high)

-- keys that compare alike
pub tied_are_one : (key other : Key) → eq_by_cmp key_cmp key other ≡ true → key ≡ other
tied_are_one key other tied = by (key_cmp key other) refl tied
  where
    by : (order : Ordering) → key_cmp key other ≡ order → is_eq order ≡ true → key ≡ other
    by Less e t = cc
    by Equal e t = keys_exact key other e
    by Greater e t = cc

pub tied_with_itself : (key : Key) → eq_by_cmp key_cmp key key ≡ true
tied_with_itself key = ap is_eq (tied_itself keys_total key)

pub tied_at : (series : Series) (row : ℕ) (key : Key) → eq_by_cmp key_cmp (key_at series row) key ≡ is_at series row key
tied_at series row key =
    both_ways (eq_by_cmp key_cmp (key_at series row) key) (is_at series row key)
    (λ tied. ap (is_at series row) (sym (tied_are_one (key_at series row) key tied)) ∙ place_at_itself series row)
    (λ passes. ap (eq_by_cmp key_cmp (key_at series row)) (key_at_place series row key passes) ∙ tied_with_itself (key_at series row))
