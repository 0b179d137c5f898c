-- Rows that are sound stay so where each has NULL behind it for columns that are plain.
use Rattle.std.proofs.Common.{◌≡◌, ℕ, zero, suc, Bool, true, false, cond, ◌||◌, ◌&&◌, List, [], ◌∷◌, ◌++◌, length, map, replicate, refl, ap, ◌∙◌, arith}
use Rattle.std.specs.Prelude.{All, if◌then◌else◌}
use Rattle.std.specs.List.{list_any}
use Rattle.std.proofs.Math.Bool.{or-false}
use Rattle.std.proofs.lemmas.List.Elements.{All-head, All-tail}
use Rattle.std.proofs.lemmas.List.Folds.{list_any-append, list_any_none}
use Rattle.mt_value.specs.declared.value.Value.{Value}
use Rattle.mt_value.specs.declared.value.Value.TheVariants.{Null}
use Rattle.mt_value.specs.Order.{is_null}
use Rattle.mt_tree.specs.declared.schema.Column.{Column}
use Rattle.mt_tree.specs.declared.schema.Kind.{Kind}
use Rattle.mt_tree.specs.declared.schema.Kind.TheVariants.{Integer, Varchar}
use Rattle.mt_tree.specs.declared.row.MarkedRow.{MarkedRow}
use Rattle.mt_tree.specs.Rows.{AreSound, has_equal_keys, is_long, is_missing, key_of, some_value, visible_of}
use Rattle.mt_catalog.specs.Rules.{IsPlain}
use Rattle.mt_model.specs.Database.{with_nulls}

-- NULL passes no test in columns of which none lets it pass
nulls-pass : (test : Column → Value → Bool) (added : List Column) (count : ℕ) → All (λ column. test column Null ≡ false) added → some_value test added (replicate count Null) ≡ false
nulls-pass test [] count none = refl
nulls-pass test (column ∷ added) zero none = refl
nulls-pass test (column ∷ added) (suc count) none =
    ap (λ (b : Bool). b || some_value test added (replicate count Null)) (All-head (λ column. test column Null ≡ false) column added none)
    ∙ nulls-pass test added count (All-tail (λ column. test column Null ≡ false) column added none)

-- values with NULLs behind them pass the tests that they pass alone
some-widened : (test : Column → Value → Bool) (columns added : List Column) (values : List Value) (count : ℕ) → length values ≡ length columns → All (λ column. test column Null ≡ false) added →
    some_value test (columns ++ added) (values ++ replicate count Null) ≡ some_value test columns values
some-widened test [] added [] count e none = nulls-pass test added count none
some-widened test [] added (value ∷ values) count e none = absurd (omega (arith, e))
some-widened test (column ∷ columns) added [] count e none = absurd (omega (arith, e))
some-widened test (column ∷ columns) added (value ∷ values) count e none = ap (λ (b : Bool). test column value || b) (some-widened test columns added values count (omega (arith, e)) none)

-- each row has a value for each column
abbrev AreFull : List Column → List MarkedRow → Type 0
AreFull columns rows = All (λ row. length row.values ≡ length columns) rows

-- so do rows
any-widened : (test : Column → Value → Bool) (columns added : List Column) (count : ℕ) (rows : List MarkedRow) → AreFull columns rows → All (λ column. test column Null ≡ false) added →
    list_any (λ row. some_value test (columns ++ added) row.values) (map (with_nulls count) rows) ≡ list_any (λ row. some_value test columns row.values) rows
any-widened test columns added count [] full none = refl
any-widened test columns added count (row ∷ rows) full none =
    ap (λ (b : Bool). b || list_any (λ row. some_value test (columns ++ added) row.values) (map (with_nulls count) rows))
    (some-widened test columns added row.values count (All-head (λ row. length row.values ≡ length columns) row rows full) none)
    ∙ ap (λ (b : Bool). some_value test columns row.values || b) (any-widened test columns added count rows (All-tail (λ row. length row.values ≡ length columns) row rows full) none)

-- plain columns have no key
key-plain : (added : List Column) (values : List Value) → All IsPlain added → key_of added values ≡ []
key-plain [] values plain = refl
key-plain (column ∷ added) [] plain = refl
key-plain (column ∷ added) (value ∷ values) plain =
    ap (λ (b : Bool). if b then value ∷ key_of added values else key_of added values) (All-head IsPlain column added plain).key
    ∙ key-plain added values (All-tail IsPlain column added plain)

-- a key stays the same
key-widened : (columns added : List Column) (values behind : List Value) → length values ≡ length columns → All IsPlain added → key_of (columns ++ added) (values ++ behind) ≡ key_of columns values
key-widened [] added [] behind e plain = key-plain added behind plain
key-widened [] added (value ∷ values) behind e plain = absurd (omega (arith, e))
key-widened (column ∷ columns) added [] behind e plain = absurd (omega (arith, e))
key-widened (column ∷ columns) added (value ∷ values) behind e plain =
    ap (λ (keys : List Value). if column.key then value ∷ keys else keys) (key-widened columns added values behind (omega (arith, e)) plain)

-- and those of all visible rows
keys-widened : (columns added : List Column) (count : ℕ) (rows : List MarkedRow) → AreFull columns rows → All IsPlain added →
    map (λ row. key_of (columns ++ added) row.values) (visible_of (map (with_nulls count) rows)) ≡ map (λ row. key_of columns row.values) (visible_of rows)
keys-widened columns added count [] full plain = refl
keys-widened columns added count (row ∷ rows) full plain = by row.visible (keys-widened columns added count rows (All-tail (λ row. length row.values ≡ length columns) row rows full) plain)
  where
    wide : List MarkedRow → List (List Value)
    wide kept = map (λ row. key_of (columns ++ added) row.values) kept

    own : List MarkedRow → List (List Value)
    own kept = map (λ row. key_of columns row.values) kept

    behind : List MarkedRow
    behind = visible_of (map (with_nulls count) rows)

    by : (visible : Bool) → wide behind ≡ own (visible_of rows) → wide (cond visible (with_nulls count row ∷ behind) behind) ≡ own (cond visible (row ∷ visible_of rows) (visible_of rows))
    by true others =
        ap (λ (first : List Value). first ∷ wide behind) (key-widened columns added row.values (replicate count Null) (All-head (λ row. length row.values ≡ length columns) row rows full) plain)
        ∙ ap (λ (keys : List (List Value)). key_of columns row.values ∷ keys) others
    by false others = others

long-null : (kind : Kind) → is_long kind Null ≡ false
long-null Integer = refl
long-null (Varchar size) = refl

missing-null : (column : Column) → IsPlain column → is_missing column Null ≡ false
missing-null column plain =
    ap (λ (b : Bool). (b || column.key) && is_null Null) plain.not_null ∙ ap (λ (b : Bool). b && is_null Null) plain.key

-- a key column is one of the table's own
key-columns : (columns added : List Column) → All IsPlain added → list_any (λ column. column.key) (columns ++ added) ≡ list_any (λ column. column.key) columns
key-columns columns added plain =
    list_any-append (λ (column : Column). column.key) columns added
    ∙ ap (λ (b : Bool). list_any (λ column. column.key) columns || b) (list_any_none (λ (column : Column). column.key) added (λ k d within. (plain k d within).key))
    ∙ or-false (list_any (λ column. column.key) columns)

-- rows with NULLs behind them are as sound as before
pub sound-widened : (columns added : List Column) (rows : List MarkedRow) → AreFull columns rows → All IsPlain added → AreSound columns rows → AreSound (columns ++ added) (map (with_nulls (length added)) rows)
sound-widened columns added rows full plain sound = record {
  no_long_text = any-widened (λ column value. is_long column.kind value) columns added (length added) rows full (λ k d within. long-null _) ∙ sound.no_long_text;
  no_null = any-widened is_missing columns added (length added) rows full (λ k d within. missing-null _ (plain k d within)) ∙ sound.no_null;
  no_duplicate_key =
      ap (λ (b : Bool). b && has_equal_keys (map (λ row. key_of (columns ++ added) row.values) (visible_of (map (with_nulls (length added)) rows)))) (key-columns columns added plain)
      ∙ ap (λ (keys : List (List Value)). list_any (λ column. column.key) columns && has_equal_keys keys) (keys-widened columns added (length added) rows full plain)
      ∙ sound.no_duplicate_key;
}
