-- Rows that are sound, and one that is to stand behind them.
use Rattle.std.proofs.Common.{◌≡◌, ℕ, ◌+◌, ◌^◌, Bool, true, false, not, ◌&&◌, ◌||◌, nat_lt, List, [], ◌∷◌, ◌++◌, map, refl, sym, ap, ◌∙◌}
use Rattle.std.specs.List.{list_any}
use Rattle.std.specs.Ordering.{is_eq}
use Rattle.std.proofs.lemmas.List.{map-append}
use Rattle.std.proofs.lemmas.List.Elements.{filter-append}
use Rattle.std.proofs.lemmas.List.Folds.{list_any-append}
use Rattle.mt_value.specs.declared.value.Value.{Value}
use Rattle.mt_value.specs.Order.{row_order}
use Rattle.mt_tree.specs.declared.code.Code.{Code}
use Rattle.mt_tree.specs.declared.code.Code.TheVariants.{TextTooLong, NullNotAllowed, DuplicateKey, QuotaFull, RowNumbersUsedUp}
use Rattle.mt_tree.specs.declared.row.MarkedRow.{MarkedRow}
use Rattle.mt_tree.specs.declared.schema.Column.{Column}
use Rattle.mt_tree.specs.Rows.{AreSound, has_duplicate_key, has_equal_keys, has_long_text, has_null, is_long, is_missing, key_of, some_value, visible_of}
use Rattle.mt_private.specs.Seen.{row_tests}

or_false : (b : Bool) → (b || false) ≡ b
or_false true = refl
or_false false = refl

not_not : (b : Bool) → not (not b) ≡ b
not_not true = refl
not_not false = refl

-- a test of rows of which none passes is one of the row behind them
any_behind : {A : Type 0} (test : A → Bool) (xs : List A) (x : A) → list_any test xs ≡ false → list_any test (xs ++ x ∷ []) ≡ test x
any_behind test xs x none = list_any-append test xs (x ∷ []) ∙ ap (λ b. b || (test x || false)) none ∙ or_false (test x)

any_map : {A B : Type 0} (of : A → B) (test : B → Bool) (xs : List A) → list_any test (map of xs) ≡ list_any (λ x. test (of x)) xs
any_map of test [] = refl
any_map of test (x ∷ xs) = ap (λ b. test (of x) || b) (any_map of test xs)

regrouped : (a x e l : Bool) → ((a || x) || (e || l)) ≡ ((a || e) || (x || l))
regrouped true x e l = refl
regrouped false true true l = refl
regrouped false true false l = refl
regrouped false false e l = refl

-- a key behind others
equal_behind : (keys : List (List Value)) (key : List Value) → has_equal_keys (keys ++ key ∷ []) ≡ (has_equal_keys keys || list_any (λ other. is_eq (row_order other key)) keys)
equal_behind [] key = refl
equal_behind (first ∷ keys) key =
    ap (λ b. b || has_equal_keys (keys ++ key ∷ [])) (list_any-append (λ other. is_eq (row_order first other)) keys (key ∷ []) ∙ ap (λ b. list_any (λ other. is_eq (row_order first other)) keys || b) (or_false (is_eq (row_order first key))))
    ∙ ap (λ b. (list_any (λ other. is_eq (row_order first other)) keys || is_eq (row_order first key)) || b) (equal_behind keys key)
    ∙ regrouped (list_any (λ other. is_eq (row_order first other)) keys) (is_eq (row_order first key)) (has_equal_keys keys) (list_any (λ other. is_eq (row_order other key)) keys)

where_apart : (k e l : Bool) → (k && e) ≡ false → (k && (e || l)) ≡ (k && l)
where_apart true e l apart = ap (λ b. b || l) apart
where_apart false e l apart = refl

module _ (columns : List Column) (rows : List MarkedRow) (values : List Value) where
  abbrev row : MarkedRow
  row = record { visible = true; values = values }

  abbrev key : List MarkedRow → List (List Value)
  key some = map (λ (row : MarkedRow). key_of columns row.values) some

  abbrev repeats : Bool
  repeats = list_any (λ (column : Column). column.key) columns && list_any (λ (row : MarkedRow). is_eq (row_order (key_of columns row.values) (key_of columns values))) (visible_of rows)

  duplicate_behind : has_duplicate_key columns rows ≡ false → has_duplicate_key columns (rows ++ row ∷ []) ≡ repeats
  duplicate_behind none =
      let has : Bool = list_any (λ (column : Column). column.key) columns in
      ap (λ some. has && has_equal_keys (key some)) (filter-append (λ (row : MarkedRow). row.visible) rows (row ∷ []))
      ∙ ap (λ keys. has && has_equal_keys keys) (map-append (λ (row : MarkedRow). key_of columns row.values) (visible_of rows) (row ∷ []))
      ∙ ap (λ b. has && b) (equal_behind (key (visible_of rows)) (key_of columns values))
      ∙ where_apart has (has_equal_keys (key (visible_of rows))) (list_any (λ other. is_eq (row_order other (key_of columns values))) (key (visible_of rows))) none
      ∙ ap (λ b. has && b) (any_map (λ (row : MarkedRow). key_of columns row.values) (λ other. is_eq (row_order other (key_of columns values))) (visible_of rows))

  -- the tests of a row, of what is looked at
  abbrev pub seen_tests : Bool → Bool → Bool → Bool → ℕ → List (Code × Bool)
  seen_tests long null repeated room made =
      (TextTooLong, long) ∷ (NullNotAllowed, null) ∷ (DuplicateKey, repeated) ∷ (QuotaFull, not room) ∷ (RowNumbersUsedUp, nat_lt (2 ^ 63) (made + 1)) ∷ []

  -- the rows that are sound need not be looked at for their texts and NULL
  pub tests_seen : AreSound columns rows → (long null repeated room : Bool) (quota kept made : ℕ) → long ≡ some_value (λ (column : Column) value. is_long column.kind value) columns values → null ≡ some_value is_missing columns values → repeated ≡ repeats
      → room ≡ not (nat_lt quota (kept + 1)) → seen_tests long null repeated room made ≡ row_tests columns rows values quota kept made
  tests_seen sound long null repeated room quota kept made is_long_is is_null_is repeated_is room_is =
      ap (λ b. seen_tests b null repeated room made) (is_long_is ∙ sym (any_behind (λ (row : MarkedRow). some_value (λ (column : Column) value. is_long column.kind value) columns row.values) rows row sound.no_long_text))
      ∙ ap (λ b. seen_tests (has_long_text columns (rows ++ row ∷ [])) b repeated room made) (is_null_is ∙ sym (any_behind (λ (row : MarkedRow). some_value is_missing columns row.values) rows row sound.no_null))
      ∙ ap (λ b. seen_tests (has_long_text columns (rows ++ row ∷ [])) (has_null columns (rows ++ row ∷ [])) b room made) (repeated_is ∙ sym (duplicate_behind sound.no_duplicate_key))
      ∙ ap (λ b. (TextTooLong, has_long_text columns (rows ++ row ∷ [])) ∷ (NullNotAllowed, has_null columns (rows ++ row ∷ [])) ∷ (DuplicateKey, has_duplicate_key columns (rows ++ row ∷ [])) ∷ (QuotaFull, b) ∷ (RowNumbersUsedUp, nat_lt (2 ^ 63) (made + 1)) ∷ [])
      (ap not room_is ∙ not_not (nat_lt quota (kept + 1)))
