-- The database of what is kept of a tenant, table by table.
use Rattle.std.proofs.Common.{◌≡◌, ℕ, zero, suc, ◌+◌, Bool, true, false, not, List, [], ◌∷◌, length, map, sum_by, Option, None, Some, unwrap_or, refl, sym, ap, ◌∙◌, arith}
use Rattle.std.specs.Prelude.{is_some, option_map, slice_get}
use Rattle.std.specs.List.{AllByRecursion as Each, list_all, range_with_len}
use Rattle.std.proofs.lemmas.Bool.{and_parts}
use Rattle.std.proofs.lemmas.List.Sums.{sum_by-cons}
use Rattle.std.proofs.lemmas.Option.{get_or_from_slice_get, slice_get-map}
use Rattle.mt_value.specs.declared.value.Value.{Value}
use Rattle.mt_tree.specs.declared.code.Code.{Code}
use Rattle.mt_tree.specs.declared.code.Code.TheVariants.{TypesDoNotFit, UnknownColumn, UnknownTable}
use Rattle.mt_tree.specs.declared.expression.Literal.{Literal}
use Rattle.mt_tree.specs.declared.reply.Reply.{Reply}
use Rattle.mt_tree.specs.declared.reply.Reply.TheVariants.{Refused, Text}
use Rattle.mt_tree.specs.declared.row.MarkedRow.{MarkedRow}
use Rattle.mt_tree.specs.declared.row.TableContent.{TableContent}
use Rattle.mt_tree.specs.declared.schema.Column.{Column}
use Rattle.mt_tree.specs.declared.simple.SimpleStmt.{SimpleStmt}
use Rattle.mt_tree.specs.declared.simple.SimpleStmt.TheVariants.{Insert, Select}
use Rattle.mt_tree.specs.Rows.{no_rows, with_row}
use Rattle.mt_catalog.specs.declared.state.TenantEntry.{TenantEntry}
use Rattle.mt_catalog.specs.declared.state.TenantTable.{TenantTable}
use Rattle.mt_catalog.specs.Found.{columns_among}
use Rattle.mt_catalog.specs.State.{State, extended_columns}
use Rattle.mt_schema.specs.Refusals.{first_holding}
use Rattle.mt_schema.specs.Steps.{table_number}
use Rattle.mt_schema.proofs.Refused.{none_holds}
use Rattle.mt_model.specs.Answer.{answer_within, changed, columns_of, content_of, first_refusal, next_within, reply_text, table_of, tests_at}
use Rattle.mt_model.specs.Database.{PrivateDatabase, kept_rows}
use Rattle.mt_model.specs.Parts.{contents_from, with_content}
use Rattle.mt_model.specs.Service.{View}
use Rattle.mt_model.specs.Tables.{column_place, fit_columns, value_of}
use Rattle.mt_private.specs.Seen.{database_in, kept_in, list_at, row_tests, view_in}
use Rattle.mt_private.specs.Visible.{select_text_of}

-- what a table holds of which this is kept
abbrev pub content : TenantTable → List MarkedRow → TableContent
content table rows = record { made = table.made; rows = rows }

pub contents_at : (rows : ℕ → List MarkedRow) (from : ℕ) (tables : List TenantTable) (n : ℕ) (own : TenantTable) → slice_get tables n ≡ Some own → slice_get (contents_from rows from tables) n ≡ Some (content own (rows (from + n)))
contents_at rows from [] n own got = absurd (cc)
contents_at rows from (table ∷ tables) zero own got =
    let same : table ≡ own = cc in
    let here : from ≡ from + 0 = omega arith in
    ap (λ (of : TenantTable). Some (content of (rows from))) same ∙ ap (λ n. Some (content own (rows n))) here
contents_at rows from (table ∷ tables) (suc n) own got =
    let here : (from + 1) + n ≡ from + suc n = omega arith in
    contents_at rows (from + 1) tables n own got ∙ ap (λ n. Some (content own (rows n))) here

kept_contents : (rows : ℕ → List MarkedRow) (from : ℕ) (tables : List TenantTable) → sum_by (λ (table : TableContent). length table.rows) (contents_from rows from tables) ≡ sum_by (λ base. length (rows base)) (range_with_len from (length tables))
kept_contents rows from [] = refl
kept_contents rows from (table ∷ tables) =
    sum_by-cons (λ (table : TableContent). length table.rows) (content table (rows from)) (contents_from rows (from + 1) tables)
    ∙ ap (λ n. length (rows from) + n) (kept_contents rows (from + 1) tables)
    ∙ sym (sum_by-cons (λ base. length (rows base)) from (range_with_len (from + 1) (length tables)))

-- the tests of a statement whose table is there
pub refusal_at : (view : View) (database : PrivateDatabase) (statement : SimpleStmt) (base : ℕ) → table_number view.tables (table_of statement) ≡ Some base → first_refusal view database statement ≡ first_holding (tests_at view database statement base)
refusal_at view database statement base is =
    ap (λ (found : Option ℕ). first_holding (elim found as (λ _. List (Code × Bool)) [ None ↦ (UnknownTable, true) ∷ [] | Some number ↦ tests_at view database statement number ])) is

-- what is refused is answered by its code, and what is not refused by its text
pub within_refused : (view : View) (database : PrivateDatabase) (statement : SimpleStmt) (code : Code) → first_refusal view database statement ≡ Some code → answer_within view database statement ≡ Refused code
within_refused view database statement code e = ap (λ (refusal : Option Code). elim refusal as (λ _. Reply) [ None ↦ Text (reply_text view database statement) | Some code ↦ Refused code ]) e

pub within_done : (view : View) (database : PrivateDatabase) (statement : SimpleStmt) → first_refusal view database statement ≡ None → answer_within view database statement ≡ Text (reply_text view database statement)
within_done view database statement e = ap (λ (refusal : Option Code). elim refusal as (λ _. Reply) [ None ↦ Text (reply_text view database statement) | Some code ↦ Refused code ]) e

module _ (state : State) (entry : TenantEntry) (lists : List (List MarkedRow)) where
  abbrev database : PrivateDatabase
  database = database_in entry lists

  abbrev view : View
  view = view_in state entry lists

  pub kept_is : kept_rows database ≡ kept_in lists (length entry.tables)
  kept_is = kept_contents (list_at lists) 0 entry.tables

  module _ (base : ℕ) (own : TenantTable) (got : slice_get entry.tables base ≡ Some own) where
    pub content_got : slice_get database.current base ≡ Some (content own (list_at lists base))
    content_got =
        let here : 0 + base ≡ base = omega arith in
        contents_at (list_at lists) 0 entry.tables base own got ∙ ap (λ n. Some (content own (list_at lists n))) here

    pub content_is : content_of database base ≡ content own (list_at lists base)
    content_is = get_or_from_slice_get database.current base (content own (list_at lists base)) no_rows content_got

    pub columns_is : columns_of view database base ≡ extended_columns state base own.extended
    columns_is =
        ap (columns_among state.bases state.extensions base)
        (get_or_from_slice_get database.extended base own.extended [] (slice_get-map (λ (table : TenantTable). table.extended) entry.tables base ∙ ap (option_map (λ (table : TenantTable). table.extended)) got))

    abbrev pub parts_tests : List Literal → List Column → TableContent → ℕ → List (Code × Bool)
    parts_tests literals columns of kept = (TypesDoNotFit, not (fit_columns columns literals)) ∷ row_tests columns of.rows (map value_of literals) entry.quota kept of.made

    -- the first refusal of an INSERT
    pub insert_refusal : (table : List ℕ) (literals : List Literal) → table_number state.bases table ≡ Some base
        → first_refusal view database (Insert table literals) ≡ first_holding (parts_tests literals (extended_columns state base own.extended) (content own (list_at lists base)) (kept_in lists (length entry.tables)))
    insert_refusal table literals is =
        refusal_at view database (Insert table literals) base is
        ∙ ap (λ columns. first_holding (parts_tests literals columns (content_of database base) (kept_rows database))) columns_is
        ∙ ap (λ of. first_holding (parts_tests literals (extended_columns state base own.extended) of (kept_rows database))) content_is
        ∙ ap (λ kept. first_holding (parts_tests literals (extended_columns state base own.extended) (content own (list_at lists base)) kept)) kept_is

    -- what is not refused passes each test
    pub passed : (table : List ℕ) (literals : List Literal) → table_number state.bases table ≡ Some base → first_refusal view database (Insert table literals) ≡ None
        → Each (λ test. test.1 ≡ false) (parts_tests literals (extended_columns state base own.extended) (content own (list_at lists base)) (kept_in lists (length entry.tables)))
    passed table literals is none =
        none_holds (parts_tests literals (extended_columns state base own.extended) (content own (list_at lists base)) (kept_in lists (length entry.tables))) (sym (insert_refusal table literals is) ∙ none)

    -- and has one row more
    pub changed_is : (table : List ℕ) (literals : List Literal) → table_number state.bases table ≡ Some base
        → changed view database (Insert table literals) ≡ with_content database base (with_row (content own (list_at lists base)) (map value_of literals))
    changed_is table literals is =
        ap (λ (found : Option ℕ). with_content database (unwrap_or found 0) (with_row (content_of database (unwrap_or found 0)) (map value_of literals))) is
        ∙ ap (λ (of : TableContent). with_content database base (with_row of (map value_of literals))) content_is

    -- literals that do not fit, and those that do
    pub misfit : (table : List ℕ) (literals : List Literal) → table_number state.bases table ≡ Some base → fit_columns (extended_columns state base own.extended) literals ≡ false → first_refusal view database (Insert table literals) ≡ Some TypesDoNotFit
    misfit table literals is fits =
        let tests : List (Code × Bool) = row_tests (extended_columns state base own.extended) (list_at lists base) (map value_of literals) entry.quota (kept_in lists (length entry.tables)) own.made in
        insert_refusal table literals is ∙ ap (λ fit. first_holding ((TypesDoNotFit, not fit) ∷ tests)) fits

    pub fitted : (table : List ℕ) (literals : List Literal) → table_number state.bases table ≡ Some base → fit_columns (extended_columns state base own.extended) literals ≡ true
        → (columns : List Column) (rows : List MarkedRow) (values : List Value) (kept : ℕ) → columns ≡ extended_columns state base own.extended → rows ≡ list_at lists base → values ≡ map value_of literals → kept ≡ kept_in lists (length entry.tables)
        → first_refusal view database (Insert table literals) ≡ first_holding (row_tests columns rows values entry.quota kept own.made)
    fitted table literals is fits columns rows values kept columns_are rows_are values_are kept_are =
        let tests : List (Code × Bool) = row_tests (extended_columns state base own.extended) (list_at lists base) (map value_of literals) entry.quota (kept_in lists (length entry.tables)) own.made in
        insert_refusal table literals is ∙ ap (λ fit. first_holding ((TypesDoNotFit, not fit) ∷ tests)) fits
        ∙ sym (ap (λ of. first_holding (row_tests of rows values entry.quota kept own.made)) columns_are
        ∙ ap (λ of. first_holding (row_tests (extended_columns state base own.extended) of values entry.quota kept own.made)) rows_are
        ∙ ap (λ of. first_holding (row_tests (extended_columns state base own.extended) (list_at lists base) of entry.quota kept own.made)) values_are
        ∙ ap (λ of. first_holding (row_tests (extended_columns state base own.extended) (list_at lists base) (map value_of literals) entry.quota of own.made)) kept_are)

    -- whether the columns of a SELECT are there
    abbrev known : List (List ℕ) → Bool
    known names = list_all (λ name. is_some (column_place (extended_columns state base own.extended) name)) names

    select_refusal : (table : List ℕ) (names : List (List ℕ)) (there : Bool) → table_number state.bases table ≡ Some base → known names ≡ there → first_refusal view database (Select table names) ≡ first_holding ((UnknownColumn, not there) ∷ [])
    select_refusal table names there is tested =
        refusal_at view database (Select table names) base is
        ∙ ap (λ columns. first_holding ((UnknownColumn, not (list_all (λ name. is_some (column_place columns name)) names)) ∷ [])) columns_is
        ∙ ap (λ of. first_holding ((UnknownColumn, not of) ∷ [])) tested

    -- a SELECT of a column that is not there, and one that is done
    pub select_unknown : (table : List ℕ) (names : List (List ℕ)) → table_number state.bases table ≡ Some base → known names ≡ false → answer_within view database (Select table names) ≡ Refused UnknownColumn
    select_unknown table names is tested = within_refused view database (Select table names) UnknownColumn (select_refusal table names false is tested)

    pub select_done : (table : List ℕ) (names : List (List ℕ)) → table_number state.bases table ≡ Some base → known names ≡ true → answer_within view database (Select table names) ≡ Text (select_text_of (extended_columns state base own.extended) (list_at lists base) names)
    select_done table names is tested =
        within_done view database (Select table names) (select_refusal table names true is tested)
        ∙ ap (λ (found : Option ℕ). Text (select_text_of (columns_of view database (unwrap_or found 0)) (content_of database (unwrap_or found 0)).rows names)) is
        ∙ ap (λ columns. Text (select_text_of columns (content_of database base).rows names)) columns_is
        ∙ ap (λ (of : TableContent). Text (select_text_of (extended_columns state base own.extended) of.rows names)) content_is

-- literals that fit are as many as the columns
pub fit_length : (columns : List Column) (literals : List Literal) → fit_columns columns literals ≡ true → length literals ≡ length columns
fit_length [] [] fits = refl
fit_length [] (literal ∷ literals) fits = absurd (cc)
fit_length (column ∷ columns) [] fits = absurd (cc)
fit_length (column ∷ columns) (literal ∷ literals) fits = ap suc (fit_length columns literals (and_parts _ _ fits).1)

-- a statement that is refused changes nothing
pub next_refused : (view : View) (database : PrivateDatabase) (statement : SimpleStmt) (code : Code) → first_refusal view database statement ≡ Some code → next_within view database statement ≡ database
next_refused view database statement code e = ap (λ (refusal : Option Code). elim refusal as (λ _. PrivateDatabase) [ None ↦ changed view database statement | Some code ↦ database ]) e

pub next_done : (view : View) (database : PrivateDatabase) (statement : SimpleStmt) → first_refusal view database statement ≡ None → next_within view database statement ≡ changed view database statement
next_done view database statement e = ap (λ (refusal : Option Code). elim refusal as (λ _. PrivateDatabase) [ None ↦ changed view database statement | Some code ↦ database ]) e

-- nor does a SELECT
pub next_selected : (view : View) (database : PrivateDatabase) (table : List ℕ) (names : List (List ℕ)) → next_within view database (Select table names) ≡ database
next_selected view database table names = by (first_refusal view database (Select table names))
  where
    by : (refusal : Option Code) → elim refusal as (λ _. PrivateDatabase) [ None ↦ database | Some code ↦ database ] ≡ database
    by None = refl
    by (Some code) = refl
