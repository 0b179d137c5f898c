-- The private database of one tenant.
use Rattle.std.specs.Prelude.{ℕ, Bool, List, [], ◌∷◌, ◌++◌, length, map, replicate, sum_by, slice_index_or, slice_set, Option, None, option_map}
use Rattle.mt_value.specs.declared.value.Value.TheVariants as value
use Rattle.mt_tree.specs.declared.schema.Table.{Table}
use Rattle.mt_catalog.specs.declared.state.Extension.{Extension}
pub use Rattle.mt_tree.specs.declared.row.MarkedRow.{MarkedRow}
pub use Rattle.mt_tree.specs.declared.row.TableContent.{TableContent}
pub use Rattle.mt_tree.specs.Rows.{no_rows, visible_rows, with_row}

-- what each base table holds, in the order in which the tables were made
abbrev pub Content : Type 0
Content = List TableContent

-- what the tables held when a transaction began, and whether it has changed anything since
pub record SavedContent : Type 0 where
  pub content : Content
  pub changed : Bool

pub record PrivateDatabase : Type 0 where
  -- the number of rows that it may keep
  pub quota : ℕ
  -- for each base table the numbers of the tenant's extensions of it, in the order of EXTEND
  pub extended : List (List ℕ)
  pub current : Content
  -- none while no transaction is open
  pub saved : Option SavedContent

-- how many rows are kept in all tables, those in the trashcan too
abbrev pub kept_rows : PrivateDatabase → ℕ
kept_rows database = sum_by (λ table. length table.rows) database.current

-- a database of these tables, without a row
abbrev pub new_database : List Table → ℕ → PrivateDatabase
new_database tables quota = record { quota = quota; extended = map (λ table. []) tables; current = map (λ table. no_rows) tables; saved = None }

-- the same change of a saved content
abbrev pub in_saved : (Content → Content) → SavedContent → SavedContent
in_saved change saved = record saved { content = change saved.content }

-- the same change of the content, also of a saved one
abbrev pub in_each_content : (Content → Content) → PrivateDatabase → PrivateDatabase
in_each_content change database = record database {
  current = change database.current;
  saved = option_map (in_saved change) database.saved;
}

-- one more table, which has no row
abbrev pub with_table : PrivateDatabase → PrivateDatabase
with_table database = in_each_content (λ content. content ++ no_rows ∷ []) (record database { extended = database.extended ++ [] ∷ [] })

-- the row with so many NULLs behind it
abbrev pub with_nulls : ℕ → MarkedRow → MarkedRow
with_nulls count row = record row { values = row.values ++ replicate count value.Null }

-- a table whose kept rows all have so many values more, which are NULL
abbrev pub widened : ℕ → TableContent → TableContent
widened count table = record table { rows = map (with_nulls count) table.rows }

-- the content with that change of the table of a number
abbrev pub at_table : ℕ → (TableContent → TableContent) → Content → Content
at_table number change content = slice_set content number (change (slice_index_or content number no_rows))

-- The database in which the table of the extension's base has its columns too, NULL in each row.
abbrev pub with_extension : ℕ → Extension → PrivateDatabase → PrivateDatabase
with_extension number extension database =
    in_each_content (at_table extension.base (widened (length extension.columns)))
    (record database { extended = slice_set database.extended extension.base (slice_index_or database.extended extension.base [] ++ number ∷ []) })

-- the database with that quota
abbrev pub with_quota : ℕ → PrivateDatabase → PrivateDatabase
with_quota quota database = record database { quota = quota }
