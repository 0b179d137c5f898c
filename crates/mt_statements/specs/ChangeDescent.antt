-- The forms as functions, which read lexemes from the left: the tree, and the lexemes behind it.
use Rattle.std.specs.Prelude.{ℕ, nat_le, if◌then◌else◌, Option, Some, None, List, [], length, codes}
use Rattle.mt_lexer.specs.declared.token.Symbol.TheVariants as symbol
use Rattle.mt_lexer.specs.Tokens.{Lexeme, Word, Sign}
use Rattle.mt_tree.specs.declared.expression.Expr.{Expr}
use Rattle.mt_tree.specs.declared.expression.Literal.{Literal}
use Rattle.mt_tree.specs.declared.statement.Filter.{Filter}
use Rattle.mt_tree.specs.declared.statement.SetItem.{SetItem}
use Rattle.mt_tree.specs.declared.statement.Stmt.{Stmt}
use Rattle.mt_tree.specs.declared.statement.Stmt.TheVariants as stmt
use Rattle.mt_reader.specs.Descent.{◌>>=◌, after, either, name_of, literal_of, separated_of, closed_of, bracketed_of, maybe_of}
use Rattle.mt_terms.specs.Descent.{expr_of, cond_of}

-- a table, and perhaps a condition
unfoldable pub filter_of : List Lexeme → Option (Filter × List Lexeme)
filter_of lexemes = do
  table ← name_of lexemes
  cond ← maybe_of cond_of (Word (codes "where")) table.1
  Some (record { table = table.0; cond = cond.0 }, cond.1)

-- the assignment of this to a column
abbrev pub assigned : List ℕ → Expr → SetItem
assigned column expr = record { column = column; expr = expr }

-- a column, the sign, and its new value
unfoldable pub set_of : List Lexeme → Option (SetItem × List Lexeme)
set_of lexemes = do
  column ← name_of lexemes
  equal ← after (Sign symbol.Equal) column.1
  value ← expr_of equal
  Some (assigned column.0 value.0, value.1)

-- behind UPDATE
unfoldable pub update_of : List Lexeme → Option (Stmt × List Lexeme)
update_of lexemes = do
  table ← name_of lexemes
  set ← after (Word (codes "set")) table.1
  sets ← separated_of set_of (Sign symbol.Comma) set
  cond ← maybe_of cond_of (Word (codes "where")) sets.1
  Some (stmt.Update (record { table = table.0; sets = sets.0; cond = cond.0 }), cond.1)

-- literals in brackets
unfoldable pub tuple_of : List Lexeme → Option (List Literal × List Lexeme)
tuple_of lexemes = bracketed_of (separated_of literal_of (Sign symbol.Comma)) lexemes

-- a list with so many members at most
abbrev pub at_most : {X : Type 0} → ℕ → Option (List X × List Lexeme) → Option (List X × List Lexeme)
at_most limit read = do
  items ← read
  if nat_le (length items.0) limit then Some items else None

-- so many tuples at most
unfoldable pub few_tuples_of : ℕ → List Lexeme → Option (List (List Literal) × List Lexeme)
few_tuples_of limit lexemes = at_most limit (separated_of tuple_of (Sign symbol.Comma) lexemes)

-- perhaps names in brackets
unfoldable pub columns_of : List Lexeme → Option (List (List ℕ) × List Lexeme)
columns_of lexemes = either (after (Sign symbol.Open) lexemes) (closed_of (separated_of name_of (Sign symbol.Comma))) (Some ([], lexemes))

-- behind INSERT
unfoldable pub insert_of : List Lexeme → Option (Stmt × List Lexeme)
insert_of lexemes = do
  into ← after (Word (codes "into")) lexemes
  table ← name_of into
  columns ← columns_of table.1
  values ← after (Word (codes "values")) columns.1
  tuples ← few_tuples_of 1000 values
  Some (stmt.Insert (record { table = table.0; columns = columns.0; tuples = tuples.0 }), tuples.1)

-- a statement that says this of a filter
abbrev pub filtered_of : (Filter → Stmt) → List Lexeme → Option (Stmt × List Lexeme)
filtered_of change lexemes = do
  filter ← filter_of lexemes
  Some (change filter.0, filter.1)

-- behind DELETE
abbrev pub delete_of : List Lexeme → Option (Stmt × List Lexeme)
delete_of lexemes = do
  from ← after (Word (codes "from")) lexemes
  filtered_of stmt.Delete from

-- where no other word comes, a PURGE
abbrev pub other_change_of : List Lexeme → Option (Stmt × List Lexeme)
other_change_of lexemes = do
  purge ← after (Word (codes "purge")) lexemes
  filtered_of stmt.Purge purge

-- a statement that changes rows
unfoldable pub change_of : List Lexeme → Option (Stmt × List Lexeme)
change_of lexemes =
    either (after (Word (codes "insert")) lexemes) insert_of
    (either (after (Word (codes "update")) lexemes) update_of
    (either (after (Word (codes "delete")) lexemes) delete_of
    (either (after (Word (codes "restore")) lexemes) (filtered_of stmt.Restore)
    (other_change_of lexemes))))
