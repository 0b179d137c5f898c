-- The tokens that a statement is printed with: AS where there is an alias or an output name, no
-- INNER, no ASC, and no semicolon.
use Rattle.std.specs.Prelude.{ℕ, List, [], ◌∷◌, ◌++◌, map, flat_map, Option, Some, None, codes}
use Rattle.mt_lexer.specs.Tokens.{Lexeme, Word, Number, Sign}
use Rattle.mt_lexer.specs.declared.token.Symbol.TheVariants as symbol
use Rattle.mt_tree.specs.declared.name.ColName.{ColName}
use Rattle.mt_tree.specs.declared.expression.Literal.{Literal}
use Rattle.mt_tree.specs.declared.expression.Cond.{Cond}
use Rattle.mt_tree.specs.declared.statement.Stmt.{Stmt}
use Rattle.mt_tree.specs.declared.statement.Stmt.TheVariants as stmt
use Rattle.mt_tree.specs.declared.statement.Select.{Select}
use Rattle.mt_tree.specs.declared.statement.Item.{Item}
use Rattle.mt_tree.specs.declared.statement.Ref.{Ref}
use Rattle.mt_tree.specs.declared.statement.OrderKey.{OrderKey}
use Rattle.mt_tree.specs.declared.statement.OrderBy.{OrderBy}
use Rattle.mt_tree.specs.declared.statement.OrderBy.TheVariants.{Name, Position}
use Rattle.mt_tree.specs.declared.statement.Insert.{Insert}
use Rattle.mt_tree.specs.declared.statement.Update.{Update}
use Rattle.mt_tree.specs.declared.statement.SetItem.{SetItem}
use Rattle.mt_tree.specs.declared.statement.Filter.{Filter}
use Rattle.mt_show.specs.Text.{text_of}
use Rattle.mt_reader.specs.Forms.{word}
use Rattle.mt_show.specs.Shown.{between, bracketed, flag_tokens, literal_tokens, column_tokens, expr_tokens, cond_tokens}

-- with commas between
abbrev pub listed : List (List Lexeme) → List Lexeme
listed lists = between (Sign symbol.Comma) lists

-- words and a condition, where there is one
abbrev pub clause_tokens : List ℕ → Option Cond → List Lexeme
clause_tokens name None = []
clause_tokens name (Some cond) = Word name ∷ cond_tokens cond

-- AS and a name, where there is one
abbrev pub as_tokens : Option (List ℕ) → List Lexeme
as_tokens None = []
as_tokens (Some name) = Word (codes "as") ∷ word name

-- expr [AS name]
abbrev pub item_tokens : Item → List Lexeme
item_tokens item = expr_tokens item.expr ++ as_tokens item.name

-- no items are a star
abbrev pub items_tokens : List Item → List Lexeme
items_tokens [] = Sign symbol.Star ∷ []
items_tokens (item ∷ items) = listed (map item_tokens (item ∷ items))

-- name [AS name]
abbrev pub table_tokens : Ref → List Lexeme
table_tokens ref = Word ref.table ∷ as_tokens ref.alias

-- a reference behind the first one, by its condition
abbrev pub following_tokens : Ref → Option Cond → List Lexeme
following_tokens ref None = Sign symbol.Comma ∷ table_tokens ref
following_tokens ref (Some on) = Word (codes "join") ∷ (table_tokens ref ++ Word (codes "on") ∷ cond_tokens on)

-- the first reference and those behind it
abbrev pub refs_tokens : List Ref → List Lexeme
refs_tokens [] = []
refs_tokens (ref ∷ refs) = table_tokens ref ++ flat_map (λ ref. following_tokens ref ref.on) refs

-- GROUP BY and columns, where there are any
abbrev pub group_tokens : List ColName → List Lexeme
group_tokens [] = []
group_tokens (column ∷ columns) = Word (codes "group") ∷ Word (codes "by") ∷ listed (map column_tokens (column ∷ columns))

-- name | number
abbrev pub by_tokens : OrderBy → List Lexeme
by_tokens (Name name) = word name
by_tokens (Position n) = Number n ∷ []

-- a key of ORDER BY, with DESC where it is descending
abbrev pub key_tokens : OrderKey → List Lexeme
key_tokens key = by_tokens key.by ++ flag_tokens (codes "desc") key.desc

-- ORDER BY and keys, where there are any
abbrev pub order_tokens : List OrderKey → List Lexeme
order_tokens [] = []
order_tokens (key ∷ keys) = Word (codes "order") ∷ Word (codes "by") ∷ listed (map key_tokens (key ∷ keys))

-- LIMIT and a number, where there is one
abbrev pub limit_tokens : Option ℕ → List Lexeme
limit_tokens None = []
limit_tokens (Some n) = Word (codes "limit") ∷ Number n ∷ []

-- what stands behind FROM
abbrev pub source_tokens : Select → List Lexeme
source_tokens select =
    refs_tokens select.refs ++ clause_tokens (codes "where") select.cond ++ group_tokens select.group ++ clause_tokens (codes "having") select.having ++ order_tokens select.order ++ limit_tokens select.limit

-- a SELECT
abbrev pub select_tokens : Select → List Lexeme
select_tokens select = Word (codes "select") ∷ (flag_tokens (codes "distinct") select.distinct ++ items_tokens select.items ++ Word (codes "from") ∷ source_tokens select)

-- a tuple
abbrev pub tuple_tokens : List Literal → List Lexeme
tuple_tokens tuple = bracketed (listed (map literal_tokens tuple))

-- no names are not written
abbrev pub columns_tokens : List (List ℕ) → List Lexeme
columns_tokens [] = []
columns_tokens (name ∷ names) = bracketed (listed (map word (name ∷ names)))

-- an INSERT
abbrev pub insert_tokens : Insert → List Lexeme
insert_tokens insert =
    Word (codes "insert") ∷ Word (codes "into") ∷ Word insert.table ∷ (columns_tokens insert.columns ++ Word (codes "values") ∷ listed (map tuple_tokens insert.tuples))

-- an assignment
abbrev pub set_tokens : SetItem → List Lexeme
set_tokens item = Word item.column ∷ Sign symbol.Equal ∷ expr_tokens item.expr

-- an UPDATE
abbrev pub update_tokens : Update → List Lexeme
update_tokens update = Word (codes "update") ∷ Word update.table ∷ Word (codes "set") ∷ (listed (map set_tokens update.sets) ++ clause_tokens (codes "where") update.cond)

-- name [WHERE cond]
abbrev pub filter_tokens : Filter → List Lexeme
filter_tokens filter = Word filter.table ∷ clause_tokens (codes "where") filter.cond

-- a statement
abbrev pub statement_tokens : Stmt → List Lexeme
statement_tokens (stmt.Select select) = select_tokens select
statement_tokens (stmt.Insert insert) = insert_tokens insert
statement_tokens (stmt.Update update) = update_tokens update
statement_tokens (stmt.Delete filter) = Word (codes "delete") ∷ Word (codes "from") ∷ filter_tokens filter
statement_tokens (stmt.Restore filter) = Word (codes "restore") ∷ filter_tokens filter
statement_tokens (stmt.Purge filter) = Word (codes "purge") ∷ filter_tokens filter

-- the text of a statement: its tokens with one space between
abbrev pub statement_text : Stmt → List ℕ
statement_text statement = text_of (statement_tokens statement)
