-- The rules as functions, which read lexemes from the left: the tree, and the lexemes behind it.
use Rattle.std.specs.Prelude.{ℕ, zero, suc, Bool, true, false, Option, Some, None, option_and_then, List, [], ◌∷◌, ◌++◌, length, codes}
use Rattle.mt_lexer.specs.declared.token.Symbol.TheVariants as symbol
use Rattle.mt_lexer.specs.Tokens.{Lexeme, Word, Sign}
use Rattle.mt_tree.specs.declared.command.AdminCmd.{AdminCmd}
use Rattle.mt_tree.specs.declared.command.AdminCmd.TheVariants.{CreateTable, CreateExtension, CreateTenant, Extend, SetQuota, Advise, ShowFold, Refold, Step, Explain}
use Rattle.mt_tree.specs.declared.command.Def.{Def}
use Rattle.mt_tree.specs.declared.command.DefKind.{DefKind}
use Rattle.mt_tree.specs.declared.command.DefKind.TheVariants.{Integer, Varchar}
use Rattle.mt_tree.specs.declared.command.FoldText.{FoldText}
use Rattle.mt_tree.specs.declared.command.ChunkText.{ChunkText}
use Rattle.mt_reader.specs.Descent.{◌>>=◌, after, name_of, number_of, separated_of, bracketed_of, names_of, either}
use Rattle.mt_statements.specs.QueryDescent.{select_of}
use Rattle.mt_adminlang.specs.declared.create.TableBody.{TableBody}

-- columns

-- behind VARCHAR
unfoldable pub varchar_of : List Lexeme → Option (DefKind × List Lexeme)
varchar_of lexemes = do
  open_ ← after (Sign symbol.Open) lexemes
  size ← number_of open_
  rest ← after (Sign symbol.Close) size.1
  Some (Varchar size.0, rest)

-- where there is no INTEGER, a VARCHAR
abbrev pub kind_behind : Option (List Lexeme) → List Lexeme → Option (DefKind × List Lexeme)
kind_behind (Some rest) lexemes = Some (Integer, rest)
kind_behind None lexemes = do
  varchar ← after (Word (codes "varchar")) lexemes
  varchar_of varchar

-- the kind of a column
unfoldable pub kind_of : List Lexeme → Option (DefKind × List Lexeme)
kind_of lexemes = kind_behind (after (Word (codes "integer")) lexemes) lexemes

-- behind NOT, if it is there, NULL
abbrev pub not_null_behind : Option (List Lexeme) → List Lexeme → Option (Bool × List Lexeme)
not_null_behind None lexemes = Some (false, lexemes)
not_null_behind (Some rest) lexemes = do
  null ← after (Word (codes "null")) rest
  Some (true, null)

-- perhaps NOT NULL
unfoldable pub not_null_of : List Lexeme → Option (Bool × List Lexeme)
not_null_of lexemes = not_null_behind (after (Word (codes "not")) lexemes) lexemes

-- a column of a table
unfoldable pub def_of : List Lexeme → Option (Def × List Lexeme)
def_of lexemes = do
  name ← name_of lexemes
  kind ← kind_of name.1
  not_null ← not_null_of kind.1
  Some (record { name = name.0; kind = kind.0; not_null = not_null.0 }, not_null.1)

-- a column of an extension
unfoldable pub extension_def_of : List Lexeme → Option (Def × List Lexeme)
extension_def_of lexemes = do
  name ← name_of lexemes
  kind ← kind_of name.1
  Some (record { name = name.0; kind = kind.0; not_null = false }, kind.1)

-- tables

-- behind a comma: the key behind PRIMARY, or another column to come
abbrev pub primary_behind : Option (List Lexeme) → List Lexeme → Option (Option (List (List ℕ)) × List Lexeme)
primary_behind None lexemes = Some (None, lexemes)
primary_behind (Some rest) lexemes = do
  key ← after (Word (codes "key")) rest
  names ← names_of key
  Some (Some names.0, names.1)

-- behind a column: where no comma comes, a key of no names
abbrev pub next_behind : Option (List Lexeme) → List Lexeme → Option (Option (List (List ℕ)) × List Lexeme)
next_behind None lexemes = Some (Some [], lexemes)
next_behind (Some rest) lexemes = primary_behind (after (Word (codes "primary")) rest) rest

-- behind a column
unfoldable pub next_of : List Lexeme → Option (Option (List (List ℕ)) × List Lexeme)
next_of lexemes = next_behind (after (Sign symbol.Comma) lexemes) lexemes

-- columns in front of others and a key
abbrev pub with_columns : List Def → Option (TableBody × List Lexeme) → Option (TableBody × List Lexeme)
with_columns front read = option_and_then (λ (more : TableBody × List Lexeme). Some (record { columns = front ++ more.0.columns; key = more.0.key }, more.1)) read

-- behind a column and what follows it: the key ends the body, and else more columns come
abbrev pub body_behind : (List Lexeme → Option (TableBody × List Lexeme)) → Option (List (List ℕ)) → List Lexeme → Option (TableBody × List Lexeme)
body_behind more (Some key) lexemes = Some (record { columns = []; key = key }, lexemes)
body_behind more None lexemes = more lexemes

-- one column, and more behind each comma, as many as fuel at most
abbrev pub columns_of : ℕ → List Lexeme → Option (TableBody × List Lexeme)
columns_of zero lexemes = None
columns_of (suc fuel) lexemes = do
  first ← def_of lexemes
  next ← next_of first.1
  with_columns (first.0 ∷ []) (body_behind (columns_of fuel) next.0 next.1)

-- the columns and the key of a table
unfoldable pub body_of : List Lexeme → Option (TableBody × List Lexeme)
body_of lexemes = columns_of (length lexemes) lexemes

-- behind CREATE TABLE
unfoldable pub create_table_of : List Lexeme → Option (AdminCmd × List Lexeme)
create_table_of lexemes = do
  name ← name_of lexemes
  open_ ← after (Sign symbol.Open) name.1
  body ← body_of open_
  rest ← after (Sign symbol.Close) body.1
  Some (CreateTable name.0 body.0.columns body.0.key, rest)

-- behind CREATE EXTENSION
unfoldable pub extension_of : List Lexeme → Option (AdminCmd × List Lexeme)
extension_of lexemes = do
  name ← name_of lexemes
  on ← after (Word (codes "on")) name.1
  base ← name_of on
  columns ← bracketed_of (separated_of extension_def_of (Sign symbol.Comma)) base.1
  Some (CreateExtension name.0 base.0 columns.0, columns.1)

-- behind CREATE TENANT
unfoldable pub tenant_of : List Lexeme → Option (AdminCmd × List Lexeme)
tenant_of lexemes = do
  tenant ← number_of lexemes
  behind ← after (Word (codes "quota")) tenant.1
  quota ← number_of behind
  Some (CreateTenant tenant.0 quota.0, quota.1)

-- behind CREATE, where neither TABLE nor EXTENSION comes
abbrev pub other_create_of : List Lexeme → Option (AdminCmd × List Lexeme)
other_create_of lexemes = do
  tenant ← after (Word (codes "tenant")) lexemes
  tenant_of tenant

-- behind CREATE
unfoldable pub create_of : List Lexeme → Option (AdminCmd × List Lexeme)
create_of lexemes = either (after (Word (codes "table")) lexemes) create_table_of (either (after (Word (codes "extension")) lexemes) extension_of (other_create_of lexemes))

-- folds

-- a shape, where its word is there, and else the other
abbrev pub shape_behind : Option (List Lexeme) → ℕ → Option (ℕ × List Lexeme) → Option (ℕ × List Lexeme)
shape_behind None shape other = other
shape_behind (Some rest) shape other = Some (shape, rest)

-- the word of a shape
unfoldable pub shape_of : List Lexeme → Option (ℕ × List Lexeme)
shape_of lexemes =
    shape_behind (after (Word (codes "c1")) lexemes) 1
    (shape_behind (after (Word (codes "c2")) lexemes) 2
    (shape_behind (after (Word (codes "c3")) lexemes) 3
    (shape_behind (after (Word (codes "c4")) lexemes) 4
    (shape_behind (after (Word (codes "c5")) lexemes) 5
    (shape_behind (after (Word (codes "c6")) lexemes) 6 None)))))

-- a chunk
unfoldable pub chunk_of : List Lexeme → Option (ChunkText × List Lexeme)
chunk_of lexemes = do
  shape ← shape_of lexemes
  columns ← names_of shape.1
  Some (record { shape = shape.0; columns = columns.0 }, columns.1)

-- chunk {',' chunk}
unfoldable pub chunks_of : List Lexeme → Option (List ChunkText × List Lexeme)
chunks_of lexemes = separated_of chunk_of (Sign symbol.Comma) lexemes

-- {',' chunk}
unfoldable pub more_chunks_of : List Lexeme → Option (List ChunkText × List Lexeme)
more_chunks_of lexemes = either (after (Sign symbol.Comma) lexemes) chunks_of (Some ([], lexemes))

-- behind CONV
unfoldable pub conv_of : List Lexeme → Option (FoldText × List Lexeme)
conv_of lexemes = do
  conv ← names_of lexemes
  chunks ← more_chunks_of conv.1
  Some (record { conv = conv.0; chunks = chunks.0 }, chunks.1)

-- a fold of chunks alone
abbrev pub chunks_alone_of : List Lexeme → Option (FoldText × List Lexeme)
chunks_alone_of lexemes = do
  chunks ← chunks_of lexemes
  Some (record { conv = []; chunks = chunks.0 }, chunks.1)

-- a fold
unfoldable pub fold_of : List Lexeme → Option (FoldText × List Lexeme)
fold_of lexemes = either (after (Word (codes "conv")) lexemes) conv_of (chunks_alone_of lexemes)

-- commands

-- behind EXTEND
unfoldable pub extend_of : List Lexeme → Option (AdminCmd × List Lexeme)
extend_of lexemes = do
  tenant ← number_of lexemes
  behind ← after (Word (codes "with")) tenant.1
  extension ← name_of behind
  Some (Extend tenant.0 extension.0, extension.1)

-- behind SET
unfoldable pub set_quota_of : List Lexeme → Option (AdminCmd × List Lexeme)
set_quota_of lexemes = do
  word ← after (Word (codes "quota")) lexemes
  tenant ← number_of word
  behind ← after (Word (codes "to")) tenant.1
  quota ← number_of behind
  Some (SetQuota tenant.0 quota.0, quota.1)

-- behind ADVISE
unfoldable pub advise_of : List Lexeme → Option (AdminCmd × List Lexeme)
advise_of lexemes = do
  tenant ← number_of lexemes
  table ← name_of tenant.1
  Some (Advise tenant.0 table.0, table.1)

-- behind SHOW
unfoldable pub show_fold_of : List Lexeme → Option (AdminCmd × List Lexeme)
show_fold_of lexemes = do
  word ← after (Word (codes "fold")) lexemes
  tenant ← number_of word
  table ← name_of tenant.1
  Some (ShowFold tenant.0 table.0, table.1)

-- behind REFOLD
unfoldable pub refold_of : List Lexeme → Option (AdminCmd × List Lexeme)
refold_of lexemes = do
  tenant ← number_of lexemes
  table ← name_of tenant.1
  behind ← after (Word (codes "to")) table.1
  fold ← fold_of behind
  Some (Refold tenant.0 table.0 fold.0, fold.1)

-- behind STEP
unfoldable pub step_of : List Lexeme → Option (AdminCmd × List Lexeme)
step_of lexemes = do
  tenant ← number_of lexemes
  table ← name_of tenant.1
  rows ← number_of table.1
  Some (Step tenant.0 table.0 rows.0, rows.1)

-- where no other word comes, a STEP
abbrev pub other_command_of : List Lexeme → Option (AdminCmd × List Lexeme)
other_command_of lexemes = do
  step ← after (Word (codes "step")) lexemes
  step_of step

-- a command but EXPLAIN
unfoldable pub plain_command_of : List Lexeme → Option (AdminCmd × List Lexeme)
plain_command_of lexemes =
    either (after (Word (codes "create")) lexemes) create_of
    (either (after (Word (codes "extend")) lexemes) extend_of
    (either (after (Word (codes "set")) lexemes) set_quota_of
    (either (after (Word (codes "advise")) lexemes) advise_of
    (either (after (Word (codes "show")) lexemes) show_fold_of
    (either (after (Word (codes "refold")) lexemes) refold_of
    (other_command_of lexemes))))))

-- behind EXPLAIN
unfoldable pub explain_of : List Lexeme → Option (AdminCmd × List Lexeme)
explain_of lexemes = do
  tenant ← number_of lexemes
  select ← select_of tenant.1
  Some (Explain tenant.0 select.0, select.1)

-- a command
unfoldable pub command_of : List Lexeme → Option (AdminCmd × List Lexeme)
command_of lexemes = either (after (Word (codes "explain")) lexemes) explain_of (plain_command_of lexemes)
