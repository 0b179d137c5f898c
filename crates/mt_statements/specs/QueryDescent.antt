-- SELECT as functions, which read lexemes from the left: the tree, and the lexemes behind it.
use Rattle.std.specs.Prelude.{ℕ, zero, suc, Bool, true, false, Option, Some, None, List, [], ◌∷◌, codes}
use Rattle.mt_lexer.specs.declared.token.Symbol.TheVariants as symbol
use Rattle.mt_lexer.specs.Tokens.{Lexeme, Word, Sign}
use Rattle.mt_tree.specs.declared.statement.Select.{Select}
use Rattle.mt_tree.specs.declared.statement.Item.{Item}
use Rattle.mt_tree.specs.declared.statement.Ref.{Ref}
use Rattle.mt_tree.specs.declared.statement.OrderKey.{OrderKey}
use Rattle.mt_tree.specs.declared.statement.OrderBy.{OrderBy}
use Rattle.mt_tree.specs.declared.statement.OrderBy.TheVariants.{Name, Position}
use Rattle.mt_reader.specs.Descent.{◌>>=◌, after, either, name_of, number_of, begins_with_name, begins_with_word, with_front, separated_of, maybe_of}
use Rattle.mt_terms.specs.Descent.{column_of, expr_of, cond_of}
use Rattle.mt_statements.specs.declared.reference.Start.{Start}
use Rattle.mt_statements.specs.declared.reference.Start.TheVariants.{Listed, Joined}
use Rattle.mt_statements.specs.declared.clauses.Clauses.{Clauses}

-- words that need not be written

-- whether this word is written
unfoldable pub flag_of : Lexeme → List Lexeme → Option (Bool × List Lexeme)
flag_of word lexemes = either (after word lexemes) (λ rest. Some (true, rest)) (Some (false, lexemes))

-- perhaps AS and a name
unfoldable pub as_name_of : List Lexeme → Option (Option (List ℕ) × List Lexeme)
as_name_of lexemes = maybe_of name_of (Word (codes "as")) lexemes

-- items

-- an expression, and perhaps AS and a name
unfoldable pub item_of : List Lexeme → Option (Item × List Lexeme)
item_of lexemes = do
  expr ← expr_of lexemes
  name ← as_name_of expr.1
  Some (record { expr = expr.0; name = name.0 }, name.1)

-- the star, or items with commas between
unfoldable pub select_items_of : List Lexeme → Option (List Item × List Lexeme)
select_items_of lexemes = either (after (Sign symbol.Star) lexemes) (λ rest. Some ([], rest)) (separated_of item_of (Sign symbol.Comma) lexemes)

-- references

-- a name alone, or what AS begins
abbrev pub alias_behind : Bool → List Lexeme → Option (Option (List ℕ) × List Lexeme)
alias_behind true lexemes = do
  name ← name_of lexemes
  Some (Some name.0, name.1)
alias_behind false lexemes = as_name_of lexemes

-- perhaps a name, with AS or without
unfoldable pub alias_of : List Lexeme → Option (Option (List ℕ) × List Lexeme)
alias_of lexemes = alias_behind (begins_with_name lexemes) lexemes

-- a table, and perhaps its alias
unfoldable pub table_reference_of : List Lexeme → Option (Ref × List Lexeme)
table_reference_of lexemes = do
  table ← name_of lexemes
  alias ← alias_of table.1
  Some (record { table = table.0; alias = alias.0; on = None }, alias.1)

-- behind INNER
abbrev pub inner_of : List Lexeme → Option (Option Start × List Lexeme)
inner_of lexemes = do
  join ← after (Word (codes "join")) lexemes
  Some (Some Joined, join)

-- what one more reference begins with, if there is one
unfoldable pub start_of : List Lexeme → Option (Option Start × List Lexeme)
start_of lexemes =
    either (after (Sign symbol.Comma) lexemes) (λ rest. Some (Some Listed, rest))
    (either (after (Word (codes "inner")) lexemes) inner_of
    (either (after (Word (codes "join")) lexemes) (λ rest. Some (Some Joined, rest))
    (Some (None, lexemes))))

-- a table, ON and a condition
unfoldable pub joined_reference_of : List Lexeme → Option (Ref × List Lexeme)
joined_reference_of lexemes = do
  table ← table_reference_of lexemes
  on ← after (Word (codes "on")) table.1
  cond ← cond_of on
  Some (record { table = table.0.table; alias = table.0.alias; on = Some cond.0 }, cond.1)

-- a reference behind the first, by what it begins with
unfoldable pub following_of : Start → List Lexeme → Option (Ref × List Lexeme)
following_of Listed lexemes = table_reference_of lexemes
following_of Joined lexemes = joined_reference_of lexemes

-- no more references where none begins
abbrev pub more_behind : (List Lexeme → Option (List Ref × List Lexeme)) → Option Start → List Lexeme → Option (List Ref × List Lexeme)
more_behind more None lexemes = Some ([], lexemes)
more_behind more (Some start) lexemes = do
  ref ← following_of start lexemes
  with_front (ref.0 ∷ []) (more ref.1)

-- no reference where there is no room
abbrev pub full_behind : Option Start → List Lexeme → Option (List Ref × List Lexeme)
full_behind None lexemes = Some ([], lexemes)
full_behind (Some start) lexemes = None

-- the references behind the first, of which so many may stand
abbrev pub more_of : ℕ → List Lexeme → Option (List Ref × List Lexeme)
more_of zero lexemes = do
  start ← start_of lexemes
  full_behind start.0 start.1
more_of (suc room) lexemes = do
  start ← start_of lexemes
  more_behind (more_of room) start.0 start.1

-- the references, of which there are 4 at most
unfoldable pub refs_of : List Lexeme → Option (List Ref × List Lexeme)
refs_of lexemes = do
  first ← table_reference_of lexemes
  with_front (first.0 ∷ []) (more_of 3 first.1)

-- keys

-- the name or the number that a key begins with
abbrev pub by_behind : Bool → List Lexeme → Option (OrderBy × List Lexeme)
by_behind true lexemes = do
  name ← name_of lexemes
  Some (Name name.0, name.1)
by_behind false lexemes = do
  number ← number_of lexemes
  Some (Position number.0, number.1)

-- a name or a number
unfoldable pub by_of : List Lexeme → Option (OrderBy × List Lexeme)
by_of lexemes = by_behind (begins_with_word lexemes) lexemes

-- perhaps a direction; whether it is descending
unfoldable pub direction_of : List Lexeme → Option (Bool × List Lexeme)
direction_of lexemes =
    either (after (Word (codes "desc")) lexemes) (λ rest. Some (true, rest))
    (either (after (Word (codes "asc")) lexemes) (λ rest. Some (false, rest))
    (Some (false, lexemes)))

-- a name or a number, and perhaps a direction
unfoldable pub key_of : List Lexeme → Option (OrderKey × List Lexeme)
key_of lexemes = do
  by ← by_of lexemes
  desc ← direction_of by.1
  Some (record { by = by.0; desc = desc.0 }, desc.1)

-- the clauses behind the references

-- BY, and items with commas between
abbrev pub by_items_of : {X : Type 0} → (List Lexeme → Option (X × List Lexeme)) → List Lexeme → Option (List X × List Lexeme)
by_items_of item lexemes = do
  by ← after (Word (codes "by")) lexemes
  separated_of item (Sign symbol.Comma) by

-- perhaps a word, BY, and items with commas between
unfoldable pub listed_of : {X : Type 0} → (List Lexeme → Option (X × List Lexeme)) → Lexeme → List Lexeme → Option (List X × List Lexeme)
listed_of item word lexemes = either (after word lexemes) (by_items_of item) (Some ([], lexemes))

-- the clauses, each of which need not be written
unfoldable pub clauses_of : List Lexeme → Option (Clauses × List Lexeme)
clauses_of lexemes = do
  cond ← maybe_of cond_of (Word (codes "where")) lexemes
  group ← listed_of column_of (Word (codes "group")) cond.1
  having ← maybe_of cond_of (Word (codes "having")) group.1
  order ← listed_of key_of (Word (codes "order")) having.1
  limit ← maybe_of number_of (Word (codes "limit")) order.1
  Some (record { cond = cond.0; group = group.0; having = having.0; order = order.0; limit = limit.0 }, limit.1)

-- the SELECT of these parts
abbrev pub select_with : Bool → List Item → List Ref → Clauses → Select
select_with distinct items refs clauses = record {
  distinct = distinct;
  items = items;
  refs = refs;
  cond = clauses.cond;
  group = clauses.group;
  having = clauses.having;
  order = clauses.order;
  limit = clauses.limit;
}

-- a SELECT
unfoldable pub select_of : List Lexeme → Option (Select × List Lexeme)
select_of lexemes = do
  select ← after (Word (codes "select")) lexemes
  distinct ← flag_of (Word (codes "distinct")) select
  items ← select_items_of distinct.1
  from ← after (Word (codes "from")) items.1
  refs ← refs_of from
  clauses ← clauses_of refs.1
  Some (select_with distinct.0 items.0 refs.0 clauses.0, clauses.1)
