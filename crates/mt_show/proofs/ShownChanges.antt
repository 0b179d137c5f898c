-- A statement that changes rows is shown by tokens that spell it.
use Rattle.std.proofs.Common.{[], ◌∷◌, ◌++◌, map, refl, codes}
use Rattle.std.proofs.lemmas.List.Elements.{All-tail, All-append}
use Rattle.mt_lexer.specs.Tokens.{Word, Sign}
use Rattle.mt_lexer.specs.declared.token.Symbol.TheVariants as symbol
use Rattle.mt_tree.specs.declared.statement.Stmt.TheVariants as stmt
use Rattle.mt_reader.specs.Forms.{Commas, Bracketed, MaybeList, word}
use Rattle.mt_reader.specs.Names.{IsName}
use Rattle.mt_statements.specs.Change.{SpellsTuple, SpellsInsert, SpellsSet, SpellsUpdate, SpellsFilter, SpellsChange}
use Rattle.mt_show.specs.Text.{IsWritten}
use Rattle.mt_show.specs.Shown.{literal_tokens, expr_tokens}
use Rattle.mt_show.specs.Statements.{listed, clause_tokens, tuple_tokens, columns_tokens, insert_tokens, set_tokens, update_tokens, filter_tokens, statement_tokens}
use Rattle.mt_show.proofs.ShownForms.{Shows, All-both, All-behind, nothing_gives, parts_give, bracketed_shows, behind_shows, written_one, written_between}
use Rattle.mt_show.proofs.ShownAtoms.{keyword, one_word, two_words, name_shows, literal_shows}
use Rattle.mt_show.proofs.ShownExpressions.{expr_shows}
use Rattle.mt_show.proofs.ShownParts.{word_shows, words_shows, commas_show, clause_shows}

-- a tuple
tuple_shows : Shows SpellsTuple tuple_tokens
tuple_shows = bracketed_shows _ (commas_show literal_tokens literal_shows)

-- the columns of an INSERT, where they are written
columns_show : Shows (MaybeList (Bracketed (Commas IsName))) columns_tokens
columns_show [] = nothing_gives
columns_show (name ∷ names) = bracketed_shows _ (commas_show word name_shows) (name ∷ names)

-- an INSERT
insert_shows : Shows SpellsInsert insert_tokens
insert_shows insert tokens w s =
    let head = All-both IsWritten (s.table ++ s.columns) (Word (codes "values") ∷ s.tuples) (All-behind IsWritten tokens (word (codes "insert")) (Word (codes "into")) (s.table ++ s.columns ++ Word (codes "values") ∷ s.tuples) s.spelling w) in
    let first = All-both IsWritten s.table s.columns head.0 in
    let table = name_shows insert.table s.table first.0 s.is_table in
    let columns = columns_show insert.columns s.columns first.1 s.are_columns in
    let tuples = commas_show tuple_tokens tuple_shows insert.tuples s.tuples (All-tail IsWritten (Word (codes "values")) s.tuples head.1) s.are_tuples in
    let front = word insert.table ++ columns_tokens insert.columns in
    let back = listed (map tuple_tokens insert.tuples) in (
      record {
        table = word insert.table;
        columns = columns_tokens insert.columns;
        tuples = back;
        spelling = refl;
        is_table = table.0;
        are_columns = columns.0;
        are_tuples = tuples.0;
        few = s.few;
      },
      All-append IsWritten (Word (codes "insert") ∷ Word (codes "into") ∷ []) (front ++ Word (codes "values") ∷ back) (two_words (codes "insert") (codes "into") refl refl)
          (written_between front (Word (codes "values")) back (keyword (codes "values") refl) (All-append IsWritten (word insert.table) (columns_tokens insert.columns) table.1 columns.1) tuples.1),
    )

-- an assignment
set_shows : Shows SpellsSet set_tokens
set_shows item =
    parts_give (word item.column) (Sign symbol.Equal ∷ expr_tokens item.expr) (name_shows item.column) (behind_shows expr_tokens expr_shows (Sign symbol.Equal ∷ []) (written_one (Sign symbol.Equal) tt) item.expr)

-- an UPDATE
update_shows : Shows SpellsUpdate update_tokens
update_shows update tokens w s =
    let all = All-both IsWritten s.table (Word (codes "set") ∷ (s.sets ++ s.condition)) (All-behind IsWritten tokens [] (Word (codes "update")) (s.table ++ Word (codes "set") ∷ (s.sets ++ s.condition)) s.spelling w) in
    let behind = All-both IsWritten s.sets s.condition (All-tail IsWritten (Word (codes "set")) (s.sets ++ s.condition) all.1) in
    let table = name_shows update.table s.table all.0 s.is_table in
    let sets = commas_show set_tokens set_shows update.sets s.sets behind.0 s.are_sets in
    let condition = clause_shows (codes "where") refl update.cond s.condition behind.1 s.is_condition in (
      record {
        table = word update.table;
        sets = listed (map set_tokens update.sets);
        condition = clause_tokens (codes "where") update.cond;
        spelling = refl;
        is_table = table.0;
        are_sets = sets.0;
        is_condition = condition.0;
      },
      All-append IsWritten (word (codes "update")) (word update.table ++ Word (codes "set") ∷ (listed (map set_tokens update.sets) ++ clause_tokens (codes "where") update.cond)) (one_word (codes "update") refl)
          (written_between (word update.table) (Word (codes "set")) (listed (map set_tokens update.sets) ++ clause_tokens (codes "where") update.cond) (keyword (codes "set") refl) table.1 (All-append IsWritten (listed (map set_tokens update.sets)) (clause_tokens (codes "where") update.cond) sets.1 condition.1)),
    )

-- a table, perhaps with a condition
filter_shows : Shows SpellsFilter filter_tokens
filter_shows filter = parts_give (word filter.table) (clause_tokens (codes "where") filter.cond) (name_shows filter.table) (clause_shows (codes "where") refl filter.cond)

-- a statement that changes rows
pub change_shows : Shows SpellsChange statement_tokens
change_shows (stmt.Select select) = λ tokens w s. elim s [ ]
change_shows (stmt.Insert insert) = insert_shows insert
change_shows (stmt.Update update) = update_shows update
change_shows (stmt.Delete filter) = words_shows filter_tokens filter_shows (codes "delete") (codes "from") refl refl filter
change_shows (stmt.Restore filter) = word_shows filter_tokens filter_shows (codes "restore") refl filter
change_shows (stmt.Purge filter) = word_shows filter_tokens filter_shows (codes "purge") refl filter
