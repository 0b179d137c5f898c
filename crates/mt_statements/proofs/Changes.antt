-- Statements that change rows: what is read is spelled so, and what is spelled so is read.
use Rattle.std.proofs.Common.{◌≡◌, Some, None, List, [], ◌∷◌, ◌++◌, refl, sym, ap, ◌∙◌, subst, append_assoc}
use Rattle.std.specs.Prelude.{codes}
use Rattle.mt_lexer.specs.Tokens.{Lexeme, Word}
use Rattle.mt_tree.specs.declared.statement.Filter.{Filter}
use Rattle.mt_tree.specs.declared.statement.Stmt.{Stmt}
use Rattle.mt_tree.specs.declared.statement.Stmt.TheVariants as stmt
use Rattle.mt_reader.specs.Descent.{after}
use Rattle.mt_reader.specs.Forms.{Behind}
use Rattle.mt_reader.specs.Fronts.{Begins, AtEnd}
use Rattle.mt_reader.proofs.Eithers.{either_some}
use Rattle.mt_reader.proofs.Shrinking.{bind_some, same_tree, same_rest}
use Rattle.mt_reader.proofs.Spelling.{IsSound, IsCompleteBefore, after_is}
use Rattle.mt_statements.specs.Change.{SpellsFilter, SpellsChange}
use Rattle.mt_statements.specs.ChangeDescent.{filter_of, update_of, insert_of, filtered_of, delete_of, change_of}
use Rattle.mt_statements.proofs.Assignments.{update_sound, update_complete}
use Rattle.mt_statements.proofs.Filters.{filter_sound, filter_complete}
use Rattle.mt_statements.proofs.Inserts.{insert_sound, insert_complete}

-- what is read behind the words of a statement that says a filter is spelled so
filtered_sound : (words : List Lexeme) (change : Filter → Stmt) → ((tokens : List Lexeme) (filter : Filter) → Behind words SpellsFilter tokens filter → SpellsChange tokens (change filter)) → (lexemes left rest : List Lexeme) (statement : Stmt) → lexemes ≡ words ++ left → filtered_of change left ≡ Some (statement, rest) → Begins SpellsChange lexemes rest statement
filtered_sound words change spelled lexemes left rest statement h e =
    let a = bind_some (filter_of left) _ (statement, rest) e in
    let s = filter_sound left a.0.1 a.0.0 a.1 in
    let front = words ++ s.front in
    record {
      front = front;
      whole = h ∙ ap (λ ls. words ++ ls) (s.whole ∙ ap (λ ls. s.front ++ ls) (same_rest a.2)) ∙ sym (append_assoc words s.front rest);
      spelled = subst (SpellsChange front) (same_tree a.2) (spelled front a.0.0 (record { inner = s.front; prefix = refl; body = s.spelled }));
    }

-- what is read is a statement that changes rows
pub change_sound : IsSound SpellsChange change_of
unfolding change_of
change_sound lexemes rest statement e =
    either_some (after (Word (codes "insert")) lexemes) insert_of _ (statement, rest) (λ left a e. insert_sound lexemes left rest statement (after_is _ lexemes left a) e)
    (λ e. either_some (after (Word (codes "update")) lexemes) update_of _ (statement, rest) (λ left a e. update_sound lexemes left rest statement (after_is _ lexemes left a) e)
    (λ e. either_some (after (Word (codes "delete")) lexemes) delete_of _ (statement, rest) by_delete
    (λ e. either_some (after (Word (codes "restore")) lexemes) (filtered_of stmt.Restore) _ (statement, rest) (λ left a e. filtered_sound (Word (codes "restore") ∷ []) stmt.Restore (λ tokens filter s. s) lexemes left rest statement (after_is _ lexemes left a) e)
    (λ e. let p = bind_some (after (Word (codes "purge")) lexemes) (filtered_of stmt.Purge) (statement, rest) e in filtered_sound (Word (codes "purge") ∷ []) stmt.Purge (λ tokens filter s. s) lexemes p.0 rest statement (after_is _ lexemes p.0 p.1) p.2) e) e) e) e where
      by_delete : (left : List Lexeme) → after (Word (codes "delete")) lexemes ≡ Some left → delete_of left ≡ Some (statement, rest) → Begins SpellsChange lexemes rest statement
      by_delete left a e =
          let p = bind_some (after (Word (codes "from")) left) (filtered_of stmt.Delete) (statement, rest) e in
          filtered_sound (Word (codes "delete") ∷ Word (codes "from") ∷ []) stmt.Delete (λ tokens filter s. s) lexemes p.0 rest statement (after_is _ lexemes left a ∙ ap (λ ls. Word (codes "delete") ∷ ls) (after_is _ left p.0 p.1)) p.2

-- a DELETE is read
delete_read : (lexemes more : List Lexeme) (filter : Filter) → filter_of lexemes ≡ Some (filter, more) → change_of (Word (codes "delete") ∷ Word (codes "from") ∷ lexemes) ≡ Some (stmt.Delete filter, more)
unfolding change_of after
delete_read lexemes more filter read = rw read refl

-- a RESTORE is read
restore_read : (lexemes more : List Lexeme) (filter : Filter) → filter_of lexemes ≡ Some (filter, more) → change_of (Word (codes "restore") ∷ lexemes) ≡ Some (stmt.Restore filter, more)
unfolding change_of after
restore_read lexemes more filter read = rw read refl

-- a PURGE is read
purge_read : (lexemes more : List Lexeme) (filter : Filter) → filter_of lexemes ≡ Some (filter, more) → change_of (Word (codes "purge") ∷ lexemes) ≡ Some (stmt.Purge filter, more)
unfolding change_of after
purge_read lexemes more filter read = rw read refl

-- a statement that changes rows is read, at the end
pub change_follows : IsCompleteBefore SpellsChange AtEnd change_of
change_follows front more (stmt.Select select) end s = elim s [ ]
change_follows front more (stmt.Insert insert) end s = insert_complete front more insert end s
change_follows front more (stmt.Update update) end s = update_complete front more update end s
change_follows front more (stmt.Delete filter) end s =
    ap (λ ls. change_of (ls ++ more)) s.prefix ∙ delete_read (s.inner ++ more) more filter (filter_complete s.inner more filter end s.body)
change_follows front more (stmt.Restore filter) end s =
    ap (λ ls. change_of (ls ++ more)) s.prefix ∙ restore_read (s.inner ++ more) more filter (filter_complete s.inner more filter end s.body)
change_follows front more (stmt.Purge filter) end s =
    ap (λ ls. change_of (ls ++ more)) s.prefix ∙ purge_read (s.inner ++ more) more filter (filter_complete s.inner more filter end s.body)

-- no statement that changes rows begins with SELECT
pub change_begins : (front more : List Lexeme) (statement : Stmt) → SpellsChange front statement → after (Word (codes "select")) (front ++ more) ≡ None
unfolding after
change_begins front more (stmt.Select select) s = elim s [ ]
change_begins front more (stmt.Insert insert) s = rw s.spelling refl
change_begins front more (stmt.Update update) s = rw s.spelling refl
change_begins front more (stmt.Delete filter) s = rw s.prefix refl
change_begins front more (stmt.Restore filter) s = rw s.prefix refl
change_begins front more (stmt.Purge filter) s = rw s.prefix refl
