-- Statements: what is read is spelled so, and what is spelled so is read.
use Rattle.std.proofs.Common.{◌≡◌, Bool, true, false, cond, is_some, Option, Some, None, Result, Ok, Err, List, ◌∷◌, ◌++◌, sym, ap, ◌∙◌, subst}
use Rattle.std.specs.Option.{option_and_then, option_map}
use Rattle.std.specs.Prelude.{codes}
use Rattle.mt_lexer.specs.Tokens.{Lexeme, Word}
use Rattle.mt_tree.specs.declared.statement.Select.{Select}
use Rattle.mt_tree.specs.declared.statement.Stmt.{Stmt}
use Rattle.mt_tree.specs.declared.statement.Stmt.TheVariants as stmt
use Rattle.mt_reader.specs.declared.fault.ReadFault.{ReadFault}
use Rattle.mt_reader.specs.declared.fault.ReadFault.TheVariants as fault
use Rattle.mt_reader.specs.Descent.{after}
use Rattle.mt_reader.specs.Forms.{WithSemicolon}
use Rattle.mt_reader.specs.Fronts.{AtEnd, Begins}
use Rattle.mt_reader.specs.Taken.{Keeps, Took, Fails, TakesInside}
use Rattle.mt_reader.proofs.Fronts.{keeps_map}
use Rattle.mt_reader.proofs.Literals.{fails_bind}
use Rattle.mt_reader.proofs.Shrinking.{bind_some, same_tree, same_rest}
use Rattle.mt_reader.proofs.Spelling.{IsSound, IsCompleteBefore, ended_sound, ended_complete}
use Rattle.mt_statements.specs.QueryDescent.{select_of}
use Rattle.mt_statements.specs.QueryInside.{IsSelectInside}
use Rattle.mt_statements.proofs.Selects.{select_sound, select_follows}
use Rattle.mt_statements.specs.Change.{SpellsChange}
use Rattle.mt_statements.specs.ChangeDescent.{change_of}
use Rattle.mt_statements.specs.ChangeInside.{IsChangeInside}
use Rattle.mt_statements.proofs.Changes.{change_sound, change_follows, change_begins}
use Rattle.mt_grammar.specs.Descent.{selection_of, form_of, statement_of}
use Rattle.mt_grammar.specs.Statement.{SpellsStmt, IsStmtInside}

-- a change is a statement
change_is : (tokens : List Lexeme) (statement : Stmt) → SpellsChange tokens statement → SpellsStmt tokens statement
unfolding SpellsStmt
change_is tokens (stmt.Select select) s = elim s [ ]
change_is tokens (stmt.Insert insert) s = s
change_is tokens (stmt.Update update) s = s
change_is tokens (stmt.Delete filter) s = s
change_is tokens (stmt.Restore filter) s = s
change_is tokens (stmt.Purge filter) s = s

-- what is read as a SELECT is a statement
selection_sound : IsSound SpellsStmt selection_of
unfolding SpellsStmt
selection_sound lexemes rest tree e =
    let p = bind_some (select_of lexemes) _ (tree, rest) e in
    let s = select_sound lexemes p.0.1 p.0.0 p.1 in
    record {
      front = s.front;
      whole = s.whole ∙ ap (λ ls. s.front ++ ls) (same_rest p.2);
      spelled = subst (SpellsStmt s.front) (same_tree p.2) s.spelled;
    }

-- what is read as a statement is one
form_sound : IsSound SpellsStmt form_of
unfolding form_of
form_sound lexemes rest tree e = by_word (is_some (after (Word (codes "select")) lexemes)) e where
  by_word : (found : Bool) → cond found (selection_of lexemes) (change_of lexemes) ≡ Some (tree, rest) → Begins SpellsStmt lexemes rest tree
  by_word true e = selection_sound lexemes rest tree e
  by_word false e =
      let s = change_sound lexemes rest tree e in
      record { front = s.front; whole = s.whole; spelled = change_is s.front tree s.spelled }

-- the word SELECT decides
form_of-test : (lexemes : List Lexeme) (found : Bool) → is_some (after (Word (codes "select")) lexemes) ≡ found → form_of lexemes ≡ cond found (selection_of lexemes) (change_of lexemes)
unfolding form_of
form_of-test lexemes found e = ap (λ found. cond found (selection_of lexemes) (change_of lexemes)) e

-- a SELECT is read
selection_complete : (back more : List Lexeme) (select : Select) → select_of (Word (codes "select") ∷ back) ≡ Some (select, more) → form_of (Word (codes "select") ∷ back) ≡ Some (stmt.Select select, more)
unfolding form_of after
selection_complete back more select read = ap (option_and_then (λ (select : Select × List Lexeme). Some (stmt.Select select.0, select.1))) read

-- so is a change
change_complete : (front more : List Lexeme) (statement : Stmt) → AtEnd more → SpellsChange front statement → form_of (front ++ more) ≡ Some (statement, more)
change_complete front more statement end s =
    form_of-test (front ++ more) false (ap is_some (change_begins front more statement s)) ∙ change_follows front more statement end s

-- a statement is read, where nothing but a semicolon follows
form_complete : IsCompleteBefore SpellsStmt AtEnd form_of
unfolding SpellsStmt
form_complete front more (stmt.Select select) end s =
    let all = ap (λ ls. ls ++ more) s.spelling in
    ap form_of all ∙ selection_complete _ more select (ap select_of (sym all) ∙ select_follows front more select end s)
form_complete front more (stmt.Insert insert) end s = change_complete front more (stmt.Insert insert) end s
form_complete front more (stmt.Update update) end s = change_complete front more (stmt.Update update) end s
form_complete front more (stmt.Delete filter) end s = change_complete front more (stmt.Delete filter) end s
form_complete front more (stmt.Restore filter) end s = change_complete front more (stmt.Restore filter) end s
form_complete front more (stmt.Purge filter) end s = change_complete front more (stmt.Purge filter) end s

-- what is read whole is a statement
pub statement_sound : (lexemes : List Lexeme) (statement : Stmt) → statement_of lexemes ≡ Some statement → WithSemicolon SpellsStmt lexemes statement
unfolding statement_of
statement_sound lexemes statement e = ended_sound SpellsStmt form_of form_sound lexemes statement e

-- a statement is read whole
pub statement_complete : (lexemes : List Lexeme) (statement : Stmt) → WithSemicolon SpellsStmt lexemes statement → statement_of lexemes ≡ Some statement
unfolding statement_of
statement_complete lexemes statement s = ended_complete SpellsStmt form_of form_complete lexemes statement s

-- what is kept of a change is kept of the statement
keeps_change : (tokens : List Lexeme) (kept : Option Stmt) (tree : Stmt) → SpellsChange tokens tree → Keeps IsChangeInside kept tree → Keeps IsStmtInside kept tree
unfolding IsStmtInside
keeps_change tokens kept (stmt.Select select) s k = elim s [ ]
keeps_change tokens None (stmt.Insert insert) s k = k
keeps_change tokens (Some kept) (stmt.Insert insert) s k = k
keeps_change tokens None (stmt.Update update) s k = k
keeps_change tokens (Some kept) (stmt.Update update) s k = k
keeps_change tokens None (stmt.Delete filter) s k = k
keeps_change tokens (Some kept) (stmt.Delete filter) s k = k
keeps_change tokens None (stmt.Restore filter) s k = k
keeps_change tokens (Some kept) (stmt.Restore filter) s k = k
keeps_change tokens None (stmt.Purge filter) s k = k
keeps_change tokens (Some kept) (stmt.Purge filter) s k = k

module _ (lexemes left : List Lexeme) where
  -- a change is taken as a statement, where SELECT does not come first
  pub change_takes : (r : Result (Option Stmt) ReadFault) → is_some (after (Word (codes "select")) lexemes) ≡ false → TakesInside IsChangeInside r left (change_of lexemes) → TakesInside IsStmtInside r left (form_of lexemes)
  change_takes (Ok kept) none t = record {
    tree = t.tree;
    reads = form_of-test lexemes false none ∙ t.reads;
    keeps = keeps_change (change_sound lexemes left t.tree t.reads).front kept t.tree (change_sound lexemes left t.tree t.reads).spelled t.keeps;
  }
  change_takes (Err fault.Unread) none t = form_of-test lexemes false none ∙ t
  change_takes (Err fault.Memory) none t = tt

  module _ (found : is_some (after (Word (codes "select")) lexemes) ≡ true) where
    -- a SELECT is taken as a statement
    pub selection_took : (kept : Option Select) → Took IsSelectInside kept left (select_of lexemes) → Took IsStmtInside (option_map stmt.Select kept) left (form_of lexemes)
    unfolding IsStmtInside
    selection_took kept t = record {
      tree = stmt.Select t.tree;
      reads = form_of-test lexemes true found ∙ ap (option_and_then (λ (select : Select × List Lexeme). Some (stmt.Select select.0, select.1))) t.reads;
      keeps = keeps_map IsSelectInside IsStmtInside stmt.Select (λ select is. is) (λ select is. is) kept t.tree t.keeps;
    }

    -- why a SELECT fails
    pub selection_fails : (e : ReadFault) → Fails e (select_of lexemes) → Fails e (form_of lexemes)
    selection_fails e f = rw (form_of-test lexemes true found) (fails_bind e (select_of lexemes) (λ (select : Select × List Lexeme). Some (stmt.Select select.0, select.1)) f)
