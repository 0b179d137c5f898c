-- What is printed of a statement that has a reading reads as the same tree.
use Rattle.std.proofs.Common.{◌≡◌, ℕ, Result, Ok, Err, IfOk, All, List, [], ◌∷◌, ◌++◌, length, refl, sym, subst, inl, inr}
use Rattle.std.proofs.lemmas.List.Elements.{All-take}
use Rattle.std.proofs.Math.Seq.{take-append_seam}
use Rattle.mt_lexer.specs.declared.token.Symbol.TheVariants as symbol
use Rattle.mt_lexer.specs.Tokens.{Lexeme, Sign}
use Rattle.mt_tree.specs.declared.statement.Stmt.{Stmt}
use Rattle.mt_tree.specs.declared.statement.Stmt.TheVariants as stmt
use Rattle.mt_reader.specs.Forms.{WithSemicolon}
use Rattle.mt_reader.specs.Reading.{ReadsAs}
use Rattle.mt_show.specs.Text.{IsWritten}
use Rattle.mt_show.specs.Statements.{statement_tokens, statement_text}
use Rattle.mt_grammar.specs.Statement.{SpellsStmt}
use Rattle.mt_show.proofs.ShownChanges.{change_shows}
use Rattle.mt_show.proofs.ShownSelect.{select_shows}
use Rattle.mt_show.proofs.Standing.{printed_says, says_written}

-- the tokens in front of a semicolon can be written, as all can
front_written : (lexemes : List Lexeme) (statement : Stmt) (s : WithSemicolon SpellsStmt lexemes statement) → All IsWritten lexemes → All IsWritten s.front
front_written lexemes statement s all = elim s.end [
  | inl e ↦ subst (All IsWritten) e all
  | inr e ↦ subst (All IsWritten) (take-append_seam s.front (Sign symbol.Semicolon ∷ [])) (All-take IsWritten (length s.front) (s.front ++ Sign symbol.Semicolon ∷ []) (subst (All IsWritten) e all))
]

-- the tokens of a statement spell it, and can be written
spelled_again : (tokens : List Lexeme) (statement : Stmt) → All IsWritten tokens → SpellsStmt tokens statement → SpellsStmt (statement_tokens statement) statement × All IsWritten (statement_tokens statement)
unfolding SpellsStmt
spelled_again tokens (stmt.Select select) w s = select_shows select tokens w s
spelled_again tokens (stmt.Insert insert) w s = change_shows (stmt.Insert insert) tokens w s
spelled_again tokens (stmt.Update update) w s = change_shows (stmt.Update update) tokens w s
spelled_again tokens (stmt.Delete filter) w s = change_shows (stmt.Delete filter) tokens w s
spelled_again tokens (stmt.Restore filter) w s = change_shows (stmt.Restore filter) tokens w s
spelled_again tokens (stmt.Purge filter) w s = change_shows (stmt.Purge filter) tokens w s

-- the text of a statement reads as it
reads_again : (statement : Stmt) (text : List ℕ) → ReadsAs SpellsStmt text statement → ReadsAs SpellsStmt (statement_text statement) statement
reads_again statement text r =
    let w = front_written r.lexemes statement r.spelled (says_written text r.tokens r.lexemes r.says) in
    let again = spelled_again r.spelled.front statement w r.spelled.body in
    let said = printed_says (statement_tokens statement) again.1 in
    record {
      tokens = said.0;
      lexemes = statement_tokens statement;
      says = said.1;
      spelled = record { front = statement_tokens statement; end = inl refl; body = again.0 };
    }

-- what is printed is that text
pub shows_again : {E : Type 0} (statement : Stmt) (r : Result (List ℕ) E) → IfOk r (λ shown. shown ≡ statement_text statement) → IfOk r (λ shown. (text : List ℕ) → ReadsAs SpellsStmt text statement → ReadsAs SpellsStmt shown statement)
shows_again statement (Ok shown) e = λ text r. subst (λ (t : List ℕ). ReadsAs SpellsStmt t statement) (sym e) (reads_again statement text r)
shows_again statement (Err x) e = tt
