-- The lexemes of the text decide.
use Rattle.std.proofs.Common.{◌∙◌, ap, map}
use Rattle.std.proofs.lemmas.Result.{err_from_is_err_and}
use Rattle.mt_reader.specs.Pieces.{lexeme_at}
use Rattle.mt_reader.proofs.Lexemes.{tokens_say}
use Rattle.mt_reader.proofs.Texts.{gives_answer, gives_fault}
use Rattle.mt_grammar.specs.Descent.{statement_of}
use Rattle.mt_grammar.specs.Statement.{SpellsStmt, IsStmtInside}
use Rattle.mt_grammar.proofs.Statements.{statement_sound, statement_complete}
use Rattle.mt_grammar.proofs.statement.parse.Goals as goal

pub returns-in_err-found : goal.returns-in_err-found
returns-in_err-found c =
    let p = err_from_is_err_and c.from_residual.result c.from_residual.ensures.1 in
    rw p.1 (gives_fault SpellsStmt IsStmtInside c.args.text.now c.in_err-found.field-0.0 p.0 p.2 c.in_err-found.ensures.bad)

pub new-requires : goal.new-requires
new-requires c =
    let says = c.in_ok-found.ensures.ok in
    rw c.as_slice.ensures (tokens_say c.args.text.now c.in_ok-found.found says.0 says.1).0

pub returns : goal.returns
returns c =
    let text = c.args.text.now in
    let says = c.in_ok-found.ensures.ok in
    gives_answer SpellsStmt statement_of statement_complete IsStmtInside statement_sound text c.in_ok-found.found says.0 c.new.result c.statement.result says.1
    (c.new.ensures ∙ ap (map (lexeme_at text)) c.as_slice.ensures) c.statement.ensures
