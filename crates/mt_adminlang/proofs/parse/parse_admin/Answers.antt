-- The lexemes of the text decide.
use Rattle.std.proofs.Common.{◌∙◌, ap, map}
use Rattle.std.proofs.lemmas.Result.{err_from_is_err_and}
use Rattle.mt_reader.specs.Descent.{ended}
use Rattle.mt_reader.specs.Pieces.{lexeme_at}
use Rattle.mt_reader.proofs.Lexemes.{tokens_say}
use Rattle.mt_reader.proofs.Texts.{gives_answer, gives_fault}
use Rattle.mt_adminlang.specs.Command.{SpellsCommand}
use Rattle.mt_adminlang.specs.Descent.{command_of}
use Rattle.mt_adminlang.specs.Inside.{IsCommandInside}
use Rattle.mt_adminlang.proofs.Explained.{whole_sound, whole_complete}
use Rattle.mt_adminlang.proofs.parse.parse_admin.Goals as goal

pub returns-in_err-found : goal.returns-in_err-found
returns-in_err-found c =
    let p = err_from_is_err_and c.from_residual.result c.from_residual.ensures.1 in
    rw p.1 (gives_fault SpellsCommand IsCommandInside c.args.text.now c.in_err-found.field-0.0 p.0 p.2 c.in_err-found.ensures.bad)

pub new-requires : goal.new-requires
new-requires c =
    let says = c.in_ok-found.ensures.ok in
    rw c.as_slice.ensures (tokens_say c.args.text.now c.in_ok-found.found says.0 says.1).0

pub returns : goal.returns
returns c =
    let text = c.args.text.now in
    let says = c.in_ok-found.ensures.ok in
    gives_answer SpellsCommand (λ lexemes. ended (command_of lexemes)) whole_complete IsCommandInside whole_sound
    text c.in_ok-found.found says.0 c.new.result c.whole.result says.1 (c.new.ensures ∙ ap (map (lexeme_at text)) c.as_slice.ensures) c.whole.ensures
