-- All commands, EXPLAIN among them: what is read is spelled so, and what is spelled so is read.
use Rattle.std.proofs.Common.{◌≡◌, Some, List, ◌∷◌, ◌++◌, refl, ap, ◌∙◌, subst}
use Rattle.std.specs.Option.{option_and_then}
use Rattle.std.specs.Prelude.{codes}
use Rattle.mt_lexer.specs.Tokens.{Lexeme, Word, Number}
use Rattle.mt_tree.specs.declared.command.AdminCmd.{AdminCmd}
use Rattle.mt_tree.specs.declared.command.AdminCmd.TheVariants.{CreateTable, CreateExtension, CreateTenant, Extend, SetQuota, Advise, ShowFold, Refold, Step, Explain}
use Rattle.mt_tree.specs.declared.statement.Select.{Select}
use Rattle.mt_reader.specs.Descent.{after, either, number_of, ended}
use Rattle.mt_reader.specs.Forms.{WithSemicolon}
use Rattle.mt_reader.specs.Fronts.{AtEnd, Begins}
use Rattle.mt_reader.proofs.Shrinking.{bind_some, same_tree, same_rest}
use Rattle.mt_reader.proofs.Spelling.{IsSound, IsCompleteBefore, after_is, number_is, ended_sound, ended_complete}
use Rattle.mt_statements.specs.QueryDescent.{select_of}
use Rattle.mt_statements.proofs.Selects.{select_sound, select_follows}
use Rattle.mt_adminlang.specs.Command.{SpellsCommand}
use Rattle.mt_adminlang.specs.Descent.{explain_of, plain_command_of, command_of}
use Rattle.mt_adminlang.specs.Plain.{SpellsPlainCommand}
use Rattle.mt_adminlang.proofs.Commands.{plain_command_sound}
use Rattle.mt_adminlang.proofs.Follow.{plain_command_follows, plain_begins}
use Rattle.mt_reader.proofs.Eithers.{either_some}

-- a command that is no EXPLAIN is a command
plain_is : (tokens : List Lexeme) (command : AdminCmd) → SpellsPlainCommand tokens command → SpellsCommand tokens command
plain_is tokens (CreateTable name columns key) s = s
plain_is tokens (CreateExtension name base columns) s = s
plain_is tokens (CreateTenant tenant quota) s = s
plain_is tokens (Extend tenant extension) s = s
plain_is tokens (SetQuota tenant quota) s = s
plain_is tokens (Advise tenant table) s = s
plain_is tokens (ShowFold tenant table) s = s
plain_is tokens (Refold tenant table fold) s = s
plain_is tokens (Step tenant table rows) s = s
plain_is tokens (Explain tenant select) s = elim s [ ]

-- what is read behind EXPLAIN is spelled so
explain_sound : (lexemes left rest : List Lexeme) (command : AdminCmd) → lexemes ≡ Word (codes "explain") ∷ left → explain_of left ≡ Some (command, rest) → Begins SpellsCommand lexemes rest command
unfolding explain_of
explain_sound lexemes left rest command h e =
    let a = bind_some (number_of left) _ (command, rest) e in
    let b = bind_some (select_of a.0.1) _ (command, rest) a.2 in
    let s = select_sound a.0.1 b.0.1 b.0.0 b.1 in
    let front = Word (codes "explain") ∷ Number a.0.0 ∷ s.front in
    record {
      front = front;
      whole = h ∙ ap (λ ls. Word (codes "explain") ∷ ls) (number_is left a.0.1 a.0.0 a.1 ∙ ap (λ ls. Number a.0.0 ∷ ls) (s.whole ∙ ap (λ ls. s.front ++ ls) (same_rest b.2)));
      spelled = subst (SpellsCommand front) (same_tree b.2) (record { inner = s.front; prefix = refl; body = s.spelled });
    }

-- what is read as a command is one
command_sound : IsSound SpellsCommand command_of
unfolding command_of
command_sound lexemes rest command e =
    either_some (after (Word (codes "explain")) lexemes) explain_of (plain_command_of lexemes) (command, rest)
    (λ left a e. explain_sound lexemes left rest command (after_is _ lexemes left a) e)
    (λ e. let s = plain_command_sound lexemes rest command e in record { front = s.front; whole = s.whole; spelled = plain_is s.front command s.spelled }) e

-- an EXPLAIN is read
explain_complete : (inner more : List Lexeme) (tenant : _) (select : Select) → select_of (inner ++ more) ≡ Some (select, more) → command_of (Word (codes "explain") ∷ Number tenant ∷ (inner ++ more)) ≡ Some (Explain tenant select, more)
unfolding command_of explain_of after number_of
explain_complete inner more tenant select read = ap (option_and_then (λ (select : Select × List Lexeme). Some (Explain tenant select.0, select.1))) read

-- so is any other command
plain_complete : (front more : List Lexeme) (command : AdminCmd) → AtEnd more → SpellsPlainCommand front command → command_of (front ++ more) ≡ Some (command, more)
unfolding command_of
plain_complete front more command end s =
    ap (λ found. either found explain_of (plain_command_of (front ++ more))) (plain_begins front more command s) ∙ plain_command_follows front more command end s

-- a command is read, where nothing but a semicolon follows
command_follows : IsCompleteBefore SpellsCommand AtEnd command_of
command_follows front more (CreateTable name columns key) end s = plain_complete front more (CreateTable name columns key) end s
command_follows front more (CreateExtension name base columns) end s = plain_complete front more (CreateExtension name base columns) end s
command_follows front more (CreateTenant tenant quota) end s = plain_complete front more (CreateTenant tenant quota) end s
command_follows front more (Extend tenant extension) end s = plain_complete front more (Extend tenant extension) end s
command_follows front more (SetQuota tenant quota) end s = plain_complete front more (SetQuota tenant quota) end s
command_follows front more (Advise tenant table) end s = plain_complete front more (Advise tenant table) end s
command_follows front more (ShowFold tenant table) end s = plain_complete front more (ShowFold tenant table) end s
command_follows front more (Refold tenant table fold) end s = plain_complete front more (Refold tenant table fold) end s
command_follows front more (Step tenant table rows) end s = plain_complete front more (Step tenant table rows) end s
command_follows front more (Explain tenant select) end s =
    ap (λ ls. command_of (ls ++ more)) s.prefix ∙ explain_complete s.inner more tenant select (select_follows s.inner more select end s.body)

-- what is read whole is a command
pub whole_sound : (lexemes : List Lexeme) (command : AdminCmd) → ended (command_of lexemes) ≡ Some command → WithSemicolon SpellsCommand lexemes command
whole_sound lexemes command e = ended_sound SpellsCommand command_of command_sound lexemes command e

-- a command is read whole
pub whole_complete : (lexemes : List Lexeme) (command : AdminCmd) → WithSemicolon SpellsCommand lexemes command → ended (command_of lexemes) ≡ Some command
whole_complete lexemes command s = ended_complete SpellsCommand command_of command_follows lexemes command s
