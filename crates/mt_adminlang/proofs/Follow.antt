-- The commands but EXPLAIN: what is spelled so is read, where nothing follows but perhaps a semicolon.
use Rattle.std.proofs.Common.{◌≡◌, ℕ, false, List, [], ◌∷◌, ◌++◌, Some, None, refl, ap, ◌∙◌, append_assoc, inl, inr}
use Rattle.std.specs.Prelude.{codes}
use Rattle.mt_lexer.specs.declared.token.Symbol.TheVariants as symbol
use Rattle.mt_lexer.specs.Tokens.{Lexeme, Word, Number, Sign}
use Rattle.mt_tree.specs.declared.command.AdminCmd.{AdminCmd}
use Rattle.mt_tree.specs.declared.command.AdminCmd.TheVariants.{CreateTable, CreateExtension, CreateTenant, Extend, SetQuota, Advise, ShowFold, Refold, Step, Explain}
use Rattle.mt_tree.specs.declared.command.Def.{Def}
use Rattle.mt_tree.specs.declared.command.FoldText.{FoldText}
use Rattle.mt_reader.specs.Descent.{after, name_of, number_of, separated_of, bracketed_of}
use Rattle.mt_lexer.specs.Reserved.{is_reserved_name}
use Rattle.mt_reader.proofs.Bracketing.{items_in_brackets_complete}
use Rattle.mt_reader.specs.Fronts.{AtEnd}
use Rattle.mt_reader.proofs.Spelling.{IsCompleteBefore}
use Rattle.mt_adminlang.specs.declared.create.TableBody.{TableBody}
use Rattle.mt_adminlang.specs.Command.{SpellsExtensionDef}
use Rattle.mt_adminlang.specs.Descent.{extension_def_of, body_of, create_table_of, extension_of, tenant_of, create_of, fold_of, extend_of, set_quota_of, advise_of, show_fold_of, refold_of, step_of, plain_command_of}
use Rattle.mt_adminlang.specs.Plain.{SpellsPlainCommand}
use Rattle.mt_adminlang.proofs.Bodies.{body_complete}
use Rattle.mt_adminlang.proofs.Definitions.{extension_def_complete, extension_def_shrinks}
use Rattle.mt_adminlang.proofs.Folds.{NoComma, fold_complete}

-- no comma comes at the end
no_comma_end : (more : List Lexeme) → AtEnd more → NoComma more
unfolding after
no_comma_end more end = elim end [ inl e ↦ rw e refl | inr e ↦ rw e refl ]

-- a CREATE TABLE by its parts is read
table_read : (name : List ℕ) (inner more : List Lexeme) (body : TableBody) → is_reserved_name name ≡ false → body_of inner ≡ Some (body, Sign symbol.Close ∷ more) → plain_command_of (Word (codes "create") ∷ Word (codes "table") ∷ Word name ∷ Sign symbol.Open ∷ inner) ≡ Some (CreateTable name body.columns body.key, more)
unfolding plain_command_of create_of create_table_of after name_of
table_read name inner more body free read = rw (free, read) refl

-- a CREATE EXTENSION by its parts is read
extension_read : (name base : List ℕ) (defs more : List Lexeme) (columns : List Def) → is_reserved_name name ≡ false → is_reserved_name base ≡ false → bracketed_of (separated_of extension_def_of (Sign symbol.Comma)) defs ≡ Some (columns, more) → plain_command_of (Word (codes "create") ∷ Word (codes "extension") ∷ Word name ∷ Word (codes "on") ∷ Word base ∷ defs) ≡ Some (CreateExtension name base columns, more)
unfolding plain_command_of create_of extension_of after name_of
extension_read name base defs more columns free free_base read = rw (free, free_base, read) refl

-- a REFOLD by its parts is read
refold_read : (tenant : ℕ) (name : List ℕ) (inner more : List Lexeme) (fold : FoldText) → is_reserved_name name ≡ false → fold_of inner ≡ Some (fold, more) → plain_command_of (Word (codes "refold") ∷ Number tenant ∷ Word name ∷ Word (codes "to") ∷ inner) ≡ Some (Refold tenant name fold, more)
unfolding plain_command_of refold_of after name_of number_of
refold_read tenant name inner more fold free read = rw (free, read) refl

-- a command but EXPLAIN is read
pub plain_command_follows : IsCompleteBefore SpellsPlainCommand AtEnd plain_command_of
unfolding plain_command_of create_of tenant_of extend_of set_quota_of advise_of show_fold_of step_of after name_of number_of
plain_command_follows front more (CreateTable name columns key) end s =
    let close = Sign symbol.Close ∷ [] in
    let named = ap (λ table. Word (codes "create") ∷ Word (codes "table") ∷ (table ++ Sign symbol.Open ∷ (s.defs ++ s.primary ++ close))) s.is_table.0 in
    let regrouped = append_assoc (s.defs ++ s.primary) close more ∙ append_assoc s.defs s.primary (Sign symbol.Close ∷ more) in
    ap (λ ls. plain_command_of (ls ++ more)) (s.spelling ∙ named)
    ∙ ap (λ ls. plain_command_of (Word (codes "create") ∷ Word (codes "table") ∷ Word name ∷ Sign symbol.Open ∷ ls)) regrouped
    ∙ table_read name (s.defs ++ (s.primary ++ Sign symbol.Close ∷ more)) more (record { columns = columns; key = key }) s.is_table.1 (body_complete s.defs s.primary more columns key s.are_defs s.is_primary)
plain_command_follows front more (CreateExtension name base columns) end s =
    let named = ap (λ extension. Word (codes "create") ∷ Word (codes "extension") ∷ (extension ++ Word (codes "on") ∷ (s.table ++ s.defs))) s.is_extension.0 in
    let based = ap (λ table. Word (codes "create") ∷ Word (codes "extension") ∷ Word name ∷ Word (codes "on") ∷ (table ++ s.defs)) s.is_table.0 in
    let defs = items_in_brackets_complete SpellsExtensionDef extension_def_of (λ _. Unit {0}) (λ _. tt) (λ _. tt) (λ front more tree _ s. extension_def_complete front more tree s) extension_def_shrinks s.defs more columns s.are_defs in
    ap (λ ls. plain_command_of (ls ++ more)) (s.spelling ∙ named ∙ based) ∙ extension_read name base (s.defs ++ more) more columns s.is_extension.1 s.is_table.1 defs
plain_command_follows front more (CreateTenant tenant quota) end s = rw s refl
plain_command_follows front more (Extend tenant extension) end s = rw (s.prefix, s.body.0, s.body.1) refl
plain_command_follows front more (SetQuota tenant quota) end s = rw s refl
plain_command_follows front more (Advise tenant table) end s = rw (s.prefix, s.body.0, s.body.1) refl
plain_command_follows front more (ShowFold tenant table) end s = rw (s.prefix, s.body.0, s.body.1) refl
plain_command_follows front more (Refold tenant table fold) end s =
    let named = ap (λ name. Word (codes "refold") ∷ Number tenant ∷ (name ++ Word (codes "to") ∷ s.chunks)) s.is_name.0 in
    ap (λ ls. plain_command_of (ls ++ more)) (s.spelling ∙ named)
    ∙ refold_read tenant table (s.chunks ++ more) more fold s.is_name.1 (fold_complete s.chunks more fold.conv fold.chunks (no_comma_end more end) s.is_fold)
plain_command_follows front more (Step tenant table rows) end s = rw (s.spelling, s.is_name.0, s.is_name.1) refl
plain_command_follows front more (Explain tenant select) end s = elim s [ ]

-- a command but EXPLAIN does not begin with EXPLAIN
pub plain_begins : (front more : List Lexeme) (command : AdminCmd) → SpellsPlainCommand front command → after (Word (codes "explain")) (front ++ more) ≡ None
unfolding after
plain_begins front more (CreateTable name columns key) s = rw s.spelling refl
plain_begins front more (CreateExtension name base columns) s = rw s.spelling refl
plain_begins front more (CreateTenant tenant quota) s = rw s refl
plain_begins front more (Extend tenant extension) s = rw s.prefix refl
plain_begins front more (SetQuota tenant quota) s = rw s refl
plain_begins front more (Advise tenant table) s = rw s.prefix refl
plain_begins front more (ShowFold tenant table) s = rw s.prefix refl
plain_begins front more (Refold tenant table fold) s = rw s.spelling refl
plain_begins front more (Step tenant table rows) s = rw s.spelling refl
plain_begins front more (Explain tenant select) s = elim s [ ]
