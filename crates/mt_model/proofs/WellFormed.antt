-- A schema step that is read has names: each word of a text is kept in lower case, and so is a word itself.
use Rattle.std.proofs.Common.{◌≡◌, ⊎_elim, ℕ, ◌≤◌, true, IsTrue, List, [], ◌∷◌, ◌++◌, length, map, refl, sym, ap₂, subst, arith}
use Rattle.std.specs.Prelude.{codes, false, slice_index_or}
use Rattle.std.specs.List.{AllByRecursion as Each, AllPass}
use Rattle.std.proofs.lemmas.Bool.Decides.{nat_tests}
use Rattle.std.proofs.lemmas.List.{length-map}
use Rattle.std.proofs.lemmas.List.Elements.{All-from_recursion, All-map}
use Rattle.mt_lexer.specs.declared.token.Token.{Token}
use Rattle.mt_lexer.specs.declared.token.Symbol.TheVariants.{Close, Comma, Open, Semicolon}
use Rattle.mt_lexer.specs.Reserved.{IsNameText}
use Rattle.mt_lexer.specs.Tokens.{Lexeme, Number, Quoted, Sign, Spells, Stand, Word, begins_word, is_in_word, lower}
use Rattle.mt_tree.specs.declared.command.AdminCmd.{AdminCmd}
use Rattle.mt_tree.specs.declared.command.AdminCmd.TheVariants.{CreateTable, CreateExtension}
use Rattle.mt_tree.specs.declared.command.Def.{Def}
use Rattle.mt_reader.specs.Forms.{Commas, Form, WithSemicolon}
use Rattle.mt_reader.specs.Names.{IsName}
use Rattle.mt_reader.specs.Reading.{ReadsAs}
use Rattle.mt_adminlang.specs.Command.{SpellsCommand, SpellsDef, SpellsExtension, SpellsExtensionDef, SpellsTable}
use Rattle.mt_schema.specs.Steps.{IsSchemaStep, IsWellFormed}

-- the lower case of a byte of a word is one too, and stays as it is
lower_begins : (b : ℕ) → begins_word b ≡ true → begins_word (lower b) ≡ true
lower_begins b h = grind (arith, nat_tests)

lower_in_word : (b : ℕ) → is_in_word b ≡ true → is_in_word (lower b) ≡ true
lower_in_word b h = grind (arith, nat_tests)

lower_again : (b : ℕ) → lower b ≡ lower (lower b)
lower_again b = grind (arith, nat_tests)

lowered_again : (bytes : List ℕ) → map lower bytes ≡ map lower (map lower bytes)
lowered_again [] = refl
lowered_again (b ∷ bs) = ap₂ (λ (first : ℕ) (others : List ℕ). first ∷ others) (lower_again b) (lowered_again bs)

-- so a word in lower case spells itself
lowered_spells : (b : ℕ) (bs : List ℕ) → begins_word b ≡ true → AllPass is_in_word bs → length (b ∷ bs) ≤ 30 → Spells (lower b ∷ map lower bs) (Word (lower b ∷ map lower bs))
lowered_spells b bs begins in_word short =
    let size = length-map bs lower in (
      lower_begins b begins,
      All-map (λ c. IsTrue (is_in_word c)) lower bs (λ k d within. lower_in_word (slice_index_or bs k d) (in_word k d within)),
      omega (arith, size, short),
      lowered_again (b ∷ bs),
    )

-- a word that spells itself
abbrev IsKept : Lexeme → Type 0
IsKept (Word name) = Spells name (Word name)
IsKept lexeme = Unit {0}

token_kept : (bytes : List ℕ) (lexeme : Lexeme) → Spells bytes lexeme → IsKept lexeme
token_kept [] (Word name) spells = absurd spells
token_kept (b ∷ bs) (Word name) spells = subst (λ (text : List ℕ). Spells text (Word text)) (sym spells.3) (lowered_spells b bs spells.0 spells.1 spells.2)
token_kept bytes (Number value) spells = tt
token_kept bytes (Quoted text) spells = tt
token_kept bytes (Sign sign) spells = tt

-- each word of a text does
stand_kept : (text : List ℕ) (from : ℕ) (tokens : List Token) (lexemes : List Lexeme) (upto : ℕ) → Stand text from tokens lexemes upto → Each IsKept lexemes
stand_kept text from [] [] upto stand = tt
stand_kept text from (token ∷ tokens) (lexeme ∷ lexemes) upto stand = (token_kept _ lexeme stand.1.spelling, stand_kept text token.upto tokens lexemes upto stand.2)
stand_kept text from [] (lexeme ∷ lexemes) upto stand = absurd stand
stand_kept text from (token ∷ tokens) [] upto stand = absurd stand

-- what holds of each of two lists holds of each of one of them
front_each : {A : Type 0} (P : A → Type 0) (xs ys : List A) → Each P (xs ++ ys) → Each P xs
front_each P [] ys each = tt
front_each P (x ∷ xs) ys each = (each.0, front_each P xs ys each.1)

back_each : {A : Type 0} (P : A → Type 0) (xs ys : List A) → Each P (xs ++ ys) → Each P ys
back_each P [] ys each = each
back_each P (x ∷ xs) ys each = back_each P xs ys each.1

-- a name that is read is one
name_text : (tokens : List Lexeme) (name : List ℕ) → Each IsKept tokens → IsName tokens name → IsNameText name
name_text tokens name kept is = ((subst (Each IsKept) is.0 kept).0, is.1)

-- what holds of each item that is read holds of all with commas between
commas_each : {T : Type 0} (item : Form T) (P : T → Type 0) → ((tokens : List Lexeme) (x : T) → Each IsKept tokens → item tokens x → P x) → (tokens : List Lexeme) (xs : List T) → Each IsKept tokens → Commas item tokens xs → Each P xs
commas_each item P of tokens [] kept commas = absurd commas
commas_each item P of tokens (x ∷ []) kept commas = (of tokens x kept commas, tt)
commas_each item P of tokens (x ∷ y ∷ ys) kept commas =
    let both : Each IsKept (commas.front ++ Sign Comma ∷ commas.back) = subst (Each IsKept) commas.split kept in
    (of commas.front x (front_each IsKept commas.front (Sign Comma ∷ commas.back) both) commas.first, commas_each item P of commas.back (y ∷ ys) (back_each IsKept commas.front (Sign Comma ∷ commas.back) both).1 commas.others)

-- and there is one
commas_some : {T : Type 0} (item : Form T) (tokens : List Lexeme) (xs : List T) → Commas item tokens xs → 1 ≤ length xs
commas_some item tokens [] commas = absurd commas
commas_some item tokens (x ∷ xs) commas = omega arith

def_name : (tokens : List Lexeme) (def : Def) → Each IsKept tokens → SpellsDef tokens def → IsNameText def.name
def_name tokens def kept spells = name_text spells.front def.name (front_each IsKept spells.front spells.back (subst (Each IsKept) spells.split kept)) spells.is_left

extension_def_name : (tokens : List Lexeme) (def : Def) → Each IsKept tokens → SpellsExtensionDef tokens def → IsNameText def.name × (def.not_null ≡ false)
extension_def_name tokens def kept spells = (name_text spells.0.front def.name (front_each IsKept spells.0.front spells.0.back (subst (Each IsKept) spells.0.split kept)) spells.0.is_left, spells.1)

-- CREATE TABLE
table_formed : (tokens : List Lexeme) (name : List ℕ) (columns : List Def) (key : List (List ℕ)) → Each IsKept tokens → SpellsTable tokens name columns key → IsWellFormed (CreateTable name columns key)
table_formed tokens name columns key kept spells =
    let behind : List Lexeme = spells.defs ++ spells.primary ++ Sign Close ∷ [] in
    let body : Each IsKept (spells.table ++ Sign Open ∷ behind) = (subst (Each IsKept) spells.spelling kept).1.1 in
    let defs : Each IsKept behind = (back_each IsKept spells.table (Sign Open ∷ behind) body).1 in (
      name_text spells.table name (front_each IsKept spells.table (Sign Open ∷ behind) body) spells.is_table,
      commas_some SpellsDef spells.defs columns spells.are_defs,
      All-from_recursion (λ def. IsNameText def.name) columns
          (commas_each SpellsDef (λ def. IsNameText def.name) def_name spells.defs columns (front_each IsKept spells.defs spells.primary (front_each IsKept (spells.defs ++ spells.primary) (Sign Close ∷ []) defs)) spells.are_defs),
    )

-- CREATE EXTENSION
extension_formed : (tokens : List Lexeme) (name base : List ℕ) (columns : List Def) → Each IsKept tokens → SpellsExtension tokens name base columns → IsWellFormed (CreateExtension name base columns)
extension_formed tokens name base columns kept spells =
    let behind : List Lexeme = spells.table ++ spells.defs in
    let body : Each IsKept (spells.extension ++ Word (codes "on") ∷ behind) = (subst (Each IsKept) spells.spelling kept).1.1 in
    let defs : Each IsKept spells.defs = back_each IsKept spells.table spells.defs (back_each IsKept spells.extension (Word (codes "on") ∷ behind) body).1 in
    let inner : List Lexeme = spells.are_defs.inner in
    let between : Each IsKept inner = front_each IsKept inner (Sign Close ∷ []) (subst (Each IsKept) spells.are_defs.brackets defs).1 in (
      name_text spells.extension name (front_each IsKept spells.extension (Word (codes "on") ∷ behind) body) spells.is_extension,
      commas_some SpellsExtensionDef inner columns spells.are_defs.body,
      All-from_recursion (λ def. IsNameText def.name × (def.not_null ≡ false)) columns
          (commas_each SpellsExtensionDef (λ def. IsNameText def.name × (def.not_null ≡ false)) extension_def_name inner columns between spells.are_defs.body),
    )

command_formed : (tokens : List Lexeme) (command : AdminCmd) → Each IsKept tokens → SpellsCommand tokens command → IsSchemaStep command → IsWellFormed command
command_formed tokens (CreateTable name columns key) kept spells step = table_formed tokens name columns key kept spells
command_formed tokens (CreateExtension name base columns) kept spells step = extension_formed tokens name base columns kept spells
command_formed tokens command kept spells step = step

-- a command that is read
pub read_formed : (text : List ℕ) (command : AdminCmd) → ReadsAs SpellsCommand text command → IsSchemaStep command → IsWellFormed command
read_formed text command reads step =
    let whole : WithSemicolon SpellsCommand reads.lexemes command = reads.spelled in
    let kept : Each IsKept reads.lexemes = stand_kept text 0 reads.tokens reads.lexemes reads.says.upto reads.says.stand in
    let front : Each IsKept whole.front =
    ⊎_elim (λ (same : reads.lexemes ≡ whole.front). subst (Each IsKept) same kept)
    (λ (ended : reads.lexemes ≡ whole.front ++ Sign Semicolon ∷ []). front_each IsKept whole.front (Sign Semicolon ∷ []) (subst (Each IsKept) ended kept)) whole.end in
    command_formed whole.front command front whole.body step
