-- The statements that change rows, over the tokens of a text.
use Rattle.std.specs.Prelude.{◌≡◌, ◌≤◌, List, [], ◌∷◌, ◌++◌, length, codes}
use Rattle.mt_lexer.specs.Tokens.{Lexeme, Word, Sign}
use Rattle.mt_lexer.specs.declared.token.Symbol.TheVariants.{Equal}
use Rattle.mt_tree.specs.declared.expression.Literal.{Literal}
use Rattle.mt_tree.specs.declared.statement.Stmt.{Stmt}
use Rattle.mt_tree.specs.declared.statement.Stmt.TheVariants as stmt
use Rattle.mt_tree.specs.declared.statement.Insert.{Insert}
use Rattle.mt_tree.specs.declared.statement.Update.{Update}
use Rattle.mt_tree.specs.declared.statement.SetItem.{SetItem}
use Rattle.mt_tree.specs.declared.statement.Filter.{Filter}
use Rattle.mt_reader.specs.Forms.{Commas, Bracketed, Behind, Parts, MaybeList, word}
use Rattle.mt_reader.specs.Literals.{SpellsLiteral}
use Rattle.mt_reader.specs.Names.{IsName, SpellsNames}
use Rattle.mt_terms.specs.Expression.{SpellsExpr}
use Rattle.mt_terms.specs.Condition.{SpellsWhere}

-- '(' literal {',' literal} ')'
abbrev pub SpellsTuple : List Lexeme → List Literal → Type 0
SpellsTuple tokens tuple = Bracketed (Commas SpellsLiteral) tokens tuple

-- INSERT INTO name ['(' name {',' name} ')'] VALUES tuple {',' tuple}, of at most 1,000 tuples
pub record SpellsInsert (tokens : List Lexeme) (insert : Insert) : Type 0 where
  pub table : List Lexeme
  pub columns : List Lexeme
  pub tuples : List Lexeme
  pub spelling : tokens ≡ Word (codes "insert") ∷ Word (codes "into") ∷ (table ++ columns ++ Word (codes "values") ∷ tuples)
  pub is_table : IsName table insert.table
  pub are_columns : MaybeList SpellsNames columns insert.columns
  pub are_tuples : Commas SpellsTuple tuples insert.tuples
  pub few : length insert.tuples ≤ 1000

-- name '=' expr
abbrev pub SpellsSet : List Lexeme → SetItem → Type 0
SpellsSet tokens item = Parts (λ front. IsName front item.column) (λ back. Behind (Sign Equal ∷ []) SpellsExpr back item.expr) tokens

-- UPDATE name SET name '=' expr {',' name '=' expr} [WHERE cond]
pub record SpellsUpdate (tokens : List Lexeme) (update : Update) : Type 0 where
  pub table : List Lexeme
  pub sets : List Lexeme
  pub condition : List Lexeme
  pub spelling : tokens ≡ Word (codes "update") ∷ (table ++ Word (codes "set") ∷ (sets ++ condition))
  pub is_table : IsName table update.table
  pub are_sets : Commas SpellsSet sets update.sets
  pub is_condition : SpellsWhere condition update.cond

-- name [WHERE cond]
abbrev pub SpellsFilter : List Lexeme → Filter → Type 0
SpellsFilter tokens filter = Parts (λ front. IsName front filter.table) (λ back. SpellsWhere back filter.cond) tokens

-- insert | update | DELETE FROM filter | RESTORE filter | PURGE filter
abbrev pub SpellsChange : List Lexeme → Stmt → Type 0
SpellsChange tokens (stmt.Select select) = ⊥
SpellsChange tokens (stmt.Insert insert) = SpellsInsert tokens insert
SpellsChange tokens (stmt.Update update) = SpellsUpdate tokens update
SpellsChange tokens (stmt.Delete filter) = Behind (Word (codes "delete") ∷ Word (codes "from") ∷ []) SpellsFilter tokens filter
SpellsChange tokens (stmt.Restore filter) = Behind (word (codes "restore")) SpellsFilter tokens filter
SpellsChange tokens (stmt.Purge filter) = Behind (word (codes "purge")) SpellsFilter tokens filter
