-- SELECT, over the tokens of a text.
use Rattle.std.specs.Prelude.{◌≡◌, ◌⊎◌, ℕ, ◌≤◌, Bool, true, false, List, [], ◌∷◌, ◌++◌, length, Option, Some, None, codes}
use Rattle.mt_lexer.specs.Tokens.{Lexeme, Word, Number, Sign}
use Rattle.mt_lexer.specs.declared.token.Symbol.TheVariants.{Comma, Star}
use Rattle.mt_tree.specs.declared.expression.Cond.{Cond}
use Rattle.mt_tree.specs.declared.statement.Select.{Select}
use Rattle.mt_tree.specs.declared.statement.Item.{Item}
use Rattle.mt_tree.specs.declared.statement.Ref.{Ref}
use Rattle.mt_tree.specs.declared.statement.OrderKey.{OrderKey}
use Rattle.mt_tree.specs.declared.statement.OrderBy.{OrderBy}
use Rattle.mt_tree.specs.declared.statement.OrderBy.TheVariants.{Name, Position}
use Rattle.mt_reader.specs.Forms.{Commas, Behind, Parts, Maybe, MaybeList, Flag, word}
use Rattle.mt_reader.specs.Names.{IsName}
use Rattle.mt_terms.specs.Expression.{SpellsColumn, SpellsExpr}
use Rattle.mt_terms.specs.Condition.{SpellsCond, SpellsWhere}

-- expr [AS name]
abbrev pub SpellsItem : List Lexeme → Item → Type 0
SpellsItem tokens item = Parts (λ front. SpellsExpr front item.expr) (λ back. Maybe (Behind (word (codes "as")) IsName) back item.name) tokens

-- '*' | item {',' item}
abbrev pub SpellsItems : List Lexeme → List Item → Type 0
SpellsItems tokens [] = tokens ≡ Sign Star ∷ []
SpellsItems tokens (x ∷ xs) = Commas SpellsItem tokens (x ∷ xs)

-- [AS] name
abbrev pub SpellsAlias : List Lexeme → List ℕ → Type 0
SpellsAlias tokens name = IsName tokens name ⊎ Behind (word (codes "as")) IsName tokens name

-- name [[AS] name]
abbrev pub SpellsTable : List Lexeme → Ref → Type 0
SpellsTable tokens ref = Parts (λ front. IsName front ref.table) (λ back. Maybe SpellsAlias back ref.alias) tokens

-- ',' ref
abbrev pub SpellsListed : List Lexeme → Ref → Type 0
SpellsListed tokens ref = Behind (Sign Comma ∷ []) SpellsTable tokens ref

-- [INNER] JOIN ref ON cond
abbrev pub SpellsJoined : List Lexeme → Ref → Cond → Type 0
SpellsJoined tokens ref on =
    (inner : Bool) × Parts (λ front. Flag (word (codes "inner")) front inner) (λ back.
    Parts (λ front. Behind (word (codes "join")) SpellsTable front ref) (λ rest. Behind (word (codes "on")) SpellsCond rest on) back) tokens

-- a reference behind the first one, by its condition
abbrev pub SpellsFollowing : List Lexeme → Ref → Option Cond → Type 0
SpellsFollowing tokens ref None = SpellsListed tokens ref
SpellsFollowing tokens ref (Some on) = SpellsJoined tokens ref on

-- {',' ref | [INNER] JOIN ref ON cond}
abbrev pub SpellsMore : List Lexeme → List Ref → Type 0
SpellsMore tokens [] = tokens ≡ []
SpellsMore tokens (ref ∷ refs) = Parts (λ front. SpellsFollowing front ref ref.on) (λ back. SpellsMore back refs) tokens

-- the first reference and those behind it, of at most 4
abbrev pub SpellsRefs : List Lexeme → List Ref → Type 0
SpellsRefs tokens [] = ⊥
SpellsRefs tokens (ref ∷ refs) = (ref.on ≡ None) × (length (ref ∷ refs) ≤ 4) × Parts (λ front. SpellsTable front ref) (λ back. SpellsMore back refs) tokens

-- name | number
abbrev pub SpellsBy : List Lexeme → OrderBy → Type 0
SpellsBy tokens (Name name) = IsName tokens name
SpellsBy tokens (Position n) = tokens ≡ Number n ∷ []

-- [ASC | DESC]
abbrev pub SpellsDirection : List Lexeme → Bool → Type 0
SpellsDirection tokens true = tokens ≡ word (codes "desc")
SpellsDirection tokens false = (tokens ≡ []) ⊎ (tokens ≡ word (codes "asc"))

-- (name | number) [ASC | DESC]
abbrev pub SpellsKey : List Lexeme → OrderKey → Type 0
SpellsKey tokens key = Parts (λ front. SpellsBy front key.by) (λ back. SpellsDirection back key.desc) tokens

-- a number
abbrev pub SpellsNumber : List Lexeme → ℕ → Type 0
SpellsNumber tokens n = tokens ≡ Number n ∷ []

-- The parts of a SELECT, one behind the other.
pub record SpellsSelect (tokens : List Lexeme) (select : Select) : Type 0 where
  pub distinct : List Lexeme
  pub items : List Lexeme
  pub refs : List Lexeme
  pub condition : List Lexeme
  pub group : List Lexeme
  pub having : List Lexeme
  pub order : List Lexeme
  pub limit : List Lexeme
  pub spelling : tokens ≡ Word (codes "select") ∷ (distinct ++ items ++ Word (codes "from") ∷ (refs ++ condition ++ group ++ having ++ order ++ limit))
  pub is_distinct : Flag (word (codes "distinct")) distinct select.distinct
  pub are_items : SpellsItems items select.items
  pub are_refs : SpellsRefs refs select.refs
  pub is_condition : SpellsWhere condition select.cond
  pub is_group : MaybeList (Behind (Word (codes "group") ∷ Word (codes "by") ∷ []) (Commas SpellsColumn)) group select.group
  pub is_having : Maybe (Behind (word (codes "having")) SpellsCond) having select.having
  pub is_order : MaybeList (Behind (Word (codes "order") ∷ Word (codes "by") ∷ []) (Commas SpellsKey)) order select.order
  pub is_limit : Maybe (Behind (word (codes "limit")) SpellsNumber) limit select.limit
