-- The commands of the administrator, over the tokens of a text.
use Rattle.std.specs.Prelude.{◌≡◌, ℕ, ◌≤◌, false, List, [], ◌∷◌, ◌++◌, codes, decimal}
use Rattle.mt_lexer.specs.Tokens.{Lexeme, Word, Number, Sign}
use Rattle.mt_lexer.specs.declared.token.Symbol.TheVariants.{Open, Close, Comma}
use Rattle.mt_tree.specs.declared.command.AdminCmd.{AdminCmd}
use Rattle.mt_tree.specs.declared.command.AdminCmd.TheVariants.{CreateTable, CreateExtension, CreateTenant, Extend, SetQuota, Advise, ShowFold, Refold, Step, Explain}
use Rattle.mt_tree.specs.declared.command.Def.{Def}
use Rattle.mt_tree.specs.declared.command.DefKind.{DefKind}
use Rattle.mt_tree.specs.declared.command.DefKind.TheVariants.{Integer, Varchar}
use Rattle.mt_tree.specs.declared.command.FoldText.{FoldText}
use Rattle.mt_tree.specs.declared.command.ChunkText.{ChunkText}
use Rattle.mt_reader.specs.Forms.{Commas, Bracketed, Behind, Parts, MaybeList, Flag, word}
use Rattle.mt_reader.specs.Names.{IsName, SpellsNames}
use Rattle.mt_statements.specs.Query.{SpellsSelect}

-- INTEGER | VARCHAR '(' number ')'
abbrev pub SpellsKind : List Lexeme → DefKind → Type 0
SpellsKind tokens Integer = tokens ≡ word (codes "integer")
SpellsKind tokens (Varchar size) = tokens ≡ Word (codes "varchar") ∷ Sign Open ∷ Number size ∷ Sign Close ∷ []

-- NOT NULL
abbrev pub not_null : List Lexeme
not_null = Word (codes "not") ∷ Word (codes "null") ∷ []

-- name kind [NOT NULL]
abbrev pub SpellsDef : List Lexeme → Def → Type 0
SpellsDef tokens def = Parts (λ front. IsName front def.name) (Parts (λ front. SpellsKind front def.kind) (λ back. Flag not_null back def.not_null)) tokens

-- name kind, in an extension
abbrev pub SpellsExtensionDef : List Lexeme → Def → Type 0
SpellsExtensionDef tokens def = Parts (λ front. IsName front def.name) (λ back. SpellsKind back def.kind) tokens × (def.not_null ≡ false)

-- ',' PRIMARY KEY '(' names ')'
abbrev pub SpellsPrimaryKey : List Lexeme → List (List ℕ) → Type 0
SpellsPrimaryKey tokens key = Behind (Sign Comma ∷ Word (codes "primary") ∷ Word (codes "key") ∷ []) SpellsNames tokens key

-- CREATE TABLE name '(' def {',' def} [',' PRIMARY KEY '(' names ')'] ')'
pub record SpellsTable (tokens : List Lexeme) (name : List ℕ) (columns : List Def) (key : List (List ℕ)) : Type 0 where
  pub table : List Lexeme
  pub defs : List Lexeme
  pub primary : List Lexeme
  pub spelling : tokens ≡ Word (codes "create") ∷ Word (codes "table") ∷ (table ++ Sign Open ∷ (defs ++ primary ++ Sign Close ∷ []))
  pub is_table : IsName table name
  pub are_defs : Commas SpellsDef defs columns
  pub is_primary : MaybeList SpellsPrimaryKey primary key

-- CREATE EXTENSION name ON name '(' name kind {',' name kind} ')'
pub record SpellsExtension (tokens : List Lexeme) (name base : List ℕ) (columns : List Def) : Type 0 where
  pub extension : List Lexeme
  pub table : List Lexeme
  pub defs : List Lexeme
  pub spelling : tokens ≡ Word (codes "create") ∷ Word (codes "extension") ∷ (extension ++ Word (codes "on") ∷ (table ++ defs))
  pub is_extension : IsName extension name
  pub is_table : IsName table base
  pub are_defs : Bracketed (Commas SpellsExtensionDef) defs columns

-- C1 | C2 | C3 | C4 | C5 | C6
abbrev pub IsShape : List ℕ → ℕ → Type 0
IsShape name shape = (1 ≤ shape) × (shape ≤ 6) × (name ≡ codes "c" ++ decimal shape)

-- (C1 | .. | C6) '(' names ')'
pub record SpellsChunk (tokens : List Lexeme) (chunk : ChunkText) : Type 0 where
  pub shape : List ℕ
  pub columns : List Lexeme
  pub spelling : tokens ≡ Word shape ∷ columns
  pub is_shape : IsShape shape chunk.shape
  pub are_columns : SpellsNames columns chunk.columns

-- CONV '(' names ')'
abbrev pub SpellsConv : List Lexeme → List (List ℕ) → Type 0
SpellsConv tokens conv = Behind (word (codes "conv")) SpellsNames tokens conv

-- {',' chunk}
abbrev pub SpellsChunks : List Lexeme → List ChunkText → Type 0
SpellsChunks tokens [] = tokens ≡ []
SpellsChunks tokens (chunk ∷ chunks) = Behind (Sign Comma ∷ []) (Commas SpellsChunk) tokens (chunk ∷ chunks)

-- CONV '(' names ')' {',' chunk} | chunk {',' chunk}
abbrev pub SpellsFold : List Lexeme → List (List ℕ) → List ChunkText → Type 0
SpellsFold tokens [] chunks = Commas SpellsChunk tokens chunks
SpellsFold tokens (name ∷ names) chunks = Parts (λ front. SpellsConv front (name ∷ names)) (λ back. SpellsChunks back chunks) tokens

-- REFOLD number name TO fold
pub record SpellsRefold (tokens : List Lexeme) (tenant : ℕ) (table : List ℕ) (fold : FoldText) : Type 0 where
  pub name : List Lexeme
  pub chunks : List Lexeme
  pub spelling : tokens ≡ Word (codes "refold") ∷ Number tenant ∷ (name ++ Word (codes "to") ∷ chunks)
  pub is_name : IsName name table
  pub is_fold : SpellsFold chunks fold.conv fold.chunks

-- STEP number name number
pub record SpellsStep (tokens : List Lexeme) (tenant : ℕ) (table : List ℕ) (rows : ℕ) : Type 0 where
  pub name : List Lexeme
  pub spelling : tokens ≡ Word (codes "step") ∷ Number tenant ∷ (name ++ Number rows ∷ [])
  pub is_name : IsName name table

-- a command, by its first words
abbrev pub SpellsCommand : List Lexeme → AdminCmd → Type 0
SpellsCommand tokens (CreateTable name columns key) = SpellsTable tokens name columns key
SpellsCommand tokens (CreateExtension name base columns) = SpellsExtension tokens name base columns
SpellsCommand tokens (CreateTenant tenant quota) = tokens ≡ Word (codes "create") ∷ Word (codes "tenant") ∷ Number tenant ∷ Word (codes "quota") ∷ Number quota ∷ []
SpellsCommand tokens (Extend tenant extension) = Behind (Word (codes "extend") ∷ Number tenant ∷ Word (codes "with") ∷ []) IsName tokens extension
SpellsCommand tokens (SetQuota tenant quota) = tokens ≡ Word (codes "set") ∷ Word (codes "quota") ∷ Number tenant ∷ Word (codes "to") ∷ Number quota ∷ []
SpellsCommand tokens (Advise tenant table) = Behind (Word (codes "advise") ∷ Number tenant ∷ []) IsName tokens table
SpellsCommand tokens (ShowFold tenant table) = Behind (Word (codes "show") ∷ Word (codes "fold") ∷ Number tenant ∷ []) IsName tokens table
SpellsCommand tokens (Refold tenant table fold) = SpellsRefold tokens tenant table fold
SpellsCommand tokens (Step tenant table rows) = SpellsStep tokens tenant table rows
SpellsCommand tokens (Explain tenant select) = Behind (Word (codes "explain") ∷ Number tenant ∷ []) SpellsSelect tokens select
