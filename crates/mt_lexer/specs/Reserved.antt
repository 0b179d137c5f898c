-- Words that have a meaning of their own.
use Rattle.std.specs.Prelude.{◌≡◌, ℕ, Bool, false, List, [], ◌∷◌, codes}
use Rattle.std.specs.List.{list_any}
use Rattle.std.specs.Str.{bytes_eq}
use Rattle.mt_lexer.specs.Tokens.{Word, Spells}

-- the reserved words, which are no names
unfoldable pub reserved : List (List ℕ)
reserved =
    codes "and" ∷ codes "as" ∷ codes "asc" ∷ codes "begin" ∷ codes "between" ∷ codes "by" ∷ codes "commit"
    ∷ codes "count" ∷ codes "date" ∷ codes "delete" ∷ codes "desc" ∷ codes "distinct" ∷ codes "from"
    ∷ codes "group" ∷ codes "having" ∷ codes "in" ∷ codes "inner" ∷ codes "insert" ∷ codes "integer"
    ∷ codes "into" ∷ codes "is" ∷ codes "join" ∷ codes "key" ∷ codes "like" ∷ codes "limit" ∷ codes "max"
    ∷ codes "min" ∷ codes "not" ∷ codes "null" ∷ codes "on" ∷ codes "or" ∷ codes "order" ∷ codes "primary"
    ∷ codes "purge" ∷ codes "restore" ∷ codes "rollback" ∷ codes "select" ∷ codes "set" ∷ codes "sum"
    ∷ codes "update" ∷ codes "values" ∷ codes "varchar" ∷ codes "where" ∷ []

-- whether a word in lower case is reserved
abbrev pub is_reserved_name : List ℕ → Bool
is_reserved_name name = list_any (bytes_eq name) reserved

-- a name as trees keep it: a word that spells itself, and so is in lower case, and is not reserved
abbrev pub IsNameText : List ℕ → Type 0
IsNameText text = Spells text (Word text) × (is_reserved_name text ≡ false)
