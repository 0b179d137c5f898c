-- The parts of statements are shown by tokens that spell them.
use Rattle.std.proofs.Common.{◌≡◌, ℕ, true, false, Some, None, List, [], ◌∷◌, map, refl, inl, inr, flat_map, codes}
use Rattle.std.proofs.lemmas.List.Elements.{All-nil, All-append}
use Rattle.mt_lexer.specs.Tokens.{Lexeme, Word, Number, Sign}
use Rattle.mt_lexer.specs.declared.token.Symbol.TheVariants as symbol
use Rattle.mt_tree.specs.declared.statement.Ref.{Ref}
use Rattle.mt_tree.specs.declared.statement.OrderBy.TheVariants.{Name, Position}
use Rattle.mt_reader.specs.Forms.{Form, Commas, Behind, Maybe, MaybeList, word}
use Rattle.mt_reader.specs.Names.{IsName}
use Rattle.mt_terms.specs.Expression.{SpellsColumn}
use Rattle.mt_terms.specs.Condition.{SpellsCond}
use Rattle.mt_statements.specs.Query.{SpellsItem, SpellsItems, SpellsAlias, SpellsTable, SpellsFollowing, SpellsMore, SpellsRefs, SpellsBy, SpellsDirection, SpellsKey, SpellsNumber}
use Rattle.mt_show.specs.Text.{IsWritten}
use Rattle.mt_show.specs.Shown.{column_tokens, cond_tokens, expr_tokens, flag_tokens}
use Rattle.mt_show.specs.Statements.{listed, clause_tokens, as_tokens, item_tokens, items_tokens, table_tokens, following_tokens, refs_tokens, group_tokens, by_tokens, key_tokens, order_tokens, limit_tokens}
use Rattle.mt_show.proofs.ShownForms.{Shows, nothing_gives, All-back, parts_give, behind_shows, separated_shows, written_one}
use Rattle.mt_show.proofs.ShownAtoms.{is_plain, one_word, two_words, word_gives, name_shows, column_shows}
use Rattle.mt_show.proofs.ShownExpressions.{expr_shows}
use Rattle.mt_show.proofs.ShownConditions.{cond_shows}

module _ {T : Type 0} {form : Form T} (shown : T → List Lexeme) (shows : Shows form shown) where
  -- behind one word
  pub word_shows : (name : List ℕ) → is_plain name ≡ true → Shows (Behind (word name) form) (λ tree. Word name ∷ shown tree)
  word_shows name plain = behind_shows shown shows (word name) (one_word name plain)

  -- and behind two
  pub words_shows : (name other : List ℕ) → is_plain name ≡ true → is_plain other ≡ true → Shows (Behind (Word name ∷ Word other ∷ []) form) (λ tree. Word name ∷ Word other ∷ shown tree)
  words_shows name other plain plain_other = behind_shows shown shows (Word name ∷ Word other ∷ []) (two_words name other plain plain_other)

  -- with commas between
  pub commas_show : Shows (Commas form) (λ trees. listed (map shown trees))
  commas_show = separated_shows shown shows (Sign symbol.Comma) tt

-- a condition behind a word, where there is one
pub clause_shows : (name : List ℕ) → is_plain name ≡ true → Shows (Maybe (Behind (word name) SpellsCond)) (clause_tokens name)
clause_shows name plain None = nothing_gives
clause_shows name plain (Some cond) = word_shows cond_tokens cond_shows name plain cond

-- a name behind AS
as_shows : Shows (Behind (word (codes "as")) IsName) (λ name. Word (codes "as") ∷ word name)
as_shows = word_shows word name_shows (codes "as") refl

-- the output name of an item, where there is one
output_shows : Shows (Maybe (Behind (word (codes "as")) IsName)) as_tokens
output_shows None = nothing_gives
output_shows (Some name) = as_shows name

-- an item
item_shows : Shows SpellsItem item_tokens
item_shows item = parts_give (expr_tokens item.expr) (as_tokens item.name) (expr_shows item.expr) (output_shows item.name)

-- items, or a star
pub items_show : Shows SpellsItems items_tokens
items_show [] = λ tokens w s. (refl, written_one (Sign symbol.Star) tt)
items_show (item ∷ items) = commas_show item_tokens item_shows (item ∷ items)

-- an alias, with AS
alias_shows : Shows SpellsAlias (λ name. Word (codes "as") ∷ word name)
alias_shows name tokens w (inl plain) =
    let p = name_shows name tokens w plain in
    (inr (record { inner = word name; prefix = refl; body = p.0 }), All-append IsWritten (word (codes "as")) (word name) (one_word (codes "as") refl) p.1)
alias_shows name tokens w (inr behind) =
    let p = as_shows name tokens w behind in
    (inr p.0, p.1)

-- where there is one
maybe_alias_shows : Shows (Maybe SpellsAlias) as_tokens
maybe_alias_shows None = nothing_gives
maybe_alias_shows (Some name) = alias_shows name

-- a table
table_shows : Shows SpellsTable table_tokens
table_shows ref = parts_give (word ref.table) (as_tokens ref.alias) (name_shows ref.table) (maybe_alias_shows ref.alias)

-- a reference behind the first one
following_shows : (ref : Ref) → Shows (λ tokens. SpellsFollowing tokens ref) (following_tokens ref)
following_shows ref None = behind_shows table_tokens table_shows (Sign symbol.Comma ∷ []) (written_one (Sign symbol.Comma) tt) ref
following_shows ref (Some on) = λ tokens w s.
    let p = parts_give (Word (codes "join") ∷ table_tokens ref) (Word (codes "on") ∷ cond_tokens on) (word_shows table_tokens table_shows (codes "join") refl ref) (word_shows cond_tokens cond_shows (codes "on") refl on) s.1.back (All-back IsWritten tokens s.1.front s.1.back s.1.split w) s.1.is_right in
    ((false, record { front = []; back = following_tokens ref (Some on); split = refl; is_left = refl; is_right = p.0 }), p.1)

-- references behind the first one
more_show : Shows SpellsMore (flat_map (λ ref. following_tokens ref ref.on))
more_show [] = nothing_gives
more_show (ref ∷ refs) = parts_give (following_tokens ref ref.on) (flat_map (λ ref. following_tokens ref ref.on) refs) (following_shows ref ref.on) (more_show refs)

-- references
pub refs_show : Shows SpellsRefs refs_tokens
refs_show [] tokens w s = elim s [ ]
refs_show (ref ∷ refs) tokens w s =
    let p = parts_give (table_tokens ref) (flat_map (λ ref. following_tokens ref ref.on) refs) (table_shows ref) (more_show refs) tokens w s.2 in
    ((s.0, s.1, p.0), p.1)

-- the columns of GROUP BY, where it is written
pub group_shows : Shows (MaybeList (Behind (Word (codes "group") ∷ Word (codes "by") ∷ []) (Commas SpellsColumn))) group_tokens
group_shows [] = nothing_gives
group_shows (column ∷ columns) = words_shows _ (commas_show column_tokens column_shows) (codes "group") (codes "by") refl refl (column ∷ columns)

-- a number
number_shows : Shows SpellsNumber (λ n. Number n ∷ [])
number_shows n tokens w s = (refl, written_one (Number n) tt)

-- what a key of ORDER BY names
by_shows : Shows SpellsBy by_tokens
by_shows (Name name) = name_shows name
by_shows (Position n) = number_shows n

-- its direction
direction_shows : Shows SpellsDirection (flag_tokens (codes "desc"))
direction_shows true = word_gives (codes "desc")
direction_shows false = λ tokens w s. (inl refl, All-nil IsWritten)

-- a key
key_shows : Shows SpellsKey key_tokens
key_shows key = parts_give (by_tokens key.by) (flag_tokens (codes "desc") key.desc) (by_shows key.by) (direction_shows key.desc)

-- the keys of ORDER BY, where it is written
pub order_shows : Shows (MaybeList (Behind (Word (codes "order") ∷ Word (codes "by") ∷ []) (Commas SpellsKey))) order_tokens
order_shows [] = nothing_gives
order_shows (key ∷ keys) = words_shows _ (commas_show key_tokens key_shows) (codes "order") (codes "by") refl refl (key ∷ keys)

-- LIMIT, where it is written
pub limit_shows : Shows (Maybe (Behind (word (codes "limit")) SpellsNumber)) limit_tokens
limit_shows None = nothing_gives
limit_shows (Some n) = word_shows _ number_shows (codes "limit") refl n
