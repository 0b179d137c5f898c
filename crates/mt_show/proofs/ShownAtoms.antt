-- Words, names and atoms are shown as they are written, but for a minus before 0.
use Rattle.std.proofs.Common.{◌≡◌, ℕ, suc, nat_le, Bool, true, false, ◌&&◌, Option, Some, None, List, [], ◌∷◌, length, map, refl, subst, inl, inr, pos, negsuc, ℤ}
use Rattle.std.proofs.lemmas.Bool.{and_parts, leb-true}
use Rattle.std.proofs.lemmas.List.Elements.{All-cons, All-head, All-append}
use Rattle.std.proofs.lemmas.List.Sums.{AllPass-from_list_all}
use Rattle.std.proofs.lemmas.Slice.Eq.{bytes_eq-Decides}
use Rattle.std.specs.List.{All, list_all}
use Rattle.std.specs.Str.{bytes_eq}
use Rattle.std.specs.Prelude.{codes}
use Rattle.mt_lexer.specs.Tokens.{Lexeme, Word, Number, Quoted, Sign, begins_word, is_in_word, lower}
use Rattle.mt_lexer.specs.declared.token.Symbol.TheVariants as symbol
use Rattle.mt_tree.specs.declared.expression.Literal.TheVariants.{Null, Int, Text}
use Rattle.mt_tree.specs.declared.expression.Agg.TheVariants as agg
use Rattle.mt_tree.specs.declared.expression.Atom.TheVariants as atom
use Rattle.mt_reader.specs.Forms.{Just, Flag, word}
use Rattle.mt_reader.specs.Names.{IsName}
use Rattle.mt_reader.specs.Literals.{SpellsLiteral}
use Rattle.mt_terms.specs.Expression.{SpellsNamed, SpellsColumn, SpellsAgg, SpellsAtom, Called}
use Rattle.mt_show.specs.Text.{IsWritten}
use Rattle.mt_show.specs.Shown.{literal_tokens, int_tokens, named_tokens, column_tokens, agg_tokens, atom_tokens, bracketed, flag_tokens}
use Rattle.mt_show.proofs.ShownForms.{Prints, Gives, Shows, written_one, written_bracketed, nothing_gives, parts_give, bracketed_shows, behind_shows}

-- a word that spells itself
abbrev pub is_plain : List ℕ → Bool
is_plain [] = false
is_plain (b ∷ bs) = begins_word b && (list_all is_in_word bs && (nat_le (length (b ∷ bs)) 30 && bytes_eq (b ∷ bs) (map lower (b ∷ bs))))

-- such a word can be written
pub keyword : (name : List ℕ) → is_plain name ≡ true → IsWritten (Word name)
keyword [] e = cc
keyword (b ∷ bs) e =
    let first = and_parts _ _ e in
    let others = and_parts _ _ first.1 in
    let short = and_parts _ _ others.1 in
    let le : nat_le (length (b ∷ bs)) 30 ≡ true = short.0 in
    (b ∷ bs, (first.0, AllPass-from_list_all is_in_word bs others.0, leb-true (length (b ∷ bs)) 30 le, (bytes_eq-Decides (b ∷ bs) (map lower (b ∷ bs))).0 short.1))

-- and so one of them by itself
pub one_word : (name : List ℕ) → is_plain name ≡ true → All IsWritten (word name)
one_word name plain = written_one (Word name) (keyword name plain)

-- and two, one behind the other
pub two_words : (name other : List ℕ) → is_plain name ≡ true → is_plain other ≡ true → All IsWritten (Word name ∷ Word other ∷ [])
two_words name other plain plain_other = All-append IsWritten (word name) (word other) (one_word name plain) (one_word other plain_other)

-- where written tokens are one word, it can be written
pub word_written : (tokens : List Lexeme) (name : List ℕ) → All IsWritten tokens → tokens ≡ word name → All IsWritten (word name)
word_written tokens name w e = written_one (Word name) (All-head IsWritten (Word name) [] (subst (All IsWritten) e w))

-- and is given again
pub word_gives : (name : List ℕ) → Gives (Just (word name)) (word name)
word_gives name tokens w s = (refl, word_written tokens name w s)

-- a word, where it is written
pub flag_shows : (name : List ℕ) → Shows (Flag (word name)) (flag_tokens name)
flag_shows name true = word_gives name
flag_shows name false = nothing_gives

-- a name
pub name_shows : Shows IsName word
name_shows name tokens w s = ((refl, s.1), word_written tokens name w s.0)

-- a name, perhaps with a qualifier
named_gives : (qualifier : Option (List ℕ)) (name : List ℕ) → Gives (λ tokens. SpellsNamed tokens qualifier name) (named_tokens qualifier name)
named_gives None name = name_shows name
named_gives (Some qualifier) name =
    parts_give (word qualifier) (Sign symbol.Dot ∷ word name) (name_shows qualifier) (behind_shows word name_shows (Sign symbol.Dot ∷ []) (written_one (Sign symbol.Dot) tt) name)

-- a column
pub column_shows : Shows SpellsColumn column_tokens
column_shows column = named_gives column.qualifier column.name

-- an integer
int_prints : (z : ℤ) → Prints SpellsLiteral (Int z) (int_tokens z)
int_prints (pos n) = ((n, inl (refl, refl)), written_one (Number n) tt)
int_prints (negsuc n) = ((suc n, inr (refl, refl)), All-cons IsWritten (Sign symbol.Minus) (Number (suc n) ∷ []) tt (written_one (Number (suc n)) tt))

-- a literal
pub literal_shows : Shows SpellsLiteral literal_tokens
literal_shows Null tokens w s = (refl, one_word (codes "null") refl)
literal_shows (Int z) tokens w s = int_prints z
literal_shows (Text text) tokens w s = (refl, written_one (Quoted text) tt)

-- a function of a column
called_shows : (name : List ℕ) → is_plain name ≡ true → Shows (Called name) (λ column. Word name ∷ bracketed (column_tokens column))
called_shows name plain = behind_shows _ (bracketed_shows column_tokens column_shows) (word name) (one_word name plain)

-- an aggregate
pub agg_shows : Shows SpellsAgg agg_tokens
agg_shows agg.CountAll = λ tokens w s. (refl, All-append IsWritten (word (codes "count")) (bracketed (Sign symbol.Star ∷ [])) (one_word (codes "count") refl) (written_bracketed (Sign symbol.Star ∷ []) (written_one (Sign symbol.Star) tt)))
agg_shows (agg.Count column) = called_shows (codes "count") refl column
agg_shows (agg.Sum column) = called_shows (codes "sum") refl column
agg_shows (agg.Min column) = called_shows (codes "min") refl column
agg_shows (agg.Max column) = called_shows (codes "max") refl column

-- an atom
pub atom_shows : Shows SpellsAtom atom_tokens
atom_shows (atom.Column column) = column_shows column
atom_shows (atom.Literal literal) = literal_shows literal
atom_shows (atom.Agg agg) = agg_shows agg
