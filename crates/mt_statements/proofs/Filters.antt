-- A table and perhaps a condition: what is read is spelled so, and what is spelled so is read.
use Rattle.std.proofs.Common.{◌≡◌, ℕ, true, false, Option, Some, None, List, ◌∷◌, ◌++◌, refl, ap, ◌∙◌}
use Rattle.std.specs.Prelude.{codes}
use Rattle.mt_lexer.specs.Reserved.{is_reserved_name}
use Rattle.mt_lexer.specs.Tokens.{Lexeme, Word}
use Rattle.mt_tree.specs.declared.expression.Cond.{Cond}
use Rattle.mt_reader.specs.Descent.{is_same, after, name_of, maybe_of}
use Rattle.mt_reader.specs.Fronts.{AtEnd, BeginsWithNone}
use Rattle.mt_reader.specs.Names.{IsName}
use Rattle.mt_reader.proofs.Maybes.{MaybeBehind, maybe_sound, maybe_complete}
use Rattle.mt_reader.proofs.Parts.{name_sound}
use Rattle.mt_reader.proofs.Spelling.{IsSound, IsCompleteBefore}
use Rattle.mt_terms.specs.Condition.{SpellsCond, SpellsWhere}
use Rattle.mt_terms.specs.Descent.{cond_of}
use Rattle.mt_terms.specs.Follow.{cond_goes_on}
use Rattle.mt_terms.proofs.Conditions.{cond_sound}
use Rattle.mt_terms.proofs.Follow.{cond_follows}
use Rattle.mt_statements.specs.Change.{SpellsFilter}
use Rattle.mt_statements.specs.ChangeDescent.{filter_of}
use Rattle.mt_statements.proofs.Pairs.{pair_sound}
use Rattle.mt_statements.proofs.Starts.{behind_limit, among_none, among_begins_none, at_end_among}

-- what reads perhaps a condition behind WHERE
abbrev pub where_of : List Lexeme → Option (Option Cond × List Lexeme)
where_of lexemes = maybe_of cond_of (Word (codes "where")) lexemes

-- what is read is a condition behind WHERE, or nothing
pub where_sound : IsSound SpellsWhere where_of
where_sound = maybe_sound SpellsCond cond_of (Word (codes "where")) cond_sound

-- a condition behind this word is read, where no word comes that goes on with it
pub cond_before : (by : Lexeme) (front more : List Lexeme) (cond : Option Cond) → is_same by by ≡ true → BeginsWithNone cond_goes_on more → after by more ≡ None → MaybeBehind SpellsCond by front cond → maybe_of cond_of by (front ++ more) ≡ Some (cond, more)
cond_before by front more cond same end none s = maybe_complete SpellsCond cond_of by (BeginsWithNone cond_goes_on) same cond_follows front more cond end none s

-- a condition behind WHERE is read at the end, and so is nothing
pub where_complete : IsCompleteBefore SpellsWhere AtEnd where_of
where_complete front more tree end s =
    let starts = at_end_among more end in
    cond_before (Word (codes "where")) front more tree refl (among_begins_none behind_limit cond_goes_on more refl refl starts) (among_none (Word (codes "where")) behind_limit more refl starts) s

-- what is read is a filter
pub filter_sound : IsSound SpellsFilter filter_of
unfolding filter_of
filter_sound = pair_sound IsName SpellsWhere SpellsFilter name_of where_of (λ table cond. record { table = table; cond = cond }) name_sound where_sound (λ table cond tokens s. s)

-- a table and what stands behind it are read
filter_read : (table : List ℕ) (cond : Option Cond) (lexemes more : List Lexeme) → is_reserved_name table ≡ false → where_of lexemes ≡ Some (cond, more) → filter_of (Word table ∷ lexemes) ≡ Some (record { table = table; cond = cond }, more)
unfolding filter_of name_of
filter_read table cond lexemes more free read = rw (free, read) refl

-- a filter is read
pub filter_complete : IsCompleteBefore SpellsFilter AtEnd filter_of
filter_complete front more filter end s =
    let all : front ++ more ≡ Word filter.table ∷ (s.back ++ more) = ap (λ ls. ls ++ more) (s.split ∙ ap (λ ls. ls ++ s.back) s.is_left.0) in
    ap filter_of all ∙ filter_read filter.table filter.cond (s.back ++ more) more s.is_left.1 (where_complete s.back more filter.cond end s.is_right)
