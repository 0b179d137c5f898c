-- Columns, aggregates and atoms: what is read is spelled so, and what is spelled so is read.
use Rattle.std.proofs.Common.{◌≡◌, ℕ, ◌<◌, Bool, true, false, cond, Option, Some, None, is_some, List, [], ◌∷◌, ◌++◌, length, refl, sym, ap, ◌∙◌, subst, inl, inr, arith}
use Rattle.std.specs.Prelude.{codes, ◌||◌}
use Rattle.mt_lexer.specs.declared.token.Symbol.TheVariants as symbol
use Rattle.mt_lexer.specs.Tokens.{Lexeme, Word, Number, Quoted, Sign}
use Rattle.mt_tree.specs.declared.name.ColName.{ColName}
use Rattle.mt_tree.specs.declared.expression.Literal.{Literal}
use Rattle.mt_tree.specs.declared.expression.Literal.TheVariants as literal
use Rattle.mt_tree.specs.declared.expression.Agg.{Agg}
use Rattle.mt_tree.specs.declared.expression.Agg.TheVariants as agg
use Rattle.mt_tree.specs.declared.expression.Atom.{Atom}
use Rattle.mt_tree.specs.declared.expression.Atom.TheVariants as atom
use Rattle.mt_reader.specs.Descent.{after, name_of, number_of, literal_of, begins_with_name, begins_with_word, closed_of, bracketed_of}
use Rattle.mt_lexer.specs.Reserved.{is_reserved_name}
use Rattle.mt_reader.specs.Forms.{Bracketed}
use Rattle.mt_reader.specs.Fronts.{Begins}
use Rattle.mt_reader.specs.Literals.{SpellsLiteral}
use Rattle.mt_lexer.specs.Reserved.{reserved}
use Rattle.mt_reader.proofs.Bracketing.{brackets_append, closed_sound, bracketed_sound, bracketed_complete}
use Rattle.mt_reader.proofs.Eithers.{either_some}
use Rattle.mt_reader.proofs.Shrinking.{bind_some, same_tree, same_rest}
use Rattle.mt_reader.proofs.Parts.{literal_sound}
use Rattle.mt_reader.proofs.Spelling.{IsSound, IsComplete, IsCompleteBefore, after_is, name_is, Shrinks, sound_shrinks}
use Rattle.mt_terms.specs.Expression.{SpellsNamed, SpellsColumn, Called, SpellsAgg, SpellsAtom}
use Rattle.mt_terms.specs.Descent.{dotted_of, column_of, called_of, all_counted_of, column_counted_of, counted_of, max_of, agg_of, agg_atom_of, begins_reserved_atom, reserved_atom_of, column_atom_of, literal_atom_of, atom_of}

-- no dot comes first
abbrev pub NoDot : List Lexeme → Type 0
NoDot tokens = after (Sign symbol.Dot) tokens ≡ None

-- columns

-- what is read behind a name and a dot is a name
dotted_sound : (lexemes mid left rest : List Lexeme) (qualifier : List ℕ) (column : ColName) → (lexemes ≡ Word qualifier ∷ mid) × (is_reserved_name qualifier ≡ false) → mid ≡ Sign symbol.Dot ∷ left → dotted_of qualifier left ≡ Some (column, rest) → Begins SpellsColumn lexemes rest column
dotted_sound lexemes mid left rest qualifier column n d e =
    let b = bind_some (name_of left) _ (column, rest) e in
    let m = name_is left b.0.1 b.0.0 b.1 in
    let front = Word qualifier ∷ Sign symbol.Dot ∷ Word b.0.0 ∷ [] in
    record {
      front = front;
      whole = n.0 ∙ ap (λ ls. Word qualifier ∷ ls) (d ∙ ap (λ ls. Sign symbol.Dot ∷ ls) (m.0 ∙ ap (λ ls. Word b.0.0 ∷ ls) (same_rest b.2)));
      spelled = subst (SpellsColumn front) (same_tree b.2) (record {
        front = Word qualifier ∷ [];
        back = Sign symbol.Dot ∷ Word b.0.0 ∷ [];
        split = refl;
        is_left = (refl, n.1);
        is_right = record { inner = Word b.0.0 ∷ []; prefix = refl; body = (refl, m.1) };
      });
    }

-- what is read as a column is one
pub column_sound : IsSound SpellsColumn column_of
unfolding column_of
column_sound lexemes rest column e =
    let a = bind_some (name_of lexemes) _ (column, rest) e in
    let n = name_is lexemes a.0.1 a.0.0 a.1 in
    either_some (after (Sign symbol.Dot) a.0.1) (dotted_of a.0.0) _ (column, rest) (λ left d e. dotted_sound lexemes a.0.1 left rest a.0.0 column n (after_is _ a.0.1 left d) e)
    (λ e. record {
      front = Word a.0.0 ∷ [];
      whole = n.0 ∙ ap (λ ls. Word a.0.0 ∷ ls) (same_rest e);
      spelled = subst (SpellsColumn (Word a.0.0 ∷ [])) (same_tree e) (refl, n.1);
    })
    a.2

-- a name is read, where no dot follows
name_complete : (name : List ℕ) (more : List Lexeme) → is_reserved_name name ≡ false → NoDot more → column_of (Word name ∷ more) ≡ Some (record { qualifier = None; name = name }, more)
unfolding column_of name_of
name_complete name more free end = rw (free, end) refl

-- two names with a dot between are read
dotted_complete : (qualifier name : List ℕ) (more : List Lexeme) → is_reserved_name qualifier ≡ false → is_reserved_name name ≡ false → column_of (Word qualifier ∷ Sign symbol.Dot ∷ Word name ∷ more) ≡ Some (record { qualifier = Some qualifier; name = name }, more)
unfolding column_of name_of after
dotted_complete qualifier name more first second = rw (first, second) refl

-- how two names are spelled
dotted_is : (front : List Lexeme) (qualifier name : List ℕ) → SpellsNamed front (Some qualifier) name → front ≡ Word qualifier ∷ Sign symbol.Dot ∷ Word name ∷ []
dotted_is front qualifier name s =
    s.split ∙ ap (λ ls. ls ++ s.back) s.is_left.0 ∙ ap (λ ls. Word qualifier ∷ ls) (s.is_right.prefix ∙ ap (λ ls. Sign symbol.Dot ∷ ls) s.is_right.body.0)

-- a name, or two, is read as a column
named_complete : (front more : List Lexeme) (qualifier : Option (List ℕ)) (name : List ℕ) → NoDot more → SpellsNamed front qualifier name → column_of (front ++ more) ≡ Some (record { qualifier = qualifier; name = name }, more)
named_complete front more None name end s = ap (λ ls. column_of (ls ++ more)) s.0 ∙ name_complete name more s.1 end
named_complete front more (Some qualifier) name end s = ap (λ ls. column_of (ls ++ more)) (dotted_is front qualifier name s) ∙ dotted_complete qualifier name more s.is_left.1 s.is_right.body.1

-- a column is read, where no dot follows
pub column_complete : IsCompleteBefore SpellsColumn NoDot column_of
column_complete front more column end s = named_complete front more column.qualifier column.name end s

-- aggregates

-- a column in brackets is read
argument_complete : IsComplete (Bracketed SpellsColumn) (bracketed_of column_of)
unfolding after
argument_complete = bracketed_complete SpellsColumn column_of NoDot (λ rest. refl) column_complete

-- what is read behind the word of a function is a call of it
called_sound : (word : List ℕ) (function : ColName → Agg) → ((tokens : List Lexeme) (column : ColName) → Called word tokens column → SpellsAgg tokens (function column)) → (lexemes left rest : List Lexeme) (found : Agg) → lexemes ≡ Word word ∷ left → called_of function left ≡ Some (found, rest) → Begins SpellsAgg lexemes rest found
called_sound word function as_agg lexemes left rest found h e =
    let a = bind_some (bracketed_of column_of left) _ (found, rest) e in
    let s = bracketed_sound SpellsColumn column_of column_sound left a.0.1 a.0.0 a.1 in
    let front = Word word ∷ s.front in
    record {
      front = front;
      whole = h ∙ ap (λ ls. Word word ∷ ls) (s.whole ∙ ap (λ ls. s.front ++ ls) (same_rest a.2));
      spelled = subst (SpellsAgg front) (same_tree a.2) (as_agg front a.0.0 (record { inner = s.front; prefix = refl; body = s.spelled }));
    }

-- what is read behind COUNT, a bracket and the star is a count of all
all_counted_sound : (lexemes star rest : List Lexeme) (found : Agg) → lexemes ≡ Word (codes "count") ∷ Sign symbol.Open ∷ Sign symbol.Star ∷ star → all_counted_of star ≡ Some (found, rest) → Begins SpellsAgg lexemes rest found
all_counted_sound lexemes star rest found h e =
    let b = bind_some (after (Sign symbol.Close) star) _ (found, rest) e in
    let last : b.0 ≡ rest = same_rest b.2 in
    let open_ = Word (codes "count") ∷ Sign symbol.Open ∷ Sign symbol.Star ∷ [] in
    let front = open_ ++ Sign symbol.Close ∷ [] in
    record {
      front = front;
      whole = h ∙ ap (λ ls. open_ ++ ls) (after_is _ star b.0 b.1 ∙ ap (λ ls. Sign symbol.Close ∷ ls) last);
      spelled = subst (SpellsAgg front) (same_tree b.2) refl;
    }

-- what is read behind COUNT and a bracket is a count of a column
column_counted_sound : (lexemes left mid rest : List Lexeme) (found : Agg) → lexemes ≡ Word (codes "count") ∷ left → left ≡ Sign symbol.Open ∷ mid → column_counted_of mid ≡ Some (found, rest) → Begins SpellsAgg lexemes rest found
column_counted_sound lexemes left mid rest found h o e =
    let b = bind_some (closed_of column_of mid) _ (found, rest) e in
    let s = closed_sound SpellsColumn column_of column_sound left mid b.0.1 b.0.0 o b.1 in
    let front = Word (codes "count") ∷ s.front in
    record {
      front = front;
      whole = h ∙ ap (λ ls. Word (codes "count") ∷ ls) (s.whole ∙ ap (λ ls. s.front ++ ls) (same_rest b.2));
      spelled = subst (SpellsAgg front) (same_tree b.2) (record { inner = s.front; prefix = refl; body = s.spelled });
    }

-- what is read behind COUNT is a count
counted_sound : (lexemes left rest : List Lexeme) (found : Agg) → lexemes ≡ Word (codes "count") ∷ left → counted_of left ≡ Some (found, rest) → Begins SpellsAgg lexemes rest found
unfolding counted_of
counted_sound lexemes left rest found h e =
    let a = bind_some (after (Sign symbol.Open) left) _ (found, rest) e in
    let o = after_is _ left a.0 a.1 in
    either_some (after (Sign symbol.Star) a.0) all_counted_of (column_counted_of a.0) (found, rest)
    (λ star d e. all_counted_sound lexemes star rest found (h ∙ ap (λ ls. Word (codes "count") ∷ ls) (o ∙ ap (λ ls. Sign symbol.Open ∷ ls) (after_is _ a.0 star d))) e)
    (λ e. column_counted_sound lexemes left a.0 rest found h o e)
    a.2

-- what is read as an aggregate is one
pub agg_sound : IsSound SpellsAgg agg_of
unfolding agg_of
agg_sound lexemes rest found e =
    either_some (after (Word (codes "count")) lexemes) counted_of _ (found, rest) (λ left a e. counted_sound lexemes left rest found (after_is _ lexemes left a) e)
    (λ e. either_some (after (Word (codes "sum")) lexemes) (called_of agg.Sum) _ (found, rest) (λ left a e. called_sound (codes "sum") agg.Sum (λ tokens column s. s) lexemes left rest found (after_is _ lexemes left a) e)
    (λ e. either_some (after (Word (codes "min")) lexemes) (called_of agg.Min) _ (found, rest) (λ left a e. called_sound (codes "min") agg.Min (λ tokens column s. s) lexemes left rest found (after_is _ lexemes left a) e)
    max_sound e) e) e
  where
    max_sound : max_of lexemes ≡ Some (found, rest) → Begins SpellsAgg lexemes rest found
    max_sound e =
        let b = bind_some (after (Word (codes "max")) lexemes) _ (found, rest) e in
        called_sound (codes "max") agg.Max (λ tokens column s. s) lexemes b.0 rest found (after_is _ lexemes b.0 b.1) b.2

-- a column begins with no star
no_star : (lexemes rest : List Lexeme) (column : ColName) → column_of lexemes ≡ Some (column, rest) → after (Sign symbol.Star) lexemes ≡ None
unfolding column_of name_of
no_star lexemes rest column e = by_star (after (Sign symbol.Star) lexemes) refl where
  by_star : (star : Option (List Lexeme)) → after (Sign symbol.Star) lexemes ≡ star → after (Sign symbol.Star) lexemes ≡ None
  by_star None a = a
  by_star (Some left) a =
      let both : ◌≡◌ {A = Option (ColName × List Lexeme)} None (Some (column, rest)) = ap column_of (sym (after_is _ lexemes left a)) ∙ e in
      cc

-- a count of a column is read
count_complete : (inner more : List Lexeme) (column : ColName) → SpellsColumn inner column → agg_of (Word (codes "count") ∷ Sign symbol.Open ∷ (inner ++ Sign symbol.Close ∷ more)) ≡ Some (agg.Count column, more)
unfolding agg_of counted_of after
count_complete inner more column s =
    let read = column_complete inner (Sign symbol.Close ∷ more) column refl s in
    let star = no_star (inner ++ Sign symbol.Close ∷ more) (Sign symbol.Close ∷ more) column read in
    rw (star, read) refl

-- a call of another function is read
called_complete : (word : List ℕ) (function : ColName → Agg) → ((left : List Lexeme) → agg_of (Word word ∷ left) ≡ called_of function left) → (front more : List Lexeme) (column : ColName) → Called word front column → agg_of (front ++ more) ≡ Some (function column, more)
called_complete word function reads front more column s =
    let read = argument_complete s.inner more column s.body in
    ap (λ ls. agg_of (ls ++ more)) s.prefix ∙ reads (s.inner ++ more) ∙ rw read refl

-- an aggregate is read
pub agg_complete : IsComplete SpellsAgg agg_of
unfolding agg_of counted_of after
agg_complete front more agg.CountAll s = rw s refl
agg_complete front more (agg.Count column) s =
    let inner = s.body.inner in
    let all : front ++ more ≡ Word (codes "count") ∷ Sign symbol.Open ∷ (inner ++ Sign symbol.Close ∷ more) =
    ap (λ ls. ls ++ more) (s.prefix ∙ ap (λ ls. Word (codes "count") ∷ ls) s.body.brackets) ∙ ap (λ ls. Word (codes "count") ∷ ls) (brackets_append inner more) in
    ap agg_of all ∙ count_complete inner more column s.body.body
agg_complete front more (agg.Sum column) s = called_complete (codes "sum") agg.Sum (λ left. refl) front more column s
agg_complete front more (agg.Min column) s = called_complete (codes "min") agg.Min (λ left. refl) front more column s
agg_complete front more (agg.Max column) s = called_complete (codes "max") agg.Max (λ left. refl) front more column s

-- atoms

-- what a name begins
column_atom_sound : IsSound SpellsAtom column_atom_of
unfolding column_atom_of
column_atom_sound lexemes rest found e =
    let a = bind_some (column_of lexemes) _ (found, rest) e in
    let s = column_sound lexemes a.0.1 a.0.0 a.1 in
    record { front = s.front; whole = s.whole ∙ ap (λ ls. s.front ++ ls) (same_rest a.2); spelled = subst (SpellsAtom s.front) (same_tree a.2) s.spelled }

-- a literal
literal_atom_sound : IsSound SpellsAtom literal_atom_of
unfolding literal_atom_of
literal_atom_sound lexemes rest found e =
    let a = bind_some (literal_of lexemes) _ (found, rest) e in
    let s = literal_sound lexemes a.0.1 a.0.0 a.1 in
    record { front = s.front; whole = s.whole ∙ ap (λ ls. s.front ++ ls) (same_rest a.2); spelled = subst (SpellsAtom s.front) (same_tree a.2) s.spelled }

-- an aggregate
agg_atom_sound : IsSound SpellsAtom agg_atom_of
agg_atom_sound lexemes rest found e =
    let b = bind_some (agg_of lexemes) _ (found, rest) e in
    let s = agg_sound lexemes b.0.1 b.0.0 b.1 in
    record { front = s.front; whole = s.whole ∙ ap (λ ls. s.front ++ ls) (same_rest b.2); spelled = subst (SpellsAtom s.front) (same_tree b.2) s.spelled }

-- what a reserved word begins
reserved_atom_sound : IsSound SpellsAtom reserved_atom_of
unfolding reserved_atom_of
reserved_atom_sound lexemes rest found e = by_null (is_some (after (Word (codes "null")) lexemes)) e where
  by_null : (null : Bool) → cond null (literal_atom_of lexemes) (agg_atom_of lexemes) ≡ Some (found, rest) → Begins SpellsAtom lexemes rest found
  by_null true e = literal_atom_sound lexemes rest found e
  by_null false e = agg_atom_sound lexemes rest found e

-- what is read as an atom is one
pub atom_sound : IsSound SpellsAtom atom_of
unfolding atom_of
atom_sound lexemes rest found e = by_first (begins_with_name lexemes) (begins_with_word lexemes) e where
  by_first : (name word : Bool) → cond name (column_atom_of lexemes) (cond word (reserved_atom_of lexemes) (literal_atom_of lexemes)) ≡ Some (found, rest) → Begins SpellsAtom lexemes rest found
  by_first true word e = column_atom_sound lexemes rest found e
  by_first false true e = reserved_atom_sound lexemes rest found e
  by_first false false e = literal_atom_sound lexemes rest found e

-- which words begin what

-- what begins with no word is a literal
pub literal_first : (lexemes : List Lexeme) → begins_with_word lexemes ≡ false → atom_of lexemes ≡ literal_atom_of lexemes
unfolding atom_of
literal_first [] h = refl
literal_first (Word name ∷ rest) h = cc
literal_first (Number value ∷ rest) h = refl
literal_first (Quoted text ∷ rest) h = refl
literal_first (Sign sign ∷ rest) h = refl

-- what begins with a reserved word is NULL or an aggregate
by_reserved : (word : List ℕ) → is_reserved_name word ≡ true → (lexemes : List Lexeme) → is_some (after (Word word) lexemes) ≡ true → atom_of lexemes ≡ reserved_atom_of lexemes
unfolding atom_of
by_reserved word reserved lexemes h = by_found (after (Word word) lexemes) refl h where
  behind : (rest : List Lexeme) → atom_of (Word word ∷ rest) ≡ reserved_atom_of (Word word ∷ rest)
  behind rest = rw reserved refl

  by_found : (found : Option (List Lexeme)) → after (Word word) lexemes ≡ found → is_some found ≡ true → atom_of lexemes ≡ reserved_atom_of lexemes
  by_found None a h = cc
  by_found (Some rest) a h = subst (λ ls. atom_of ls ≡ reserved_atom_of ls) (sym (after_is (Word word) lexemes rest a)) (behind rest)

-- what begins with one of the words that begin an atom
pub reserved_first : (lexemes : List Lexeme) → begins_reserved_atom lexemes ≡ true → atom_of lexemes ≡ reserved_atom_of lexemes
unfolding reserved
reserved_first lexemes h = by_word _ _ _ _ _ refl refl refl refl refl h where
  by_word : (null count sum min max : Bool) → is_some (after (Word (codes "null")) lexemes) ≡ null → is_some (after (Word (codes "count")) lexemes) ≡ count → is_some (after (Word (codes "sum")) lexemes) ≡ sum → is_some (after (Word (codes "min")) lexemes) ≡ min → is_some (after (Word (codes "max")) lexemes) ≡ max → (null || count || sum || min || max) ≡ true → atom_of lexemes ≡ reserved_atom_of lexemes
  by_word true count sum min max a b c d e h = by_reserved (codes "null") refl lexemes a
  by_word false true sum min max a b c d e h = by_reserved (codes "count") refl lexemes b
  by_word false false true min max a b c d e h = by_reserved (codes "sum") refl lexemes c
  by_word false false false true max a b c d e h = by_reserved (codes "min") refl lexemes d
  by_word false false false false true a b c d e h = by_reserved (codes "max") refl lexemes e
  by_word false false false false false a b c d e h = cc

-- where none of these words comes first there is no aggregate, and no NULL
no_reserved_atom : (lexemes : List Lexeme) → begins_reserved_atom lexemes ≡ false → reserved_atom_of lexemes ≡ None
unfolding reserved_atom_of agg_of
no_reserved_atom lexemes h = by_word _ _ _ _ _ refl refl refl refl refl h where
  by_word : (null count sum min max : Option (List Lexeme)) → after (Word (codes "null")) lexemes ≡ null → after (Word (codes "count")) lexemes ≡ count → after (Word (codes "sum")) lexemes ≡ sum → after (Word (codes "min")) lexemes ≡ min → after (Word (codes "max")) lexemes ≡ max → (is_some null || is_some count || is_some sum || is_some min || is_some max) ≡ false → reserved_atom_of lexemes ≡ None
  by_word (Some rest) count sum min max a b c d e h = cc
  by_word None (Some rest) sum min max a b c d e h = cc
  by_word None None (Some rest) min max a b c d e h = cc
  by_word None None None (Some rest) max a b c d e h = cc
  by_word None None None None (Some rest) a b c d e h = cc
  by_word None None None None None a b c d e h = rw (a, b, c, d, e) refl

-- what begins with any other word is a column, if anything
pub column_first : (lexemes : List Lexeme) → begins_with_word lexemes ≡ true → begins_reserved_atom lexemes ≡ false → atom_of lexemes ≡ column_atom_of lexemes
unfolding atom_of column_atom_of column_of name_of
column_first [] w h = cc
column_first (Word name ∷ rest) w h = by_name (is_reserved_name name) refl where
  by_name : (r : Bool) → is_reserved_name name ≡ r → atom_of (Word name ∷ rest) ≡ column_atom_of (Word name ∷ rest)
  by_name true r = rw r (no_reserved_atom (Word name ∷ rest) h)
  by_name false r = rw r refl
column_first (Number value ∷ rest) w h = cc
column_first (Quoted text ∷ rest) w h = cc
column_first (Sign sign ∷ rest) w h = cc

-- a column begins with a name
column_begins : (front more : List Lexeme) (qualifier : Option (List ℕ)) (name : List ℕ) → SpellsNamed front qualifier name → begins_with_name (front ++ more) ≡ true
column_begins front more None name s = rw (s.0, s.1) refl
column_begins front more (Some qualifier) name s = rw (dotted_is front qualifier name s, s.is_left.1) refl

-- a column is read as an atom
column_atom_complete : (lexemes more : List Lexeme) (column : ColName) → begins_with_name lexemes ≡ true → column_of lexemes ≡ Some (column, more) → atom_of lexemes ≡ Some (atom.Column column, more)
unfolding atom_of column_atom_of
column_atom_complete lexemes more column first read = rw (first, read) refl

-- an aggregate is read as an atom, since its word is reserved
agg_atom_complete : (word : List ℕ) (left more : List Lexeme) (found : Agg) → is_reserved_name word ≡ true → after (Word (codes "null")) (Word word ∷ left) ≡ None → agg_of (Word word ∷ left) ≡ Some (found, more) → atom_of (Word word ∷ left) ≡ Some (atom.Agg found, more)
unfolding atom_of reserved_atom_of
agg_atom_complete word left more found reserved null read = rw (reserved, null, read) refl

-- an aggregate begins with a word that is reserved, and is not NULL
pub record BeginsAgg (front : List Lexeme) : Type 0 where
  pub word : List ℕ
  pub back : List Lexeme
  pub split : front ≡ Word word ∷ back
  pub is_reserved : is_reserved_name word ≡ true
  pub no_null : (left : List Lexeme) → after (Word (codes "null")) (Word word ∷ left) ≡ None

pub agg_begins : (front : List Lexeme) (found : Agg) → SpellsAgg front found → BeginsAgg front
unfolding reserved after
agg_begins front agg.CountAll s = record { word = codes "count"; back = Sign symbol.Open ∷ Sign symbol.Star ∷ Sign symbol.Close ∷ []; split = s; is_reserved = refl; no_null = λ left. refl }
agg_begins front (agg.Count column) s = record { word = codes "count"; back = s.inner; split = s.prefix; is_reserved = refl; no_null = λ left. refl }
agg_begins front (agg.Sum column) s = record { word = codes "sum"; back = s.inner; split = s.prefix; is_reserved = refl; no_null = λ left. refl }
agg_begins front (agg.Min column) s = record { word = codes "min"; back = s.inner; split = s.prefix; is_reserved = refl; no_null = λ left. refl }
agg_begins front (agg.Max column) s = record { word = codes "max"; back = s.inner; split = s.prefix; is_reserved = refl; no_null = λ left. refl }

-- a literal is read as an atom
literal_atom_complete : (front more : List Lexeme) (found : Literal) → SpellsLiteral front found → atom_of (front ++ more) ≡ Some (atom.Literal found, more)
unfolding atom_of reserved_atom_of literal_atom_of literal_of number_of after reserved
literal_atom_complete front more literal.Null s = rw s refl
literal_atom_complete front more (literal.Int z) s = elim s.1 [ inl w ↦ rw (w.0, w.1) refl | inr w ↦ rw (w.0, w.1) refl ]
literal_atom_complete front more (literal.Text text) s = rw s refl

-- an atom is read, where no dot follows
pub atom_complete : IsCompleteBefore SpellsAtom NoDot atom_of
atom_complete front more (atom.Column column) end s =
    column_atom_complete (front ++ more) more column (column_begins front more column.qualifier column.name s) (column_complete front more column end s)
atom_complete front more (atom.Literal found) end s = literal_atom_complete front more found s
atom_complete front more (atom.Agg found) end s =
    let b = agg_begins front found s in
    let all : front ++ more ≡ Word b.word ∷ (b.back ++ more) = ap (λ ls. ls ++ more) b.split in
    ap atom_of all ∙ agg_atom_complete b.word (b.back ++ more) more found b.is_reserved (b.no_null (b.back ++ more)) (ap agg_of (sym all) ∙ agg_complete front more found s)

-- a column has a lexeme at least
named_nonempty : (front : List Lexeme) (qualifier : Option (List ℕ)) (name : List ℕ) → SpellsNamed front qualifier name → 0 < length front
named_nonempty front None name s = omega (arith, ap length s.0)
named_nonempty front (Some qualifier) name s = omega (arith, ap length (dotted_is front qualifier name s))

-- and so it takes one
pub column_shrinks : Shrinks column_of
column_shrinks = sound_shrinks SpellsColumn column_of column_sound (λ front column s. named_nonempty front column.qualifier column.name s)

-- an atom has a lexeme at least
pub atom_nonempty : (front : List Lexeme) (found : Atom) → SpellsAtom front found → 0 < length front
atom_nonempty front (atom.Column column) s = named_nonempty front column.qualifier column.name s
atom_nonempty front (atom.Literal literal.Null) s = omega (arith, ap length s)
atom_nonempty front (atom.Literal (literal.Int z)) s = elim s.1 [ inl w ↦ omega (arith, ap length w.0) | inr w ↦ omega (arith, ap length w.0) ]
atom_nonempty front (atom.Literal (literal.Text text)) s = omega (arith, ap length s)
atom_nonempty front (atom.Agg found) s = let b = agg_begins front found s in omega (arith, ap length b.split)

-- and so it takes one
pub atom_shrinks : Shrinks atom_of
atom_shrinks = sound_shrinks SpellsAtom atom_of atom_sound atom_nonempty
