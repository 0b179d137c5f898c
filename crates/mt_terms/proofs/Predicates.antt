-- What a predicate says of its first atom: what is read is spelled so, and what is spelled so is read.
use Rattle.std.proofs.Common.{◌≡◌, ℕ, Bool, true, false, Some, None, List, [], ◌∷◌, ◌++◌, drop, refl, sym, ap, ◌∙◌, subst, append_assoc}
use Rattle.std.specs.Prelude.{codes}
use Rattle.std.specs.Option.{option_and_then}
use Rattle.mt_lexer.specs.declared.token.Symbol.{Symbol}
use Rattle.mt_lexer.specs.declared.token.Symbol.TheVariants as symbol
use Rattle.mt_lexer.specs.Tokens.{Lexeme, Word, Sign}
use Rattle.mt_value.specs.declared.truth.Cmp.{Cmp}
use Rattle.mt_value.specs.declared.truth.Cmp.TheVariants.{Eq, Ne, Lt, Le, Gt, Ge}
use Rattle.mt_tree.specs.declared.expression.Atom.{Atom}
use Rattle.mt_reader.specs.Descent.{after, first_symbol, separated_of, bracketed_of}
use Rattle.mt_reader.specs.Forms.{Bracketed, Behind, Commas}
use Rattle.mt_reader.specs.Fronts.{Begins}
use Rattle.mt_reader.proofs.Bracketing.{items_in_brackets_sound, items_in_brackets_complete}
use Rattle.mt_reader.proofs.Eithers.{either_some}
use Rattle.mt_reader.proofs.Shrinking.{bind_some, same_tree, same_rest}
use Rattle.mt_reader.proofs.Spelling.{IsSound, IsCompleteBefore, after_is}
use Rattle.mt_terms.specs.declared.test.Test.{Test}
use Rattle.mt_terms.specs.declared.test.Test.TheVariants as test
use Rattle.mt_terms.specs.Condition.{comparison_symbol, SpellsNot, AtomThen, NotThen, WordThen}
use Rattle.mt_terms.specs.Expression.{SpellsAtom}
use Rattle.mt_terms.specs.Descent.{atom_of, cmp_of, compare_of, member_of, between_of, like_of, worded_of, null_of, tested_of, said_of}
use Rattle.mt_terms.proofs.Atoms.{NoDot, atom_sound, atom_complete, atom_shrinks}
use Rattle.mt_terms.proofs.Tails.{first_symbol_is}

-- what a word says of the first atom of a predicate
abbrev pub SpellsTest : List Lexeme → Test → Type 0
SpellsTest tokens (test.Member negated list) = NotThen negated (WordThen (codes "in") (λ back. Bracketed (Commas SpellsAtom) back list)) tokens
SpellsTest tokens (test.Between negated low high) = NotThen negated (WordThen (codes "between") (AtomThen low (λ back. Behind (Word (codes "and") ∷ []) SpellsAtom back high))) tokens
SpellsTest tokens (test.Like negated pattern) = NotThen negated (λ back. Behind (Word (codes "like") ∷ []) SpellsAtom back pattern) tokens
SpellsTest tokens (test.IsNull negated) = WordThen (codes "is") (NotThen negated (λ tokens. tokens ≡ Word (codes "null") ∷ [])) tokens

-- comparisons

-- a symbol that compares is the one of its comparison
symbol_is : (s : Symbol) (op : Cmp) → cmp_of s ≡ Some op → s ≡ comparison_symbol op
symbol_is symbol.Equal op e = let same : Eq ≡ op = cc in ap comparison_symbol same
symbol_is symbol.NotEqual op e = let same : Ne ≡ op = cc in ap comparison_symbol same
symbol_is symbol.Less op e = let same : Lt ≡ op = cc in ap comparison_symbol same
symbol_is symbol.LessEqual op e = let same : Le ≡ op = cc in ap comparison_symbol same
symbol_is symbol.Greater op e = let same : Gt ≡ op = cc in ap comparison_symbol same
symbol_is symbol.GreaterEqual op e = let same : Ge ≡ op = cc in ap comparison_symbol same
symbol_is symbol.Open op e = cc
symbol_is symbol.Close op e = cc
symbol_is symbol.Comma op e = cc
symbol_is symbol.Dot op e = cc
symbol_is symbol.Star op e = cc
symbol_is symbol.Plus op e = cc
symbol_is symbol.Minus op e = cc
symbol_is symbol.Semicolon op e = cc

-- and the other way round
cmp_of-comparison_symbol : (op : Cmp) → cmp_of (comparison_symbol op) ≡ Some op
cmp_of-comparison_symbol Eq = refl
cmp_of-comparison_symbol Ne = refl
cmp_of-comparison_symbol Lt = refl
cmp_of-comparison_symbol Le = refl
cmp_of-comparison_symbol Gt = refl
cmp_of-comparison_symbol Ge = refl

-- a comparison is one lexeme
pub compare_is : (lexemes rest : List Lexeme) (op : Cmp) → compare_of lexemes ≡ Some (op, rest) → lexemes ≡ Sign (comparison_symbol op) ∷ rest
unfolding compare_of
compare_is lexemes rest op e =
    let a = bind_some (first_symbol lexemes) _ (op, rest) e in
    let b = bind_some (cmp_of a.0) _ (op, rest) a.2 in
    first_symbol_is lexemes a.0 a.1
    ∙ ap (λ s. Sign s ∷ drop 1 lexemes) (symbol_is a.0 b.0 b.1)
    ∙ ap (λ op. Sign (comparison_symbol op) ∷ drop 1 lexemes) (same_tree b.2)
    ∙ ap (λ ls. Sign (comparison_symbol op) ∷ ls) (same_rest b.2)

-- a sign that compares is read
pub compare_read : (op : Cmp) (rest : List Lexeme) → compare_of (Sign (comparison_symbol op) ∷ rest) ≡ Some (op, rest)
unfolding compare_of
compare_read op rest = rw (cmp_of-comparison_symbol op) refl

-- what is read is spelled so

-- NOT, if there is one
not_front : Bool → List Lexeme
not_front true = Word (codes "not") ∷ []
not_front false = []

spells_not : (negated : Bool) → SpellsNot (not_front negated) negated
unfolding not_front
spells_not true = refl
spells_not false = refl

-- behind IN
member_sound : (negated : Bool) (lexemes left rest : List Lexeme) (t : Test) → lexemes ≡ not_front negated ++ Word (codes "in") ∷ left → member_of negated left ≡ Some (t, rest) → Begins SpellsTest lexemes rest t
unfolding member_of
member_sound negated lexemes left rest t h e =
    let a = bind_some (bracketed_of (separated_of atom_of (Sign symbol.Comma)) left) _ (t, rest) e in
    let s = items_in_brackets_sound SpellsAtom atom_of atom_sound left a.0.1 a.0.0 a.1 in
    let back = Word (codes "in") ∷ s.front in
    let taken : left ≡ s.front ++ rest = s.whole ∙ ap (λ ls. s.front ++ ls) (same_rest a.2) in
    record {
      front = not_front negated ++ back;
      whole = h ∙ ap (λ ls. not_front negated ++ Word (codes "in") ∷ ls) taken ∙ sym (append_assoc (not_front negated) back rest);
      spelled = subst (SpellsTest (not_front negated ++ back)) (same_tree a.2) (record {
        front = not_front negated;
        back = back;
        split = refl;
        is_left = spells_not negated;
        is_right = record { front = Word (codes "in") ∷ []; back = s.front; split = refl; is_left = refl; is_right = s.spelled };
      });
    }

-- an atom behind an AND is the second bound
pub between_reads : (negated : Bool) (lexemes rest left : List Lexeme) (low high : Atom) → atom_of lexemes ≡ Some (low, rest) → option_and_then atom_of (after (Word (codes "and")) rest) ≡ Some (high, left) → between_of negated lexemes ≡ Some (test.Between negated low high, left)
unfolding between_of
between_reads negated lexemes rest left low high first second =
    let behind = bind_some (after (Word (codes "and")) rest) atom_of (high, left) second in
    rw (first, behind.1, behind.2) refl

-- behind BETWEEN
between_sound : (negated : Bool) (lexemes left rest : List Lexeme) (t : Test) → lexemes ≡ not_front negated ++ Word (codes "between") ∷ left → between_of negated left ≡ Some (t, rest) → Begins SpellsTest lexemes rest t
unfolding between_of
between_sound negated lexemes left rest t h e =
    let a = bind_some (atom_of left) _ (t, rest) e in
    let b = bind_some (after (Word (codes "and")) a.0.1) _ (t, rest) a.2 in
    let c = bind_some (atom_of b.0) _ (t, rest) b.2 in
    let last : c.0.1 ≡ rest = same_rest c.2 in
    let low = atom_sound left a.0.1 a.0.0 a.1 in
    let high = atom_sound b.0 c.0.1 c.0.0 c.1 in
    let bounds = low.front ++ Word (codes "and") ∷ high.front in
    let back = Word (codes "between") ∷ bounds in
    let taken : left ≡ bounds ++ rest =
    low.whole ∙ ap (λ ls. low.front ++ ls) (after_is _ a.0.1 b.0 b.1 ∙ ap (λ ls. Word (codes "and") ∷ ls) (high.whole ∙ ap (λ ls. high.front ++ ls) last)) ∙ sym (append_assoc low.front (Word (codes "and") ∷ high.front) rest) in
    record {
      front = not_front negated ++ back;
      whole = h ∙ ap (λ ls. not_front negated ++ Word (codes "between") ∷ ls) taken ∙ sym (append_assoc (not_front negated) back rest);
      spelled = subst (SpellsTest (not_front negated ++ back)) (same_tree c.2) (record {
        front = not_front negated;
        back = back;
        split = refl;
        is_left = spells_not negated;
        is_right = record {
          front = Word (codes "between") ∷ [];
          back = bounds;
          split = refl;
          is_left = refl;
          is_right = record { front = low.front; back = Word (codes "and") ∷ high.front; split = refl; is_left = low.spelled; is_right = record { inner = high.front; prefix = refl; body = high.spelled } };
        };
      });
    }

-- behind LIKE
like_sound : (negated : Bool) (lexemes left rest : List Lexeme) (t : Test) → lexemes ≡ not_front negated ++ Word (codes "like") ∷ left → like_of negated left ≡ Some (t, rest) → Begins SpellsTest lexemes rest t
unfolding like_of
like_sound negated lexemes left rest t h e =
    let a = bind_some (atom_of left) _ (t, rest) e in
    let last : a.0.1 ≡ rest = same_rest a.2 in
    let s = atom_sound left a.0.1 a.0.0 a.1 in
    let back = Word (codes "like") ∷ s.front in
    record {
      front = not_front negated ++ back;
      whole = h ∙ ap (λ ls. not_front negated ++ Word (codes "like") ∷ ls) (s.whole ∙ ap (λ ls. s.front ++ ls) last) ∙ sym (append_assoc (not_front negated) back rest);
      spelled = subst (SpellsTest (not_front negated ++ back)) (same_tree a.2) (record {
        front = not_front negated;
        back = back;
        split = refl;
        is_left = spells_not negated;
        is_right = record { inner = s.front; prefix = refl; body = s.spelled };
      });
    }

-- IN, BETWEEN or LIKE
worded_sound : (negated : Bool) (lexemes left rest : List Lexeme) (t : Test) → lexemes ≡ not_front negated ++ left → worded_of negated left ≡ Some (t, rest) → Begins SpellsTest lexemes rest t
unfolding worded_of
worded_sound negated lexemes left rest t h e =
    either_some (after (Word (codes "in")) left) (member_of negated) _ (t, rest) (λ mid a e. member_sound negated lexemes mid rest t (behind (codes "in") mid a) e)
    (λ e. either_some (after (Word (codes "between")) left) (between_of negated) _ (t, rest) (λ mid a e. between_sound negated lexemes mid rest t (behind (codes "between") mid a) e)
    (λ e. let b = bind_some (after (Word (codes "like")) left) _ (t, rest) e in like_sound negated lexemes b.0 rest t (behind (codes "like") b.0 b.1) b.2) e) e
  where
    behind : (word : List ℕ) (mid : List Lexeme) → after (Word word) left ≡ Some mid → lexemes ≡ not_front negated ++ Word word ∷ mid
    behind word mid a = h ∙ ap (λ ls. not_front negated ++ ls) (after_is _ left mid a)

-- the NULL of a test
null_sound : (negated : Bool) (lexemes left rest : List Lexeme) (t : Test) → lexemes ≡ Word (codes "is") ∷ (not_front negated ++ left) → null_of negated left ≡ Some (t, rest) → Begins SpellsTest lexemes rest t
null_sound negated lexemes left rest t h e =
    let a = bind_some (after (Word (codes "null")) left) _ (t, rest) e in
    let last : a.0 ≡ rest = same_rest a.2 in
    let back = not_front negated ++ Word (codes "null") ∷ [] in
    record {
      front = Word (codes "is") ∷ back;
      whole = h ∙ ap (λ ls. Word (codes "is") ∷ ls) (ap (λ ls. not_front negated ++ ls) (after_is _ left a.0 a.1 ∙ ap (λ ls. Word (codes "null") ∷ ls) last) ∙ sym (append_assoc (not_front negated) (Word (codes "null") ∷ []) rest));
      spelled = subst (SpellsTest (Word (codes "is") ∷ back)) (same_tree a.2) (record {
        front = Word (codes "is") ∷ [];
        back = back;
        split = refl;
        is_left = refl;
        is_right = record { front = not_front negated; back = Word (codes "null") ∷ []; split = refl; is_left = spells_not negated; is_right = refl };
      });
    }

-- behind IS
tested_sound : (lexemes left rest : List Lexeme) (t : Test) → lexemes ≡ Word (codes "is") ∷ left → tested_of left ≡ Some (t, rest) → Begins SpellsTest lexemes rest t
unfolding tested_of not_front
tested_sound lexemes left rest t h e =
    either_some (after (Word (codes "not")) left) (null_of true) (null_of false left) (t, rest)
    (λ mid a e. null_sound true lexemes mid rest t (h ∙ ap (λ ls. Word (codes "is") ∷ ls) (after_is _ left mid a)) e)
    (λ e. null_sound false lexemes left rest t h e)
    e

-- what is read behind a word is spelled so
pub said_sound : IsSound SpellsTest said_of
unfolding said_of not_front
said_sound lexemes rest t e =
    either_some (after (Word (codes "is")) lexemes) tested_of _ (t, rest) (λ left a e. tested_sound lexemes left rest t (after_is _ lexemes left a) e)
    (λ e. either_some (after (Word (codes "not")) lexemes) (worded_of true) (worded_of false lexemes) (t, rest)
    (λ left a e. worded_sound true lexemes left rest t (after_is _ lexemes left a) e)
    (λ e. worded_sound false lexemes lexemes rest t refl e) e) e

-- what is spelled so is read

-- words behind NOT, or without, are read by their first
not_said : (rest : List Lexeme) → said_of (Word (codes "not") ∷ rest) ≡ worded_of true rest
unfolding said_of after
not_said rest = refl

-- behind NOT, if there is one, a word is read
flagged_said : (word : List ℕ) → ((rest : List Lexeme) → said_of (Word word ∷ rest) ≡ worded_of false (Word word ∷ rest)) → (negated : Bool) (front rest : List Lexeme) → SpellsNot front negated → said_of (front ++ Word word ∷ rest) ≡ worded_of negated (Word word ∷ rest)
flagged_said word plain true front rest s = ap (λ ls. said_of (ls ++ Word word ∷ rest)) s ∙ not_said (Word word ∷ rest)
flagged_said word plain false front rest s = ap (λ ls. said_of (ls ++ Word word ∷ rest)) s ∙ plain rest

-- before a word there is no sign that compares
pub no_compare : (word : List ℕ) (rest : List Lexeme) → compare_of (Word word ∷ rest) ≡ None
unfolding compare_of
no_compare word rest = refl

-- the three words
in_said : (negated : Bool) (front rest : List Lexeme) → SpellsNot front negated → said_of (front ++ Word (codes "in") ∷ rest) ≡ member_of negated rest
unfolding said_of worded_of after
in_said negated front rest s = flagged_said (codes "in") (λ rest. refl) negated front rest s

between_said : (negated : Bool) (front rest : List Lexeme) → SpellsNot front negated → said_of (front ++ Word (codes "between") ∷ rest) ≡ between_of negated rest
unfolding said_of worded_of after
between_said negated front rest s = flagged_said (codes "between") (λ rest. refl) negated front rest s

like_said : (negated : Bool) (front rest : List Lexeme) → SpellsNot front negated → said_of (front ++ Word (codes "like") ∷ rest) ≡ like_of negated rest
unfolding said_of worded_of after
like_said negated front rest s = flagged_said (codes "like") (λ rest. refl) negated front rest s

-- a list is read
member_complete : (negated : Bool) (front more : List Lexeme) (list : List Atom) → Bracketed (Commas SpellsAtom) front list → member_of negated (front ++ more) ≡ Some (test.Member negated list, more)
unfolding member_of after
member_complete negated front more list s =
    rw (items_in_brackets_complete SpellsAtom atom_of NoDot (λ rest. refl) (λ rest. refl) atom_complete atom_shrinks front more list s) refl

-- two bounds are read
between_complete : (negated : Bool) (first second more : List Lexeme) (low high : Atom) → NoDot more → SpellsAtom first low → SpellsAtom second high → between_of negated (first ++ Word (codes "and") ∷ (second ++ more)) ≡ Some (test.Between negated low high, more)
unfolding between_of after
between_complete negated first second more low high end f s =
    let lower = atom_complete first (Word (codes "and") ∷ (second ++ more)) low refl f in
    let upper = atom_complete second more high end s in
    rw (lower, upper) refl

-- a pattern is read
like_complete : (negated : Bool) (front more : List Lexeme) (pattern : Atom) → NoDot more → SpellsAtom front pattern → like_of negated (front ++ more) ≡ Some (test.Like negated pattern, more)
unfolding like_of
like_complete negated front more pattern end s = rw (atom_complete front more pattern end s) refl

-- NULL is read, with NOT or without
null_complete : (negated : Bool) (front more : List Lexeme) → SpellsNot front negated → said_of (Word (codes "is") ∷ (front ++ Word (codes "null") ∷ more)) ≡ Some (test.IsNull negated, more)
unfolding said_of tested_of after
null_complete true front more s = rw s refl
null_complete false front more s = rw s refl

-- what a word says is read, where no dot follows
pub said_complete : IsCompleteBefore SpellsTest NoDot said_of
said_complete front more (test.Member negated list) end s =
    let list_tokens = s.is_right.back in
    let back : s.back ++ more ≡ Word (codes "in") ∷ (list_tokens ++ more) = ap (λ ls. ls ++ more) (s.is_right.split ∙ ap (λ ls. ls ++ list_tokens) s.is_right.is_left) in
    let all : front ++ more ≡ s.front ++ Word (codes "in") ∷ (list_tokens ++ more) = ap (λ ls. ls ++ more) s.split ∙ append_assoc s.front s.back more ∙ ap (λ ls. s.front ++ ls) back in
    ap said_of all ∙ in_said negated s.front (list_tokens ++ more) s.is_left ∙ member_complete negated list_tokens more list s.is_right.is_right
said_complete front more (test.Between negated low high) end s =
    let p = s.is_right.is_right in
    let h = p.is_right in
    let rest = p.front ++ Word (codes "and") ∷ (h.inner ++ more) in
    let back : s.back ++ more ≡ Word (codes "between") ∷ rest =
    ap (λ ls. ls ++ more) (s.is_right.split ∙ ap (λ ls. ls ++ s.is_right.back) s.is_right.is_left ∙ ap (λ ls. Word (codes "between") ∷ ls) (p.split ∙ ap (λ ls. p.front ++ ls) h.prefix))
    ∙ ap (λ ls. Word (codes "between") ∷ ls) (append_assoc p.front (Word (codes "and") ∷ h.inner) more) in
    let all : front ++ more ≡ s.front ++ Word (codes "between") ∷ rest = ap (λ ls. ls ++ more) s.split ∙ append_assoc s.front s.back more ∙ ap (λ ls. s.front ++ ls) back in
    ap said_of all ∙ between_said negated s.front rest s.is_left ∙ between_complete negated p.front h.inner more low high end p.is_left h.body
said_complete front more (test.Like negated pattern) end s =
    let l = s.is_right in
    let all : front ++ more ≡ s.front ++ Word (codes "like") ∷ (l.inner ++ more) =
    ap (λ ls. ls ++ more) s.split ∙ append_assoc s.front s.back more ∙ ap (λ ls. s.front ++ (ls ++ more)) l.prefix in
    ap said_of all ∙ like_said negated s.front (l.inner ++ more) s.is_left ∙ like_complete negated l.inner more pattern end l.body
said_complete front more (test.IsNull negated) end s =
    let n = s.is_right in
    let all : front ++ more ≡ Word (codes "is") ∷ (n.front ++ Word (codes "null") ∷ more) =
    ap (λ ls. ls ++ more) (s.split ∙ ap (λ ls. ls ++ s.back) s.is_left ∙ ap (λ ls. Word (codes "is") ∷ ls) (n.split ∙ ap (λ ls. n.front ++ ls) n.is_right))
    ∙ ap (λ ls. Word (codes "is") ∷ ls) (append_assoc n.front (Word (codes "null") ∷ []) more) in
    ap said_of all ∙ null_complete negated n.front more n.is_left

-- a word comes first
pub record BeginsWithWord (tokens : List Lexeme) : Type 0 where
  pub word : List ℕ
  pub rest : List Lexeme
  pub split : tokens ≡ Word word ∷ rest

-- NOT comes first, or what follows without it
flag_begins : (negated : Bool) (front back more : List Lexeme) → SpellsNot front negated → BeginsWithWord (back ++ more) → (whole : List Lexeme) → whole ≡ front ++ back → BeginsWithWord (whole ++ more)
flag_begins true front back more s w whole e = record { word = codes "not"; rest = back ++ more; split = rw (e, s) refl }
flag_begins false front back more s w whole e = record { word = w.word; rest = w.rest; split = rw (e, s) w.split }

-- what a word says of an atom begins with a word
pub said_begins : (back more : List Lexeme) (t : Test) → SpellsTest back t → BeginsWithWord (back ++ more)
said_begins back more (test.Member negated list) s =
    flag_begins negated s.front s.back more s.is_left (record { word = codes "in"; rest = s.is_right.back ++ more; split = rw (s.is_right.split, s.is_right.is_left) refl }) back s.split
said_begins back more (test.Between negated low high) s =
    flag_begins negated s.front s.back more s.is_left (record { word = codes "between"; rest = s.is_right.back ++ more; split = rw (s.is_right.split, s.is_right.is_left) refl }) back s.split
said_begins back more (test.Like negated pattern) s =
    flag_begins negated s.front s.back more s.is_left (record { word = codes "like"; rest = s.is_right.inner ++ more; split = rw s.is_right.prefix refl }) back s.split
said_begins back more (test.IsNull negated) s = record { word = codes "is"; rest = s.back ++ more; split = rw (s.split, s.is_left) refl }

-- before a word, and before a sign that compares, there is no dot
pub word_ends : (word : List ℕ) (rest : List Lexeme) → NoDot (Word word ∷ rest)
unfolding after
word_ends word rest = refl

pub compare_ends : (op : Cmp) (rest : List Lexeme) → NoDot (Sign (comparison_symbol op) ∷ rest)
unfolding after
compare_ends Eq rest = refl
compare_ends Ne rest = refl
compare_ends Lt rest = refl
compare_ends Le rest = refl
compare_ends Gt rest = refl
compare_ends Ge rest = refl
