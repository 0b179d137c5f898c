-- Conditions: what is read is spelled so, and what is spelled so is read.
use Rattle.std.proofs.Common.{◌≡◌, ℕ, zero, suc, ◌<◌, Option, Some, None, List, ◌∷◌, ◌++◌, length, refl, sym, ap, ◌∙◌, subst, append_assoc, length-append, inl, inr, arith}
use Rattle.std.specs.Option.{option_and_then}
use Rattle.std.specs.Prelude.{codes}
use Rattle.mt_lexer.specs.declared.token.Symbol.TheVariants as symbol
use Rattle.mt_lexer.specs.Tokens.{Lexeme, Word, Sign}
use Rattle.mt_value.specs.declared.truth.Cmp.{Cmp}
use Rattle.mt_tree.specs.declared.expression.Atom.{Atom}
use Rattle.mt_tree.specs.declared.expression.Cond.{Cond}
use Rattle.mt_tree.specs.declared.expression.Cond.TheVariants as cond
use Rattle.mt_reader.specs.Descent.{after, either, closed_of, literal_of}
use Rattle.mt_reader.specs.Forms.{Form, Joined}
use Rattle.mt_reader.specs.Fronts.{Begins}
use Rattle.mt_lexer.specs.Reserved.{reserved}
use Rattle.mt_reader.proofs.Bracketing.{brackets_append, closed_sound, closed_read}
use Rattle.mt_reader.proofs.Eithers.{either_some}
use Rattle.mt_reader.proofs.Shrinking.{bind_some, same_tree, same_rest}
use Rattle.mt_reader.proofs.Joining.{joined_sound, joined_complete_before}
use Rattle.mt_reader.proofs.Spelling.{IsSound, IsCompleteBefore, Shrinks, sound_shrinks, separated_nonempty, after_is}
use Rattle.mt_terms.specs.declared.test.Test.{Test}
use Rattle.mt_terms.specs.declared.test.Test.TheVariants as test
use Rattle.mt_terms.specs.Condition.{comparison_symbol, AtomThen, SpellsPlain, SpellsOr, SpellsNeg, SpellsCond}
use Rattle.mt_terms.specs.Expression.{SpellsAtom}
use Rattle.mt_terms.specs.Descent.{atom_of, literal_atom_of, reserved_atom_of, agg_of, compare_of, said_of, cond_with, compared_of, said_with, tested_behind, plain_of, and_of, or_of, denied_of, neg_of, cond_of}
use Rattle.mt_terms.proofs.Atoms.{NoDot, atom_sound, atom_complete, atom_nonempty}
use Rattle.mt_terms.proofs.Predicates.{SpellsTest, compare_is, compare_read, said_sound, no_compare, said_complete, said_begins, word_ends, compare_ends}

-- predicates

-- an atom, a sign that compares and another atom are a comparison
module _ (lexemes mid : List Lexeme) (a : Atom) (first : atom_of lexemes ≡ Some (a, mid)) where
  pub plain_of-compared : (behind : List Lexeme) (op : Cmp) → compare_of mid ≡ Some (op, behind) → plain_of lexemes ≡ compared_of op a behind
  unfolding plain_of
  plain_of-compared behind op sign = rw (first, sign) refl

  -- an atom and what a word says of it are another predicate
  pub plain_of-said : compare_of mid ≡ None → plain_of lexemes ≡ said_with a mid
  unfolding plain_of
  plain_of-said none = rw (first, none) refl

-- an atom and what a word says of it spell a predicate
with_spelled : (tokens : List Lexeme) (a : Atom) (t : Test) → AtomThen a (λ back. SpellsTest back t) tokens → SpellsPlain tokens (cond_with a t)
with_spelled tokens a (test.Member negated list) s = s
with_spelled tokens a (test.Between negated low high) s = s
with_spelled tokens a (test.Like negated pattern) s = s
with_spelled tokens a (test.IsNull negated) s = s

module _ (lexemes mid rest : List Lexeme) (a : Atom) (c : Cond) (s : Begins SpellsAtom lexemes mid a) where
  -- what is read as a comparison is one
  compared_sound : (behind : List Lexeme) (op : Cmp) → compare_of mid ≡ Some (op, behind) → compared_of op a behind ≡ Some (c, rest) → Begins SpellsPlain lexemes rest c
  compared_sound behind op h e =
      let b = bind_some (atom_of behind) _ (c, rest) e in
      let t = atom_sound behind b.0.1 b.0.0 b.1 in
      let back = Sign (comparison_symbol op) ∷ t.front in
      let taken : mid ≡ back ++ rest = compare_is mid behind op h ∙ ap (λ ls. Sign (comparison_symbol op) ∷ ls) (t.whole ∙ ap (λ ls. t.front ++ ls) (same_rest b.2)) in
      record {
        front = s.front ++ back;
        whole = s.whole ∙ ap (λ ls. s.front ++ ls) taken ∙ sym (append_assoc s.front back rest);
        spelled = subst (SpellsPlain (s.front ++ back)) (same_tree b.2) (record {
          front = s.front;
          back = back;
          split = refl;
          is_left = s.spelled;
          is_right = record { inner = t.front; prefix = refl; body = t.spelled };
        });
      }

  -- what is read with a word is a predicate
  said_with_sound : said_with a mid ≡ Some (c, rest) → Begins SpellsPlain lexemes rest c
  said_with_sound e =
      let b = bind_some (said_of mid) _ (c, rest) e in
      let t = said_sound mid b.0.1 b.0.0 b.1 in
      record {
        front = s.front ++ t.front;
        whole = s.whole ∙ ap (λ ls. s.front ++ ls) (t.whole ∙ ap (λ ls. t.front ++ ls) (same_rest b.2)) ∙ sym (append_assoc s.front t.front rest);
        spelled = subst (SpellsPlain (s.front ++ t.front)) (same_tree b.2) (with_spelled (s.front ++ t.front) a b.0.0 (record { front = s.front; back = t.front; split = refl; is_left = s.spelled; is_right = t.spelled }));
      }

-- what is read is a predicate
plain_sound : IsSound SpellsPlain plain_of
unfolding plain_of
plain_sound lexemes rest c e =
    let a = bind_some (atom_of lexemes) _ (c, rest) e in
    by_sign a.0.0 a.0.1 (atom_sound lexemes a.0.1 a.0.0 a.1) (compare_of a.0.1) refl a.2 where
      by_sign : (a : Atom) (mid : List Lexeme) → Begins SpellsAtom lexemes mid a → (sign : Option (Cmp × List Lexeme)) → compare_of mid ≡ sign → tested_behind a sign mid ≡ Some (c, rest) → Begins SpellsPlain lexemes rest c
      by_sign a mid s (Some sign) h e = compared_sound lexemes mid rest a c s sign.1 sign.0 h e
      by_sign a mid s None h e = said_with_sound lexemes mid rest a c s e

-- a comparison is read
compared_complete : (front more : List Lexeme) (op : Cmp) (left right : Atom) → NoDot more → SpellsPlain front (cond.Compare op left right) → plain_of (front ++ more) ≡ Some (cond.Compare op left right, more)
unfolding plain_of
compared_complete front more op left right end s =
    let rest = s.is_right.inner ++ more in
    let all : front ++ more ≡ s.front ++ Sign (comparison_symbol op) ∷ rest =
    ap (λ ls. ls ++ more) s.split ∙ append_assoc s.front s.back more ∙ ap (λ ls. s.front ++ (ls ++ more)) s.is_right.prefix in
    let first = atom_complete s.front (Sign (comparison_symbol op) ∷ rest) left (compare_ends op rest) s.is_left in
    let second = atom_complete s.is_right.inner more right end s.is_right.body in
    ap plain_of all ∙ rw (first, compare_read op rest, second) refl

-- an atom and what a word says of it are read
with_complete : (front more : List Lexeme) (a : Atom) (t : Test) → NoDot more → AtomThen a (λ back. SpellsTest back t) front → plain_of (front ++ more) ≡ Some (cond_with a t, more)
unfolding plain_of
with_complete front more a t end s =
    let w = said_begins s.back more t s.is_right in
    let dot : NoDot (s.back ++ more) = subst NoDot (sym w.split) (word_ends w.word w.rest) in
    let sign : compare_of (s.back ++ more) ≡ None = ap compare_of w.split ∙ no_compare w.word w.rest in
    ap (λ ls. plain_of (ls ++ more)) s.split
    ∙ ap plain_of (append_assoc s.front s.back more)
    ∙ rw (atom_complete s.front (s.back ++ more) a dot s.is_left, sign, said_complete s.back more t end s.is_right) refl

-- a predicate is read, where no dot follows
plain_complete : IsCompleteBefore SpellsPlain NoDot plain_of
plain_complete front more (cond.Compare op left right) end s = compared_complete front more op left right end s
plain_complete front more (cond.Member negated a list) end s = with_complete front more a (test.Member negated list) end s
plain_complete front more (cond.Between negated a low high) end s = with_complete front more a (test.Between negated low high) end s
plain_complete front more (cond.Like negated a pattern) end s = with_complete front more a (test.Like negated pattern) end s
plain_complete front more (cond.IsNull negated a) end s = with_complete front more a (test.IsNull negated) end s
plain_complete front more other end s = elim s [ ]

-- what begins with an atom has a lexeme at least
then_nonempty : (a : Atom) (more : List Lexeme → Type 0) (front : List Lexeme) → AtomThen a more front → 0 < length front
then_nonempty a more front s = omega (arith, ap length s.split, length-append s.front s.back, atom_nonempty s.front a s.is_left)

-- and so has a predicate
plain_nonempty : (front : List Lexeme) (c : Cond) → SpellsPlain front c → 0 < length front
plain_nonempty front (cond.Compare op a right) s = then_nonempty a _ front s
plain_nonempty front (cond.Member negated a list) s = then_nonempty a _ front s
plain_nonempty front (cond.Between negated a low high) s = then_nonempty a _ front s
plain_nonempty front (cond.Like negated a pattern) s = then_nonempty a _ front s
plain_nonempty front (cond.IsNull negated a) s = then_nonempty a _ front s
plain_nonempty front other s = elim s [ ]

-- neither NOT nor a bracket begins a predicate
no_plain_not : (left : List Lexeme) → plain_of (Word (codes "not") ∷ left) ≡ None
unfolding plain_of atom_of reserved_atom_of agg_of after reserved
no_plain_not left = refl

no_plain_open : (left : List Lexeme) → plain_of (Sign symbol.Open ∷ left) ≡ None
unfolding plain_of atom_of literal_atom_of literal_of after
no_plain_open left = refl

-- what begins no predicate does not come first
not_first : (lexeme : Lexeme) → ((left : List Lexeme) → plain_of (lexeme ∷ left) ≡ None) → (lexemes rest : List Lexeme) (c : Cond) → plain_of lexemes ≡ Some (c, rest) → after lexeme lexemes ≡ None
not_first lexeme none lexemes rest c e = by_found (after lexeme lexemes) refl where
  by_found : (found : Option (List Lexeme)) → after lexeme lexemes ≡ found → after lexeme lexemes ≡ None
  by_found None a = a
  by_found (Some left) a =
      let both : ◌≡◌ {A = Option (Cond × List Lexeme)} None (Some (c, rest)) = sym (none left) ∙ ap plain_of (sym (after_is _ lexemes left a)) ∙ e in
      cc

-- AND and OR

-- the tokens do not go on with AND
abbrev EndsAnd : List Lexeme → Type 0
EndsAnd tokens = NoDot tokens × (after (Word (codes "and")) tokens ≡ None)

-- the tokens do not go on with OR
abbrev pub EndsOr : List Lexeme → Type 0
EndsOr tokens = EndsAnd tokens × (after (Word (codes "or")) tokens ≡ None)

module _ (form : Form Cond) (neg : List Lexeme → Option (Cond × List Lexeme)) where
  abbrev SpellsAnd : List Lexeme → Cond → Type 0
  SpellsAnd tokens c = Joined form (Word (codes "and")) cond.And tokens c

  -- what is read is joined by AND
  pub and_sound : IsSound form neg → IsSound SpellsAnd (and_of neg)
  unfolding and_of
  and_sound sound = joined_sound form neg (Word (codes "and")) cond.And sound

  -- a joined condition has a lexeme at least
  pub and_nonempty : ((front : List Lexeme) (c : Cond) → form front c → 0 < length front) → (front : List Lexeme) (c : Cond) → SpellsAnd front c → 0 < length front
  and_nonempty nonempty front c s = elim s [ inl one ↦ nonempty front c one | inr m ↦ separated_nonempty form (Word (codes "and")) nonempty front m.members m.separated ]

  -- what is joined by AND is read
  and_complete : IsCompleteBefore form NoDot neg → Shrinks neg → IsCompleteBefore SpellsAnd EndsAnd (and_of neg)
  unfolding and_of after
  and_complete complete shrinks front more c end s = joined_complete_before form neg (Word (codes "and")) cond.And NoDot refl (λ rest. refl) complete shrinks front more c end.0 end.1 s

module _ (form : Form Cond) (neg : List Lexeme → Option (Cond × List Lexeme)) where
  -- what is read is joined by OR
  pub or_sound : IsSound form neg → IsSound (SpellsOr form) (or_of neg)
  unfolding or_of
  or_sound sound = joined_sound (SpellsAnd form neg) (and_of neg) (Word (codes "or")) cond.Or (and_sound form neg sound)

  -- it has a lexeme at least
  pub or_nonempty : ((front : List Lexeme) (c : Cond) → form front c → 0 < length front) → (front : List Lexeme) (c : Cond) → SpellsOr form front c → 0 < length front
  or_nonempty nonempty front c s = elim s [ inl one ↦ and_nonempty form neg nonempty front c one | inr m ↦ separated_nonempty (SpellsAnd form neg) (Word (codes "or")) (and_nonempty form neg nonempty) front m.members m.separated ]

  -- what is joined by OR is read
  pub or_complete : IsSound form neg → ((front : List Lexeme) (c : Cond) → form front c → 0 < length front) → IsCompleteBefore form NoDot neg → IsCompleteBefore (SpellsOr form) EndsOr (or_of neg)
  unfolding or_of after
  or_complete sound nonempty complete front more c end s =
      let shrinks : Shrinks neg = sound_shrinks form neg sound nonempty in
      let and_shrinks : Shrinks (and_of neg) = sound_shrinks (SpellsAnd form neg) (and_of neg) (and_sound form neg sound) (and_nonempty form neg nonempty) in
      joined_complete_before (SpellsAnd form neg) (and_of neg) (Word (codes "or")) cond.Or EndsAnd refl (λ rest. (refl, refl)) (and_complete form neg complete shrinks) and_shrinks front more c end.0 end.1 s

-- NOT and brackets

-- one more level has a lexeme at least
neg_nonempty : (depth : ℕ) (front : List Lexeme) (c : Cond) → SpellsNeg depth front c → 0 < length front
neg_nonempty zero front c s = plain_nonempty front c s
neg_nonempty (suc depth) front c s = elim s [
  | inl one ↦ plain_nonempty front c one
  | inr (inl n) ↦ omega (arith, ap length n.2.prefix)
  | inr (inr b) ↦ omega (arith, ap length b.brackets)
]

module _ (depth : ℕ) (lexemes rest : List Lexeme) (c : Cond) where
  -- behind a bracket
  bracket_sound : IsSound (SpellsOr (SpellsNeg depth)) (or_of (neg_of depth)) → (left : List Lexeme) → lexemes ≡ Sign symbol.Open ∷ left → closed_of (or_of (neg_of depth)) left ≡ Some (c, rest) → Begins (SpellsNeg (suc depth)) lexemes rest c
  bracket_sound sound left h e =
      let s = closed_sound (SpellsOr (SpellsNeg depth)) (or_of (neg_of depth)) sound lexemes left rest c h e in
      record { front = s.front; whole = s.whole; spelled = inr (inr s.spelled) }

  -- behind NOT
  not_sound : IsSound (SpellsNeg depth) (neg_of depth) → (left : List Lexeme) → lexemes ≡ Word (codes "not") ∷ left → denied_of (neg_of depth) left ≡ Some (c, rest) → Begins (SpellsNeg (suc depth)) lexemes rest c
  not_sound sound left h e =
      let a = bind_some (neg_of depth left) _ (c, rest) e in
      let s = sound left a.0.1 a.0.0 a.1 in
      let front = Word (codes "not") ∷ s.front in
      record {
        front = front;
        whole = h ∙ ap (λ ls. Word (codes "not") ∷ ls) (s.whole ∙ ap (λ ls. s.front ++ ls) (same_rest a.2));
        spelled = subst (SpellsNeg (suc depth) front) (same_tree a.2) (inr (inl (a.0.0, refl, record { inner = s.front; prefix = refl; body = s.spelled })));
      }

  -- a predicate
  plain_neg : plain_of lexemes ≡ Some (c, rest) → Begins (SpellsNeg (suc depth)) lexemes rest c
  plain_neg e = let s = plain_sound lexemes rest c e in record { front = s.front; whole = s.whole; spelled = inl s.spelled }

-- what is read is spelled so
pub neg_sound : (depth : ℕ) → IsSound (SpellsNeg depth) (neg_of depth)
unfolding neg_of
neg_sound zero lexemes rest c e = plain_sound lexemes rest c e
neg_sound (suc depth) lexemes rest c e =
    let sound = neg_sound depth in
    either_some (after (Word (codes "not")) lexemes) (denied_of (neg_of depth)) _ (c, rest) (λ left a e. not_sound depth lexemes rest c sound left (after_is _ lexemes left a) e)
    (λ e. either_some (after (Sign symbol.Open) lexemes) (closed_of (or_of (neg_of depth))) (plain_of lexemes) (c, rest)
    (λ left a e. bracket_sound depth lexemes rest c (or_sound (SpellsNeg depth) (neg_of depth) sound) left (after_is _ lexemes left a) e)
    (λ e. plain_neg depth lexemes rest c e) e) e

-- and so takes a lexeme at least
pub neg_shrinks : (depth : ℕ) → Shrinks (neg_of depth)
neg_shrinks depth = sound_shrinks (SpellsNeg depth) (neg_of depth) (neg_sound depth) (neg_nonempty depth)

-- and so does what is joined by AND
pub and_shrinks : (depth : ℕ) → Shrinks (and_of (neg_of depth))
and_shrinks depth = sound_shrinks (SpellsAnd (SpellsNeg depth) (neg_of depth)) (and_of (neg_of depth)) (and_sound (SpellsNeg depth) (neg_of depth) (neg_sound depth)) (and_nonempty (SpellsNeg depth) (neg_of depth) (neg_nonempty depth))

-- a predicate is read one level up
plain_up : (depth : ℕ) (lexemes more : List Lexeme) (c : Cond) → plain_of lexemes ≡ Some (c, more) → neg_of (suc depth) lexemes ≡ Some (c, more)
unfolding neg_of
plain_up depth lexemes more c read =
    let in_brackets = closed_of (or_of (neg_of depth)) in
    ap (λ found. either found (denied_of (neg_of depth)) (either (after (Sign symbol.Open) lexemes) in_brackets (plain_of lexemes))) (not_first (Word (codes "not")) no_plain_not lexemes more c read)
    ∙ ap (λ found. either found in_brackets (plain_of lexemes)) (not_first (Sign symbol.Open) no_plain_open lexemes more c read)
    ∙ read

-- a NOT is read
not_up : (depth : ℕ) (inner more : List Lexeme) (c : Cond) → neg_of depth (inner ++ more) ≡ Some (c, more) → neg_of (suc depth) (Word (codes "not") ∷ (inner ++ more)) ≡ Some (cond.Not c, more)
unfolding neg_of after
not_up depth inner more c read = ap (option_and_then (λ (found : Cond × List Lexeme). Some (cond.Not found.0, found.1))) read

-- brackets are read
bracket_up : (depth : ℕ) (inner more : List Lexeme) (c : Cond) → or_of (neg_of depth) (inner ++ Sign symbol.Close ∷ more) ≡ Some (c, Sign symbol.Close ∷ more) → neg_of (suc depth) (Sign symbol.Open ∷ (inner ++ Sign symbol.Close ∷ more)) ≡ Some (c, more)
unfolding neg_of after
bracket_up depth inner more c read = closed_read (SpellsOr (SpellsNeg depth)) (or_of (neg_of depth)) (inner ++ Sign symbol.Close ∷ more) more c read

-- before a bracket that closes a condition ends
ends_before_close : (rest : List Lexeme) → EndsOr (Sign symbol.Close ∷ rest)
unfolding after
ends_before_close rest = ((refl, refl), refl)

-- what is spelled so is read, where no dot follows
pub neg_complete : (depth : ℕ) → IsCompleteBefore (SpellsNeg depth) NoDot (neg_of depth)
unfolding neg_of
neg_complete zero front more c end s = plain_complete front more c end s
neg_complete (suc depth) front more c end s = elim s [
  | inl one ↦ plain_up depth (front ++ more) more c (plain_complete front more c end one)
  | inr (inl n) ↦
      ap (λ ls. neg_of (suc depth) (ls ++ more)) n.2.prefix
      ∙ not_up depth n.2.inner more n.0 (neg_complete depth n.2.inner more n.0 end n.2.body)
      ∙ ap (λ tree. Some (tree, more)) (sym n.1)
  | inr (inr b) ↦
      let all : front ++ more ≡ Sign symbol.Open ∷ (b.inner ++ Sign symbol.Close ∷ more) = ap (λ ls. ls ++ more) b.brackets ∙ brackets_append b.inner more in
      let read = or_complete (SpellsNeg depth) (neg_of depth) (neg_sound depth) (neg_nonempty depth) (neg_complete depth) b.inner (Sign symbol.Close ∷ more) c (ends_before_close more) b.body in
      ap (neg_of (suc depth)) all ∙ bracket_up depth b.inner more c read
]

-- conditions

-- what is read is a condition
pub cond_sound : IsSound SpellsCond cond_of
unfolding SpellsCond cond_of
cond_sound = or_sound (SpellsNeg 64) (neg_of 64) (neg_sound 64)

-- a condition is read
pub cond_complete : IsCompleteBefore SpellsCond EndsOr cond_of
unfolding SpellsCond cond_of
cond_complete = or_complete (SpellsNeg 64) (neg_of 64) (neg_sound 64) (neg_nonempty 64) (neg_complete 64)

-- a condition has a lexeme at least
pub cond_nonempty : (front : List Lexeme) (c : Cond) → SpellsCond front c → 0 < length front
unfolding SpellsCond
cond_nonempty = or_nonempty (SpellsNeg 64) (neg_of 64) (neg_nonempty 64)

-- and so takes one
pub cond_shrinks : Shrinks cond_of
cond_shrinks = sound_shrinks SpellsCond cond_of cond_sound cond_nonempty
