-- Conditions are shown with the brackets that the same tree needs.
use Rattle.std.proofs.Common.{◌≡◌, ℕ, zero, suc, Bool, List, [], ◌∷◌, ◌++◌, map, refl, sym, ap, ◌∙◌, subst, append_assoc, inl, inr}
use Rattle.std.specs.List.{All}
use Rattle.std.specs.Prelude.{codes}
use Rattle.mt_lexer.specs.Tokens.{Lexeme, Word, Sign}
use Rattle.mt_lexer.specs.declared.token.Symbol.TheVariants as symbol
use Rattle.mt_value.specs.declared.truth.Cmp.{Cmp}
use Rattle.mt_tree.specs.declared.expression.Atom.{Atom}
use Rattle.mt_tree.specs.declared.expression.Cond.{Cond}
use Rattle.mt_tree.specs.declared.expression.Cond.TheVariants as cond
use Rattle.mt_reader.specs.Forms.{Form, Joined, Bracketed, Behind, word}
use Rattle.mt_terms.specs.Expression.{SpellsAtom}
use Rattle.mt_terms.specs.Condition.{comparison_symbol, AtomThen, NotThen, WordThen, SpellsPlain, SpellsNegated, SpellsOr, SpellsNeg, SpellsCond}
use Rattle.mt_show.specs.Text.{IsWritten}
use Rattle.mt_show.specs.Shown.{never_bracketed, between, atom_tokens, not_tokens, cond_places, cond_tokens, comparison_tokens, membership_tokens, range_tokens, likeness_tokens, null_test_tokens}
use Rattle.mt_show.proofs.Levels.{places_or, places_and, places_not, places_comparison, places_membership, places_range, places_likeness, places_null_test}
use Rattle.mt_show.proofs.ShownForms.{Prints, Gives, Shows, Grows, written_inside, parts_give, bracketed_shows, behind_shows, separated_shows, bracketed_grows, behind_grows, joined_grows, written_one}
use Rattle.mt_show.proofs.ShownAtoms.{keyword, one_word, flag_shows, word_gives, atom_shows}
use Rattle.mt_show.proofs.ShownLevels.{At, at_never, at_inside, at_member, at_grows, many_shows}

-- what is shown of a condition as a member of an AND
abbrev neg_tokens : Cond → List Lexeme
neg_tokens c = (cond_places c).inner

-- and as a member of an OR
abbrev and_tokens : Cond → List Lexeme
and_tokens c = (cond_places c).outer

-- predicates

-- A predicate is shown alike at each place, by tokens that spell it.
record IsPlainShown (c : Cond) : Type 0 where
  pub tokens : List Lexeme
  pub places : cond_places c ≡ never_bracketed tokens
  pub gives : Gives (λ tokens. SpellsPlain tokens c) tokens

-- an atom and more
atom_then : (a : Atom) {more : List Lexeme → Type 0} (shown : List Lexeme) → Gives more shown → Gives (AtomThen a more) (atom_tokens a ++ shown)
atom_then a shown gives = parts_give (atom_tokens a) shown (atom_shows a) gives

-- an atom, perhaps NOT, and more
not_then : (a : Atom) (negated : Bool) {more : List Lexeme → Type 0} (shown : List Lexeme) → Gives more shown → Gives (AtomThen a (NotThen negated more)) (atom_tokens a ++ not_tokens negated ++ shown)
not_then a negated {more} shown gives =
    subst (Gives (AtomThen a (NotThen negated more))) (sym (append_assoc (atom_tokens a) (not_tokens negated) shown))
    (atom_then a (not_tokens negated ++ shown) (parts_give (not_tokens negated) shown (flag_shows (codes "not") negated) gives))

-- a word and more
word_then : (name : List ℕ) {more : List Lexeme → Type 0} (shown : List Lexeme) → Gives more shown → Gives (WordThen name more) (Word name ∷ shown)
word_then name shown gives = parts_give (word name) shown (word_gives name) gives

-- an atom behind a word or a sign
behind_atom : (lexeme : Lexeme) → IsWritten lexeme → Shows (Behind (lexeme ∷ []) SpellsAtom) (λ a. lexeme ∷ atom_tokens a)
behind_atom lexeme p = behind_shows atom_tokens atom_shows (lexeme ∷ []) (written_one lexeme p)

-- a comparison
compare_shown : (op : Cmp) (left right : Atom) → IsPlainShown (cond.Compare op left right)
compare_shown op left right = record {
  tokens = comparison_tokens op left right;
  places = places_comparison op left right;
  gives = atom_then left _ (behind_atom (Sign (comparison_symbol op)) tt right);
}

-- a list
member_shown : (negated : Bool) (a : Atom) (list : List Atom) → IsPlainShown (cond.Member negated a list)
member_shown negated a list = record {
  tokens = membership_tokens negated a list;
  places = places_membership negated a list;
  gives = not_then a negated _ (word_then (codes "in") _ (bracketed_shows _ (separated_shows atom_tokens atom_shows (Sign symbol.Comma) tt) list));
}

-- bounds
between_shown : (negated : Bool) (a low high : Atom) → IsPlainShown (cond.Between negated a low high)
between_shown negated a low high = record {
  tokens = range_tokens negated a low high;
  places = places_range negated a low high;
  gives = not_then a negated _ (word_then (codes "between") _ (atom_then low _ (behind_atom (Word (codes "and")) (keyword (codes "and") refl) high)));
}

-- a pattern
like_shown : (negated : Bool) (a pattern : Atom) → IsPlainShown (cond.Like negated a pattern)
like_shown negated a pattern = record {
  tokens = likeness_tokens negated a pattern;
  places = places_likeness negated a pattern;
  gives = not_then a negated _ (behind_atom (Word (codes "like")) (keyword (codes "like") refl) pattern);
}

-- NULL
null_shown : (negated : Bool) (a : Atom) → IsPlainShown (cond.IsNull negated a)
null_shown negated a = record {
  tokens = null_test_tokens negated a;
  places = places_null_test negated a;
  gives = atom_then a _ (word_then (codes "is") _ (parts_give _ _ (flag_shows (codes "not") negated) (word_gives (codes "null"))));
}

-- a predicate
plain_shown : (c : Cond) (tokens : List Lexeme) → SpellsPlain tokens c → IsPlainShown c
plain_shown (cond.Compare op left right) tokens s = compare_shown op left right
plain_shown (cond.Member negated a list) tokens s = member_shown negated a list
plain_shown (cond.Between negated a low high) tokens s = between_shown negated a low high
plain_shown (cond.Like negated a pattern) tokens s = like_shown negated a pattern
plain_shown (cond.IsNull negated a) tokens s = null_shown negated a
plain_shown other tokens s = elim s [ ]

-- the levels of conditions

-- AND, of such members
abbrev SpellsAnd : ℕ → List Lexeme → Cond → Type 0
SpellsAnd depth tokens c = Joined (SpellsNeg depth) (Word (codes "and")) cond.And tokens c

-- forms that spell more
or_grows : {from to : Form Cond} → Grows from to → Grows (SpellsOr from) (SpellsOr to)
or_grows grows = joined_grows (joined_grows grows (Word (codes "and")) cond.And) (Word (codes "or")) cond.Or

-- brackets and NOT one deeper
neg_grows : (depth : ℕ) → Grows (SpellsNeg depth) (SpellsNeg (suc depth))
neg_grows zero tokens c s = inl s
neg_grows (suc depth) tokens c (inl plain) = inl plain
neg_grows (suc depth) tokens c (inr (inl negated)) = inr (inl (negated.0, negated.1, behind_grows (neg_grows depth) (Word (codes "not") ∷ []) tokens negated.0 negated.2))
neg_grows (suc depth) tokens c (inr (inr closed)) = inr (inr (bracketed_grows (or_grows (neg_grows depth)) tokens c closed))

-- AND of deeper members
and_grows : (depth : ℕ) → Grows (SpellsAnd depth) (SpellsAnd (suc depth))
and_grows depth = joined_grows (neg_grows depth) (Word (codes "and")) cond.And

-- at which places a condition is spelled with the brackets and NOT of these depths
abbrev AtDepths : ℕ → ℕ → ℕ → Cond → Type 0
AtDepths inner outer whole c = At (SpellsNeg inner) (SpellsAnd outer) (SpellsOr (SpellsNeg whole)) (cond_places c) c

-- what written tokens spell in the form is spelled so
abbrev ShowsDepths : Form Cond → ℕ → ℕ → ℕ → Type 0
ShowsDepths form inner outer whole = (c : Cond) (tokens : List Lexeme) → All IsWritten tokens → form tokens c → AtDepths inner outer whole c

-- what needs brackets nowhere
never_shown : (depth : ℕ) (c : Cond) (tokens : List Lexeme) → cond_places c ≡ never_bracketed tokens → Prints (SpellsNeg depth) c tokens → AtDepths depth depth depth c
never_shown depth c tokens e p = at_never tokens e (λ tokens c s. inl s) (λ tokens c s. inl s) p

-- a predicate
plain_shows : (depth : ℕ) → Grows SpellsPlain (SpellsNeg depth) → ShowsDepths SpellsPlain depth depth depth
plain_shows depth grows c tokens w s =
    let shown = plain_shown c tokens s in
    let p = shown.gives tokens w s in
    never_shown depth c shown.tokens shown.places (grows shown.tokens c p.0, p.1)

-- a condition in brackets stands where a NOT does
closed : (depth : ℕ) → Grows (Bracketed (SpellsOr (SpellsNeg depth))) (SpellsNeg (suc depth))
closed depth tokens c s = inr (inr s)

-- a NOT
negated_shows : (depth : ℕ) → ShowsDepths (SpellsNeg depth) depth depth depth → ShowsDepths (SpellsNegated (SpellsNeg depth)) (suc depth) (suc depth) (suc depth)
negated_shows depth neg c tokens w s =
    let inner : Shows (SpellsNeg depth) neg_tokens = λ c tokens w s. (neg c tokens w s).as_inner in
    let p = behind_shows neg_tokens inner (word (codes "not")) (one_word (codes "not") refl) s.0 tokens w s.2 in
    never_shown (suc depth) c (Word (codes "not") ∷ neg_tokens s.0) (ap cond_places s.1 ∙ places_not s.0) (inr (inl (s.0, s.1, p.0)), p.1)

-- AND
and_shows : (depth : ℕ) → ShowsDepths (SpellsNeg depth) depth depth depth → ShowsDepths (SpellsAnd depth) (suc depth) depth depth
and_shows depth neg c tokens w (inl alone) = at_grows (neg c tokens w alone) (neg_grows depth) (λ tokens c s. s) (λ tokens c s. s)
and_shows depth neg c tokens w (inr many) =
    let members : Shows (SpellsNeg depth) neg_tokens = λ c tokens w s. (neg c tokens w s).as_inner in
    let shown = between (Word (codes "and")) (map neg_tokens many.members) in
    at_inside shown (ap cond_places many.joined ∙ places_and many.members) (closed depth) (λ tokens c s. inl s) (many_shows neg_tokens members (Word (codes "and")) cond.And (keyword (codes "and") refl) c tokens w many)

-- OR
or_shows : (depth : ℕ) → ShowsDepths (SpellsAnd depth) (suc depth) depth depth → ShowsDepths (SpellsOr (SpellsNeg depth)) (suc depth) (suc depth) depth
or_shows depth and c tokens w (inl alone) = at_grows (and c tokens w alone) (λ tokens c s. s) (and_grows depth) (λ tokens c s. s)
or_shows depth and c tokens w (inr many) =
    let members : Shows (SpellsAnd depth) and_tokens = λ c tokens w s. (and c tokens w s).as_outer in
    let shown = between (Word (codes "or")) (map and_tokens many.members) in
    at_member shown (ap cond_places many.joined ∙ places_or many.members) (closed depth) (λ tokens c s. inl s) (many_shows and_tokens members (Word (codes "or")) cond.Or (keyword (codes "or") refl) c tokens w many)

-- what is in brackets needs none more
neg_shows : (depth : ℕ) → ShowsDepths (SpellsNeg depth) depth depth depth
neg_shows zero c tokens w s = plain_shows zero (λ tokens c s. s) c tokens w s
neg_shows (suc depth) c tokens w (inl plain) = plain_shows (suc depth) (λ tokens c s. inl s) c tokens w plain
neg_shows (suc depth) c tokens w (inr (inl negated)) = negated_shows depth (neg_shows depth) c tokens w negated
neg_shows (suc depth) c tokens w (inr (inr inner)) =
    let written : All IsWritten inner.inner = written_inside inner.inner tokens inner.brackets w in
    at_grows (or_shows depth (and_shows depth (neg_shows depth)) c inner.inner written inner.body) (λ tokens c s. s) (λ tokens c s. s) (or_grows (neg_grows depth))

-- a condition
pub cond_shows : Shows SpellsCond cond_tokens
unfolding SpellsCond
cond_shows c tokens w s = (or_shows 64 (and_shows 64 (neg_shows 64)) c tokens w s).as_whole
