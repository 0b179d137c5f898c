-- Keys of ORDER BY: what is read is spelled so, and what is spelled so is read.
use Rattle.std.proofs.Common.{◌≡◌, ℕ, ◌<◌, Bool, true, false, Option, Some, List, [], ◌∷◌, ◌++◌, length, refl, ap, ◌∙◌, subst, append_assoc, length-append, inl, inr, arith}
use Rattle.std.specs.Option.{option_and_then}
use Rattle.std.specs.Prelude.{codes}
use Rattle.mt_lexer.specs.declared.token.Symbol.TheVariants as symbol
use Rattle.mt_lexer.specs.Tokens.{Lexeme, Word, Number, Sign}
use Rattle.mt_tree.specs.declared.statement.OrderKey.{OrderKey}
use Rattle.mt_tree.specs.declared.statement.OrderBy.{OrderBy}
use Rattle.mt_tree.specs.declared.statement.OrderBy.TheVariants.{Name, Position}
use Rattle.mt_reader.specs.Descent.{after, name_of, number_of, begins_with_word}
use Rattle.mt_reader.specs.Forms.{word}
use Rattle.mt_reader.specs.Fronts.{Begins}
use Rattle.mt_reader.proofs.Eithers.{either_some}
use Rattle.mt_reader.proofs.Parts.{name_complete}
use Rattle.mt_reader.proofs.Shrinking.{bind_some, same_tree, same_rest}
use Rattle.mt_reader.proofs.Spelling.{IsSound, IsComplete, IsCompleteBefore, Shrinks, after_is, name_is, number_is, sound_shrinks}
use Rattle.mt_statements.specs.QueryDescent.{by_of, by_behind, direction_of, key_of}
use Rattle.mt_statements.specs.Query.{SpellsBy, SpellsDirection, SpellsKey}
use Rattle.mt_statements.proofs.Pairs.{pair_sound}
use Rattle.mt_statements.proofs.Starts.{StartsAmong, behind_order, among_none}

-- what is read as a name or a number is one
by_sound : IsSound SpellsBy by_of
unfolding by_of
by_sound lexemes rest by e = by_word (begins_with_word lexemes) e where
  by_word : (worded : Bool) → by_behind worded lexemes ≡ Some (by, rest) → Begins SpellsBy lexemes rest by
  by_word true e =
      let p = bind_some (name_of lexemes) _ (by, rest) e in
      let n = name_is lexemes p.0.1 p.0.0 p.1 in
      record {
        front = Word p.0.0 ∷ [];
        whole = n.0 ∙ ap (λ ls. Word p.0.0 ∷ ls) (same_rest p.2);
        spelled = subst (SpellsBy (Word p.0.0 ∷ [])) (same_tree p.2) (refl, n.1);
      }
  by_word false e =
      let p = bind_some (number_of lexemes) _ (by, rest) e in
      record {
        front = Number p.0.0 ∷ [];
        whole = number_is lexemes p.0.1 p.0.0 p.1 ∙ ap (λ ls. Number p.0.0 ∷ ls) (same_rest p.2);
        spelled = subst (SpellsBy (Number p.0.0 ∷ [])) (same_tree p.2) refl;
      }

-- a name or a number is read
by_complete : IsComplete SpellsBy by_of
unfolding by_of number_of
by_complete front more (Name name) s =
    ap (λ ls. by_behind (begins_with_word (ls ++ more)) (front ++ more)) s.0
    ∙ ap (option_and_then (λ (name : List ℕ × List Lexeme). Some (Name name.0, name.1))) (name_complete front more name s)
by_complete front more (Position n) s = rw s refl

-- what is read as a direction is one
direction_sound : IsSound SpellsDirection direction_of
unfolding direction_of
direction_sound lexemes rest desc e =
    either_some (after (Word (codes "desc")) lexemes) (λ left. Some (true, left)) _ (desc, rest) (λ left a e. written (codes "desc") true refl left a e)
    (λ e. either_some (after (Word (codes "asc")) lexemes) (λ left. Some (false, left)) _ (desc, rest) (λ left a e. written (codes "asc") false (inr refl) left a e) none e) e where
      written : (name : List ℕ) (found : Bool) → SpellsDirection (word name) found → (left : List Lexeme) → after (Word name) lexemes ≡ Some left → ◌≡◌ {A = Option (Bool × List Lexeme)} (Some (found, left)) (Some (desc, rest)) → Begins SpellsDirection lexemes rest desc
      written name found s left a e = record {
        front = word name;
        whole = after_is _ lexemes left a ∙ ap (λ ls. Word name ∷ ls) (same_rest e);
        spelled = subst (SpellsDirection (word name)) (same_tree e) s;
      }

      none : ◌≡◌ {A = Option (Bool × List Lexeme)} (Some (false, lexemes)) (Some (desc, rest)) → Begins SpellsDirection lexemes rest desc
      none e = record { front = []; whole = same_rest e; spelled = subst (SpellsDirection []) (same_tree e) (inl refl) }

-- the starts of what may stand behind each key
abbrev pub behind_key : List Lexeme
behind_key = Sign symbol.Comma ∷ behind_order

-- where none follows there is none
no_direction : (more : List Lexeme) → StartsAmong behind_key more → direction_of more ≡ Some (false, more)
unfolding direction_of
no_direction more end =
    rw (among_none (Word (codes "desc")) behind_key more refl end, among_none (Word (codes "asc")) behind_key more refl end) refl

-- a direction is read
direction_complete : IsCompleteBefore SpellsDirection (StartsAmong behind_key) direction_of
unfolding direction_of after
direction_complete front more true end s = rw s refl
direction_complete front more false end s = elim s [
  | inl none ↦ ap (λ ls. direction_of (ls ++ more)) none ∙ no_direction more end
  | inr asc ↦ rw asc refl
]

-- what is read as a key is one
pub key_sound : IsSound SpellsKey key_of
unfolding key_of
key_sound = pair_sound SpellsBy SpellsDirection SpellsKey by_of direction_of (λ by desc. record { by = by; desc = desc }) by_sound direction_sound (λ by desc tokens s. s)

-- a key is read
pub key_complete : IsCompleteBefore SpellsKey (StartsAmong behind_key) key_of
unfolding key_of
key_complete front more key end s =
    let all : front ++ more ≡ s.front ++ (s.back ++ more) = ap (λ ls. ls ++ more) s.split ∙ append_assoc s.front s.back more in
    let by = by_complete s.front (s.back ++ more) key.by s.is_left in
    let desc = direction_complete s.back more key.desc end s.is_right in
    rw (all, by, desc) refl

-- a name or a number has a lexeme
by_nonempty : (front : List Lexeme) (by : OrderBy) → SpellsBy front by → 0 < length front
by_nonempty front (Name name) s = omega (arith, ap length s.0)
by_nonempty front (Position n) s = omega (arith, ap length s)

-- a key has a lexeme at least
key_nonempty : (front : List Lexeme) (key : OrderKey) → SpellsKey front key → 0 < length front
key_nonempty front key s = omega (arith, ap length s.split, length-append s.front s.back, by_nonempty s.front key.by s.is_left)

-- and so takes one
pub key_shrinks : Shrinks key_of
key_shrinks = sound_shrinks SpellsKey key_of key_sound key_nonempty
