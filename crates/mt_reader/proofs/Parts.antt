-- Names and literals: what is read is spelled so, and what is spelled so is read.
use Rattle.std.proofs.Common.{[], ◌∷◌, refl, ap, ◌∙◌, subst, inl, inr}
use Rattle.std.specs.Prelude.{codes}
use Rattle.mt_lexer.specs.declared.token.Symbol.TheVariants as symbol
use Rattle.mt_lexer.specs.Tokens.{Word, Number, Quoted, Sign}
use Rattle.mt_tree.specs.declared.expression.Literal.TheVariants.{Null, Int, Text}
use Rattle.mt_reader.specs.Literals.{SpellsLiteral}
use Rattle.mt_reader.specs.Names.{IsName}
use Rattle.mt_reader.specs.Descent.{after, name_of, number_of, literal_of}
use Rattle.mt_reader.proofs.Shrinking.{bind_some, same_tree, same_rest}
use Rattle.mt_reader.proofs.Spelling.{IsSound, IsComplete, after_is, name_is, number_is}

-- names

-- what is read as a name is one
pub name_sound : IsSound IsName name_of
name_sound lexemes rest name e =
    let p = name_is lexemes rest name e in
    record { front = Word name ∷ []; whole = p.0; spelled = (refl, p.1) }

-- a name is read
pub name_complete : IsComplete IsName name_of
unfolding name_of
name_complete front more name s = rw (s.0, s.1) refl

-- literals

-- what is read as a literal is one
pub literal_sound : IsSound SpellsLiteral literal_of
unfolding literal_of
literal_sound [] rest literal e = cc
literal_sound (Word word ∷ left) rest literal e =
    let p = bind_some (after (Word (codes "null")) (Word word ∷ left)) _ (literal, rest) e in
    record {
      front = Word (codes "null") ∷ [];
      whole = after_is (Word (codes "null")) (Word word ∷ left) p.0 p.1 ∙ ap (λ ls. Word (codes "null") ∷ ls) (same_rest p.2);
      spelled = subst (SpellsLiteral (Word (codes "null") ∷ [])) (same_tree p.2) refl;
    }
literal_sound (Number value ∷ left) rest literal e = record {
  front = Number value ∷ [];
  whole = ap (λ ls. Number value ∷ ls) (same_rest e);
  spelled = subst (SpellsLiteral (Number value ∷ [])) (same_tree e) (value, inl (refl, refl));
}
literal_sound (Quoted text ∷ left) rest literal e = record {
  front = Quoted text ∷ [];
  whole = ap (λ ls. Quoted text ∷ ls) (same_rest e);
  spelled = subst (SpellsLiteral (Quoted text ∷ [])) (same_tree e) refl;
}
literal_sound (Sign sign ∷ left) rest literal e =
    let p = bind_some (after (Sign symbol.Minus) (Sign sign ∷ left)) _ (literal, rest) e in
    let q = bind_some (number_of p.0) _ (literal, rest) p.2 in
    let front = Sign symbol.Minus ∷ Number q.0.0 ∷ [] in
    record {
      front = front;
      whole = after_is (Sign symbol.Minus) (Sign sign ∷ left) p.0 p.1 ∙ ap (λ ls. Sign symbol.Minus ∷ ls) (number_is p.0 q.0.1 q.0.0 q.1 ∙ ap (λ ls. Number q.0.0 ∷ ls) (same_rest q.2));
      spelled = subst (SpellsLiteral front) (same_tree q.2) (q.0.0, inr (refl, refl));
    }

-- a literal is read
pub literal_complete : IsComplete SpellsLiteral literal_of
unfolding literal_of after number_of
literal_complete front more Null s = rw s refl
literal_complete front more (Int z) s = elim s.1 [ inl w ↦ rw (w.0, w.1) refl | inr w ↦ rw (w.0, w.1) refl ]
literal_complete front more (Text text) s = rw s refl
