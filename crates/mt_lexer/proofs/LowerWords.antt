-- A word in lower case spells itself.
use Rattle.std.proofs.Common.{◌≡◌, ◌↔◌, ℕ, Bool, true, false, not, ◌&&◌, IsTrue, leb, List, [], ◌∷◌, length, map, refl, sym, ap, ◌∙◌, arith}
use Rattle.std.proofs.lemmas.Bool.{and_parts, leb-true, not-true, or_parts}
use Rattle.std.proofs.lemmas.Bool.Decides.{nat_tests}
use Rattle.std.proofs.lemmas.List.Sums.{AllPass-from_list_all, list_all-from_AllPass}
use Rattle.std.specs.List.{list_all, list_any}
use Rattle.mt_lexer.specs.Tokens.{Word, Spells, is_in_word, is_upper, begins_word, lower}
use Rattle.mt_lexer.specs.FirstToken.{passes_as_lower_word}

-- two tests that hold
both_hold : (a b : Bool) → a ≡ true → b ≡ true → (a && b) ≡ true
both_hold a b p q = rw (p, q) refl

-- a byte that is no capital letter is in lower case, and one in lower case is none
lower_here : (b : ℕ) → is_upper b ≡ false → lower b ≡ b
lower_here b h = grind (arith, nat_tests)

no_capital_here : (b : ℕ) → b ≡ lower b → is_upper b ≡ false
no_capital_here b h = grind (arith, nat_tests)

-- a text without a capital letter is in lower case
pub lower_text : (bytes : List ℕ) → list_any is_upper bytes ≡ false → map lower bytes ≡ bytes
lower_text [] h = refl
lower_text (b ∷ bs) h =
    let parts = or_parts (is_upper b) (list_any is_upper bs) h in
    cc (lower_here b parts.0, lower_text bs parts.1)

-- and a text in lower case is without one
no_capitals : (bytes : List ℕ) → bytes ≡ map lower bytes → list_any is_upper bytes ≡ false
no_capitals [] e = refl
no_capitals (b ∷ bs) e =
    let here : is_upper b ≡ false = no_capital_here b (cc (e)) in
    let behind : list_any is_upper bs ≡ false = no_capitals bs (cc (e)) in
    rw (here, behind) refl

-- the tests of a word in lower case hold where it spells itself
pub lower_word_spells : (bytes : List ℕ) (passes : Bool) → passes ≡ passes_as_lower_word bytes → IsTrue passes ↔ Spells bytes (Word bytes)
lower_word_spells [] passes e = (λ t. cc, λ s. elim s [ ])
lower_word_spells (b ∷ bs) passes e = (to, from) where
  to : IsTrue passes → Spells (b ∷ bs) (Word (b ∷ bs))
  to t =
      let p = and_parts (begins_word b) _ (sym e ∙ t) in
      let q = and_parts (leb (length (b ∷ bs)) 30) _ p.1 in
      let r = and_parts (list_all is_in_word bs) _ q.1 in
      (p.0, AllPass-from_list_all is_in_word bs r.0, leb-true (length (b ∷ bs)) 30 q.0, sym (lower_text (b ∷ bs) (not-true (list_any is_upper (b ∷ bs)) r.1)))

  from : Spells (b ∷ bs) (Word (b ∷ bs)) → IsTrue passes
  from s =
      let short : leb (length (b ∷ bs)) 30 ≡ true = grind (arith, nat_tests, s.2) in
      let small : not (list_any is_upper (b ∷ bs)) ≡ true = ap not (no_capitals (b ∷ bs) s.3) in
      (e ∙ both_hold (begins_word b) _ s.0 (both_hold _ _ short (both_hold _ _ (list_all-from_AllPass is_in_word bs s.1) small)))
