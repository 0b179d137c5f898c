-- What is read from the left is spelled so, and what is spelled so is read, whatever follows.
use Rattle.std.proofs.Common.{◌≡◌, ◌⊎◌, ℕ, zero, suc, ◌<◌, ◌≤◌, true, false, Option, Some, None, List, [], ◌∷◌, ◌++◌, length, refl, sym, ap, ◌∙◌, subst, inl, inr, append_assoc, append-nil, length-append, arith}
use Rattle.std.proofs.lemmas.Bool.{cases_Bool}
use Rattle.std.proofs.lemmas.Slice.Eq.{bytes_eq-Decides}
use Rattle.std.specs.Option.{option_and_then}
use denote.Enum.Bare.{same_true}
use Rattle.mt_lexer.specs.contracts.token.Symbol.{the_type}
use Rattle.mt_lexer.specs.declared.token.Symbol.TheVariants as symbol
use Rattle.mt_lexer.specs.Tokens.{Lexeme, Word, Number, Quoted, Sign}
use Rattle.mt_reader.specs.Forms.{Form, Separated, WithSemicolon}
use Rattle.mt_reader.specs.Fronts.{Begins, AtEnd}
use Rattle.mt_reader.specs.Descent.{is_same, after, name_of, number_of, items_of, items_behind, separated_of, with_front, ended, end_of}
use Rattle.mt_lexer.specs.Reserved.{is_reserved_name}
use Rattle.mt_reader.proofs.Shrinking.{bind_some, guard_some, test_some, same_tree, same_rest}

-- lexemes that pass the test are one
is_same-true : (a b : Lexeme) → is_same a b ≡ true → a ≡ b
is_same-true (Word a) (Word b) e = ap Word ((bytes_eq-Decides a b).0 e)
is_same-true (Sign a) (Sign b) e = ap Sign (same_true the_type tt a b e)
is_same-true (Word a) (Number b) e = cc
is_same-true (Word a) (Quoted b) e = cc
is_same-true (Word a) (Sign b) e = cc
is_same-true (Number a) b e = cc
is_same-true (Quoted a) b e = cc
is_same-true (Sign a) (Word b) e = cc
is_same-true (Sign a) (Number b) e = cc
is_same-true (Sign a) (Quoted b) e = cc

-- what is behind a lexeme stands behind it
pub after_is : (lexeme : Lexeme) (lexemes rest : List Lexeme) → after lexeme lexemes ≡ Some rest → lexemes ≡ lexeme ∷ rest
unfolding after
after_is lexeme [] rest e = cc
after_is lexeme (first ∷ left) rest e =
    let p = guard_some (is_same first lexeme) (Some left) rest e in
    let same = is_same-true first lexeme p.0 in
    cc (same, p.1)

-- a name is a word that is not reserved
pub name_is : (lexemes rest : List Lexeme) (name : List ℕ) → name_of lexemes ≡ Some (name, rest) → (lexemes ≡ Word name ∷ rest) × (is_reserved_name name ≡ false)
unfolding name_of
name_is [] rest name e = cc
name_is (Word word ∷ left) rest name e =
    let p = test_some (is_reserved_name word) (Some (word, left)) (name, rest) e in
    let same = same_tree p.1 in
    let behind = same_rest p.1 in
    (cc (same, behind), ap is_reserved_name (sym same) ∙ p.0)
name_is (Number value ∷ left) rest name e = cc
name_is (Quoted text ∷ left) rest name e = cc
name_is (Sign sign ∷ left) rest name e = cc

-- a number is one lexeme
pub number_is : (lexemes rest : List Lexeme) (number : ℕ) → number_of lexemes ≡ Some (number, rest) → lexemes ≡ Number number ∷ rest
unfolding number_of
number_is [] rest number e = cc
number_is (Word word ∷ left) rest number e = cc
number_is (Number value ∷ left) rest number e = let same = same_tree e in let behind = same_rest e in cc (same, behind)
number_is (Quoted text ∷ left) rest number e = cc
number_is (Sign sign ∷ left) rest number e = cc

-- what is read is spelled so
abbrev pub IsSound : {T : Type 0} → Form T → (List Lexeme → Option (T × List Lexeme)) → Type 0
IsSound {T} form read = (lexemes rest : List Lexeme) (tree : T) → read lexemes ≡ Some (tree, rest) → Begins form lexemes rest tree

-- what is spelled so is read, where the tokens behind it are of this kind
abbrev pub IsCompleteBefore : {T : Type 0} → Form T → (List Lexeme → Type 0) → (List Lexeme → Option (T × List Lexeme)) → Type 0
IsCompleteBefore {T} form ends read = (front more : List Lexeme) (tree : T) → ends more → form front tree → read (front ++ more) ≡ Some (tree, more)

-- what is spelled so is read, whatever follows
abbrev pub IsComplete : {T : Type 0} → Form T → (List Lexeme → Option (T × List Lexeme)) → Type 0
IsComplete {T} form read = (front more : List Lexeme) (tree : T) → form front tree → read (front ++ more) ≡ Some (tree, more)

-- what is read takes a lexeme at least
abbrev pub Shrinks : {T : Type 0} → (List Lexeme → Option (T × List Lexeme)) → Type 0
Shrinks {T} read = (lexemes rest : List Lexeme) (tree : T) → read lexemes ≡ Some (tree, rest) → length rest < length lexemes

-- one more item in front of others
separated_more : {T : Type 0} (item : Form T) (by : Lexeme) (front back : List Lexeme) (x : T) (xs : List T) → item front x → Separated item by back xs → Separated item by (front ++ by ∷ back) (x ∷ xs)
separated_more item by front back x [] f s = elim s [ ]
separated_more item by front back x (y ∷ ys) f s = record { front = front; back = back; split = refl; first = f; others = s }

-- a separator is taken
pub after_same : (by : Lexeme) (rest : List Lexeme) → is_same by by ≡ true → after by (by ∷ rest) ≡ Some rest
unfolding after
after_same by rest same = rw same refl

-- items that are read are spelled with the separator between
module _ {T : Type 0} (form : Form T) (read : List Lexeme → Option (T × List Lexeme)) (by : Lexeme) where
  -- as far as the fuel goes
  items_sound : IsSound form read → (fuel : ℕ) (lexemes rest : List Lexeme) (trees : List T) → items_of read by fuel lexemes ≡ Some (trees, rest) → Begins (Separated form by) lexemes rest trees
  items_sound sound zero lexemes rest trees e = cc
  items_sound sound (suc fuel) lexemes rest trees e =
      let p = bind_some (read lexemes) _ (trees, rest) e in
      let first = sound lexemes p.0.1 p.0.0 p.1 in
      behind first (after by p.0.1) refl p.2 (λ left. items_sound sound fuel left) where
        behind : {mid : List Lexeme} {x : T} → Begins form lexemes mid x → (found : Option (List Lexeme)) → after by mid ≡ found → with_front (x ∷ []) (items_behind (items_of read by fuel) mid found) ≡ Some (trees, rest) → ((left rest : List Lexeme) (more : List T) → items_of read by fuel left ≡ Some (more, rest) → Begins (Separated form by) left rest more) → Begins (Separated form by) lexemes rest trees
        behind {mid} {x} first None c e more = record {
          front = first.front;
          whole = first.whole ∙ ap (λ ls. first.front ++ ls) (same_rest e);
          spelled = subst (Separated form by first.front) (same_tree e) first.spelled;
        }
        behind {mid} {x} first (Some left) c e more =
            let p = bind_some (items_of read by fuel left) _ (trees, rest) e in
            let others = more left p.0.1 p.0.0 p.1 in
            record {
              front = first.front ++ by ∷ others.front;
              whole =
                  first.whole
                  ∙ ap (λ ls. first.front ++ ls) (after_is by mid left c ∙ ap (λ ls. by ∷ ls) (others.whole ∙ ap (λ ls. others.front ++ ls) (same_rest p.2)))
                  ∙ sym (append_assoc first.front (by ∷ others.front) rest);
              spelled = subst (Separated form by (first.front ++ by ∷ others.front)) (same_tree p.2) (separated_more form by first.front others.front x p.0.0 first.spelled others.spelled);
            }

  pub separated_sound : IsSound form read → IsSound (Separated form by) (separated_of read by)
  unfolding separated_of
  separated_sound sound lexemes rest trees e = items_sound sound (length lexemes) lexemes rest trees e

  -- items that are spelled with the separator between are read, where no other follows
  module _ (ends : List Lexeme → Type 0) (same : is_same by by ≡ true) (goes_on : (rest : List Lexeme) → ends (by ∷ rest)) (complete : IsCompleteBefore form ends read) (shrinks : Shrinks read) where
    items_complete : (fuel : ℕ) (front more : List Lexeme) (trees : List T) → length front ≤ fuel → ends more → after by more ≡ None → Separated form by front trees → items_of read by fuel (front ++ more) ≡ Some (trees, more)
    items_complete fuel front more [] h end none s = elim s [ ]
    items_complete zero front more (x ∷ []) h end none s =
        absurd (omega (arith, shrinks (front ++ more) more x (complete front more x end s), length-append front more))
    items_complete zero front more (x ∷ y ∷ ys) h end none s =
        absurd (omega (arith, ap length s.split, length-append s.front (by ∷ s.back)))
    items_complete (suc fuel) front more (x ∷ []) h end none s =
        ap (option_and_then (λ (first : T × List Lexeme). with_front (first.0 ∷ []) (items_behind (items_of read by fuel) first.1 (after by first.1)))) (complete front more x end s)
        ∙ ap (λ found. with_front (x ∷ []) (items_behind (items_of read by fuel) more found)) none
    items_complete (suc fuel) front more (x ∷ y ∷ ys) h end none s =
        let rest = s.back ++ more in
        let all : front ++ more ≡ s.front ++ by ∷ rest = ap (λ ls. ls ++ more) s.split ∙ append_assoc s.front (by ∷ s.back) more in
        let first : read (front ++ more) ≡ Some (x, by ∷ rest) = ap read all ∙ complete s.front (by ∷ rest) x (goes_on rest) s.first in
        let short : length s.back ≤ fuel = omega (arith, ap length s.split, length-append s.front (by ∷ s.back)) in
        ap (option_and_then (λ (first : T × List Lexeme). with_front (first.0 ∷ []) (items_behind (items_of read by fuel) first.1 (after by first.1)))) first
        ∙ ap (λ found. with_front (x ∷ []) (items_behind (items_of read by fuel) (by ∷ rest) found)) (after_same by rest same)
        ∙ ap (with_front (x ∷ [])) (items_complete fuel s.back more (y ∷ ys) short end none s.others)

    pub separated_complete_before : (front more : List Lexeme) (trees : List T) → ends more → after by more ≡ None → Separated form by front trees → separated_of read by (front ++ more) ≡ Some (trees, more)
    unfolding separated_of
    separated_complete_before front more trees end none s =
        items_complete (length (front ++ more)) front more trees (omega (arith, length-append front more)) end none s

-- the same where an item is read whatever follows
pub separated_complete : {T : Type 0} (form : Form T) (read : List Lexeme → Option (T × List Lexeme)) (by : Lexeme) → is_same by by ≡ true → IsComplete form read → Shrinks read → (front more : List Lexeme) (trees : List T) → after by more ≡ None → Separated form by front trees → separated_of read by (front ++ more) ≡ Some (trees, more)
separated_complete form read by same complete shrinks front more trees none s =
    separated_complete_before form read by (λ _. Unit {0}) same (λ _. tt) (λ front more tree _ s. complete front more tree s) shrinks front more trees tt none s

-- what is left is nothing, or a semicolon
end_is : (rest : List Lexeme) (x : Unit {0}) → end_of rest ≡ Some x → (rest ≡ []) ⊎ (rest ≡ Sign symbol.Semicolon ∷ [])
unfolding end_of after
end_is [] x e = inl refl
end_is (lexeme ∷ []) x e = elim (cases_Bool (is_same lexeme (Sign symbol.Semicolon))) [
  | inl same ↦ inr (ap (λ first. first ∷ []) (is_same-true lexeme (Sign symbol.Semicolon) same))
  | inr other ↦ let none : None ≡ Some x = rw other at e in cc
]
end_is (lexeme ∷ next ∷ lexemes) x e = elim (cases_Bool (is_same lexeme (Sign symbol.Semicolon))) [
  | inl same ↦ let none : None ≡ Some x = rw same at e in cc
  | inr other ↦ let none : None ≡ Some x = rw other at e in cc
]

-- the whole is spelled so, perhaps with a semicolon at the end
pub ended_sound : {T : Type 0} (form : Form T) (read : List Lexeme → Option (T × List Lexeme)) → IsSound form read → (lexemes : List Lexeme) (tree : T) → ended (read lexemes) ≡ Some tree → WithSemicolon form lexemes tree
ended_sound form read sound lexemes tree e =
    let p = bind_some (read lexemes) _ tree e in
    let q = bind_some (end_of p.0.1) _ tree p.2 in
    let s = sound lexemes p.0.1 p.0.0 p.1 in
    record {
      front = s.front;
      end = elim (end_is p.0.1 q.0 q.1) [
        | inl none ↦ inl (s.whole ∙ ap (λ ls. s.front ++ ls) none ∙ append-nil s.front)
        | inr one ↦ inr (s.whole ∙ ap (λ ls. s.front ++ ls) one)
      ];
      body = subst (form s.front) (cc (q.2)) s.spelled;
    }

-- what is spelled so is read, perhaps with a semicolon at the end
pub ended_complete : {T : Type 0} (form : Form T) (read : List Lexeme → Option (T × List Lexeme)) → IsCompleteBefore form AtEnd read → (lexemes : List Lexeme) (tree : T) → WithSemicolon form lexemes tree → ended (read lexemes) ≡ Some tree
unfolding end_of after
ended_complete form read complete lexemes tree s = elim s.end [
  | inl e ↦ ap (λ ls. ended (read ls)) (e ∙ sym (append-nil s.front)) ∙ ap ended (complete s.front [] tree (inl refl) s.body)
  | inr e ↦ ap (λ ls. ended (read ls)) e ∙ ap ended (complete s.front (Sign symbol.Semicolon ∷ []) tree (inr refl) s.body)
]

-- what is read takes a lexeme at least, where each spelling has one
pub sound_shrinks : {T : Type 0} (form : Form T) (read : List Lexeme → Option (T × List Lexeme)) → IsSound form read → ((front : List Lexeme) (tree : T) → form front tree → 0 < length front) → Shrinks read
sound_shrinks form read sound nonempty lexemes rest tree e =
    let b = sound lexemes rest tree e in
    omega (arith, ap length b.whole, length-append b.front rest, nonempty b.front tree b.spelled)

-- items have a lexeme at least, as the first of them has
pub separated_nonempty : {T : Type 0} (form : Form T) (by : Lexeme) → ((front : List Lexeme) (tree : T) → form front tree → 0 < length front) → (front : List Lexeme) (trees : List T) → Separated form by front trees → 0 < length front
separated_nonempty form by nonempty front [] s = elim s [ ]
separated_nonempty form by nonempty front (x ∷ []) s = nonempty front x s
separated_nonempty form by nonempty front (x ∷ y ∷ ys) s = omega (arith, ap length s.split, length-append s.front (by ∷ s.back))
