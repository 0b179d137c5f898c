-- From what reads to what is promised of a call: the front that it took, and why there is none.
use Rattle.std.proofs.Common.{◌≡◌, ◌<◌, true, Option, Some, None, Result, Ok, Err, IfOk, List, ◌∷◌, length, refl, sym, ap, ◌∙◌}
use Rattle.std.specs.Option.{option_map}
use Rattle.mt_lexer.specs.Tokens.{Lexeme}
use Rattle.mt_reader.specs.declared.fault.ReadFault.{ReadFault}
use Rattle.mt_reader.specs.declared.fault.ReadFault.TheVariants as fault
use Rattle.mt_reader.specs.Descent.{is_same, after}
use Rattle.mt_reader.specs.Forms.{Form}
use Rattle.mt_reader.specs.Fronts.{Begins, TookFront, TakesFront}
use Rattle.mt_reader.proofs.Shrinking.{same_tree, same_rest}
use Rattle.mt_reader.specs.Taken.{Keeps, TakesExactly, TakesInside}
use Rattle.mt_reader.proofs.Spelling.{IsSound, IsCompleteBefore, after_is}

-- what does not come first is not taken
pub none_after : (lexeme : Lexeme) (tokens : List Lexeme) → ((rest : List Lexeme) → tokens ≡ lexeme ∷ rest → ⊥) → after lexeme tokens ≡ None
none_after lexeme tokens h = by_found (after lexeme tokens) refl where
  by_found : (found : Option (List Lexeme)) → after lexeme tokens ≡ found → after lexeme tokens ≡ None
  by_found None e = e
  by_found (Some rest) e = absurd (h rest (after_is lexeme tokens rest e))

-- what is not taken does not come first
pub after_none : (lexeme : Lexeme) (tokens : List Lexeme) → is_same lexeme lexeme ≡ true → after lexeme tokens ≡ None → (rest : List Lexeme) → tokens ≡ lexeme ∷ rest → ⊥
unfolding after
after_none lexeme tokens same none rest e =
    let taken : after lexeme (lexeme ∷ rest) ≡ Some rest = rw same refl in
    let both : None ≡ Some rest = sym none ∙ ap (after lexeme) e ∙ taken in
    cc

module _ {T : Type 0} (form : Form T) (read : List Lexeme → Option (T × List Lexeme)) (ends : List Lexeme → Type 0) (complete : IsCompleteBefore form ends read) where
  -- a front that is spelled is read
  front_reads : (tokens rest : List Lexeme) (tree : T) → ends rest → Begins form tokens rest tree → read tokens ≡ Some (tree, rest)
  front_reads tokens rest tree end b = ap read b.whole ∙ complete b.front rest tree end b.spelled

  -- tokens have one front at most that is spelled
  pub front_unique : (tokens rest left : List Lexeme) (a b : T) → ends rest → ends left → Begins form tokens rest a → Begins form tokens left b → (a ≡ b) × (rest ≡ left)
  front_unique tokens rest left a b end other r s =
      let both : Some (a, rest) ≡ Some (b, left) = sym (front_reads tokens rest a end r) ∙ front_reads tokens left b other s in
      (same_tree both, same_rest both)

  module _ (sound : IsSound form read) where
    -- what is read is the one front
    took_front : {X : Type 0} (keeps : X → T → Type 0) (kept : X) (tokens left : List Lexeme) (tree : T) → read tokens ≡ Some (tree, left) → keeps kept tree → TookFront form ends keeps kept tokens left
    took_front keeps kept tokens left tree e k = record {
      tree = tree;
      begins = sound tokens left tree e;
      keeps_it = k;
      only = λ other rest end b.
          let both : Some (other, rest) ≡ Some (tree, left) = sym (front_reads tokens rest other end b) ∙ e in
          (same_tree both, same_rest both);
    }

    -- where nothing reads there is no front
    no_front : (tokens : List Lexeme) → read tokens ≡ None → (tree : T) (rest : List Lexeme) → ends rest → Begins form tokens rest tree → ⊥
    no_front tokens e tree rest end b =
        let both : ◌≡◌ {A = Option (T × List Lexeme)} None (Some (tree, rest)) = sym e ∙ front_reads tokens rest tree end b in cc

    -- a call that takes what reads takes a front
    pub takes_front : (r : Result T ReadFault) (tokens left : List Lexeme) → TakesExactly r (λ tree. (tree, left)) (read tokens) → TakesFront form ends (λ kept tree. kept ≡ tree) r tokens left
    takes_front (Ok tree) tokens left t = took_front (λ kept tree. kept ≡ tree) tree tokens left tree t refl
    takes_front (Err fault.Unread) tokens left t = no_front tokens t
    takes_front (Err fault.Memory) tokens left t = tt

    -- and so does one that tells numbers outside 64 bits apart
    pub takes_front_inside : (inside : T → Type 0) (r : Result (Option T) ReadFault) (tokens left : List Lexeme) → TakesInside inside r left (read tokens) → TakesFront form ends (Keeps inside) r tokens left
    takes_front_inside inside (Ok kept) tokens left t = took_front (Keeps inside) kept tokens left t.tree t.reads t.keeps
    takes_front_inside inside (Err fault.Unread) tokens left t = no_front tokens t
    takes_front_inside inside (Err fault.Memory) tokens left t = tt

-- what is kept of a tree that is made of another
pub keeps_map : {A B : Type 0} (inside : A → Type 0) (within : B → Type 0) (f : A → B) → ((a : A) → inside a → within (f a)) → ((a : A) → within (f a) → inside a) → (kept : Option A) (tree : A) → Keeps inside kept tree → Keeps within (option_map f kept) (f tree)
keeps_map inside within f to from None tree k = λ h. k (from tree h)
keeps_map inside within f to from (Some kept) tree k = (ap f k.0, to tree k.1)

-- what takes a lexeme at least leaves fewer
pub took_shrinks : {T : Type 0} (inside : T → Type 0) (read : List Lexeme → Option (T × List Lexeme)) → ((lexemes rest : List Lexeme) (tree : T) → read lexemes ≡ Some (tree, rest) → length rest < length lexemes) → (r : Result (Option T) ReadFault) (old new : List Lexeme) → TakesInside inside r new (read old) → IfOk r (λ _. length new < length old)
took_shrinks inside read shrinks (Ok kept) old new t = shrinks old new t.tree t.reads
took_shrinks inside read shrinks (Err e) old new t = tt
