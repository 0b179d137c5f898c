-- A word and an item behind it, or neither.
use Rattle.std.proofs.Common.{◌≡◌, true, Option, Some, None, IfSome, List, ◌++◌, [], ◌∷◌, refl, sym, ap, ◌∙◌, subst}
use Rattle.std.specs.Option.{option_and_then, option_map}
use Rattle.mt_lexer.specs.Tokens.{Lexeme}
use Rattle.mt_reader.specs.declared.fault.ReadFault.{ReadFault}
use Rattle.mt_reader.specs.Descent.{is_same, after, maybe_behind, maybe_of}
use Rattle.mt_reader.specs.Forms.{Form, Behind, Maybe}
use Rattle.mt_reader.specs.Fronts.{Begins}
use Rattle.mt_reader.specs.Taken.{Keeps, Took, Fails}
use Rattle.mt_reader.proofs.Literals.{fails_bind}
use Rattle.mt_reader.proofs.Shrinking.{bind_some, same_tree, same_rest}
use Rattle.mt_reader.proofs.Spelling.{IsSound, IsCompleteBefore, after_is, after_same}

module _ {X : Type 0} (inside : X → Type 0) (item : List Lexeme → Option (X × List Lexeme)) (by : Lexeme) (old : List Lexeme) where
  -- without the word nothing is taken
  pub maybe_none : (new : List Lexeme) → after by old ≡ None → new ≡ old → Took (λ found. IfSome found inside) (Some None) new (maybe_of item by old)
  unfolding maybe_of
  maybe_none new none same = record {
    tree = None;
    reads = ap (maybe_behind item old) none ∙ ap (λ ls. Some (None, ls)) (sym same);
    keeps = (refl, tt);
  }

  -- what is kept of an item is kept of one that need not be there
  keeps_some : (kept : Option X) (tree : X) → Keeps inside kept tree → Keeps (λ found. IfSome found inside) (option_map Some kept) (Some tree)
  keeps_some None tree k = k
  keeps_some (Some kept) tree k = (ap Some k.0, k.1)

  -- behind the word an item is taken
  pub maybe_took : (mid left : List Lexeme) (kept : Option X) (found : Option (Option X)) → found ≡ option_map Some kept → after by old ≡ Some mid → Took inside kept left (item mid) → Took (λ found. IfSome found inside) found left (maybe_of item by old)
  unfolding maybe_of
  maybe_took mid left kept found same a t = record {
    tree = Some t.tree;
    reads = ap (maybe_behind item old) a ∙ ap (option_and_then (λ (found : X × List Lexeme). Some (Some found.0, found.1))) t.reads;
    keeps = rw same (keeps_some kept t.tree t.keeps);
  }

  -- why the item fails
  pub maybe_fails : (mid : List Lexeme) (e : ReadFault) → after by old ≡ Some mid → Fails e (item mid) → Fails e (maybe_of item by old)
  unfolding maybe_of
  maybe_fails mid e a f = rw a (fails_bind e (item mid) (λ (found : X × List Lexeme). Some (Some found.0, found.1)) f)

-- one lexeme, and a form behind it, or neither
abbrev pub MaybeBehind : {T : Type 0} → Form T → Lexeme → List Lexeme → Option T → Type 0
MaybeBehind form by tokens tree = Maybe (Behind (by ∷ []) form) tokens tree

module _ {T : Type 0} (form : Form T) (item : List Lexeme → Option (T × List Lexeme)) (by : Lexeme) where
  -- what is read is spelled so
  pub maybe_sound : IsSound form item → IsSound (MaybeBehind form by) (maybe_of item by)
  unfolding maybe_of
  maybe_sound sound lexemes rest tree e = by_found (after by lexemes) refl e where
    by_found : (found : Option (List Lexeme)) → after by lexemes ≡ found → maybe_behind item lexemes found ≡ Some (tree, rest) → Begins (MaybeBehind form by) lexemes rest tree
    by_found None a e = record {
      front = [];
      whole = same_rest e;
      spelled = subst (MaybeBehind form by []) (same_tree e) refl;
    }
    by_found (Some left) a e =
        let p = bind_some (item left) _ (tree, rest) e in
        let s = sound left p.0.1 p.0.0 p.1 in
        record {
          front = by ∷ s.front;
          whole = after_is by lexemes left a ∙ ap (λ ls. by ∷ ls) (s.whole ∙ ap (λ ls. s.front ++ ls) (same_rest p.2));
          spelled = subst (MaybeBehind form by (by ∷ s.front)) (same_tree p.2) (record { inner = s.front; prefix = refl; body = s.spelled });
        }

  -- what is spelled so is read, where the form ends and the lexeme does not follow
  pub maybe_complete : (ends : List Lexeme → Type 0) → is_same by by ≡ true → IsCompleteBefore form ends item → (front more : List Lexeme) (tree : Option T) → ends more → after by more ≡ None → MaybeBehind form by front tree → maybe_of item by (front ++ more) ≡ Some (tree, more)
  unfolding maybe_of
  maybe_complete ends same complete front more None end none s =
      ap (λ ls. maybe_behind item (ls ++ more) (after by (ls ++ more))) s ∙ ap (maybe_behind item more) none
  maybe_complete ends same complete front more (Some tree) end none s =
      ap (λ ls. maybe_behind item (ls ++ more) (after by (ls ++ more))) s.prefix
      ∙ ap (maybe_behind item (by ∷ (s.inner ++ more))) (after_same by (s.inner ++ more) same)
      ∙ ap (option_and_then (λ (found : T × List Lexeme). Some (Some found.0, found.1))) (complete s.inner more tree end s.body)
