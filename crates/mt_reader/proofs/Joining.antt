-- Items with a separator between, which are joined into one tree where there are more than one.
use Rattle.std.proofs.Common.{◌≡◌, ℕ, zero, suc, ◌<◌, ◌≤◌, true, false, Option, Some, None, List, [], ◌∷◌, ◌++◌, length, length-append, refl, sym, ap, ◌∙◌, subst, append-nil, inl, inr, arith}
use Rattle.std.proofs.lemmas.List.Elements.{All-nil}
use Rattle.std.specs.List.{All}
use Rattle.std.specs.Option.{is_some, option_and_then, option_map}
use Rattle.mt_lexer.specs.Tokens.{Lexeme}
use Rattle.mt_reader.specs.declared.fault.ReadFault.{ReadFault}
use Rattle.mt_reader.specs.Forms.{Form, Separated, Joined}
use Rattle.mt_reader.specs.Descent.{is_same, after, with_front, pushed, items_behind, items_of, separated_of, joined_tree, joined_of}
use Rattle.mt_reader.proofs.Shrinking.{bind_some, same_tree, same_rest, after_shrinks}
use Rattle.mt_reader.proofs.Lists.{SoFar, so_far_none, so_far_fault, burnt, enough_burnt, items_of-item, keeps_pushed, with_front-append}
use Rattle.mt_reader.specs.Taken.{Keeps, Took, Fails}
use Rattle.mt_reader.proofs.Literals.{fails_bind}
use Rattle.mt_reader.proofs.Spelling.{IsSound, IsCompleteBefore, Shrinks, separated_sound, separated_complete_before}

-- two members or more are joined
joined_many : {T : Type 0} (join : List T → T) (trees : List T) → 2 ≤ length trees → joined_tree join trees ≡ join trees
joined_many join [] h = absurd (omega arith)
joined_many join (x ∷ []) h = absurd (omega arith)
joined_many join (x ∷ y ∷ ys) h = refl

module _ {T : Type 0} (form : Form T) (read : List Lexeme → Option (T × List Lexeme)) (by : Lexeme) (join : List T → T) where
  -- what is spelled with the separator between is joined
  as_joined : (front : List Lexeme) (trees : List T) → Separated form by front trees → Joined form by join front (joined_tree join trees)
  as_joined front [] s = elim s [ ]
  as_joined front (x ∷ []) s = inl s
  as_joined front (x ∷ y ∷ ys) s = inr (record { members = x ∷ y ∷ ys; joined = refl; many = omega arith; separated = s })

  -- what is read is spelled so
  pub joined_sound : IsSound form read → IsSound (Joined form by join) (joined_of read by join)
  unfolding joined_of
  joined_sound sound lexemes rest tree e =
      let p = bind_some (separated_of read by lexemes) _ (tree, rest) e in
      let s = separated_sound form read by sound lexemes p.0.1 p.0.0 p.1 in
      record {
        front = s.front;
        whole = s.whole ∙ ap (λ ls. s.front ++ ls) (same_rest p.2);
        spelled = subst (Joined form by join s.front) (same_tree p.2) (as_joined s.front p.0.0 s.spelled);
      }

  module _ (ends : List Lexeme → Type 0) (same : is_same by by ≡ true) (goes_on : (rest : List Lexeme) → ends (by ∷ rest)) (complete : IsCompleteBefore form ends read) (shrinks : Shrinks read) where
    -- members that are spelled are read
    members_complete : (front more : List Lexeme) (trees : List T) → ends more → after by more ≡ None → Separated form by front trees → joined_of read by join (front ++ more) ≡ Some (joined_tree join trees, more)
    unfolding joined_of
    members_complete front more trees end none s =
        ap (option_and_then (λ (items : List T × List Lexeme). Some (joined_tree join items.0, items.1))) (separated_complete_before form read by ends same goes_on complete shrinks front more trees end none s)

    -- what is spelled so is read, where no other member follows
    pub joined_complete_before : (front more : List Lexeme) (tree : T) → ends more → after by more ≡ None → Joined form by join front tree → joined_of read by join (front ++ more) ≡ Some (tree, more)
    joined_complete_before front more tree end none s = elim s [
      | inl one ↦ members_complete front more (tree ∷ []) end none one
      | inr m ↦
          members_complete front more m.members end none m.separated
          ∙ ap (λ t. Some (t, more)) (joined_many join m.members m.many ∙ sym m.joined)
    ]

-- where nothing was found there is nothing
pub is_none : {A : Type 0} (found : Option A) → is_some found ≡ false → found ≡ None
is_none None h = refl
is_none (Some a) h = cc

-- Items as far as a loop has read, which joins them.
module _ {T : Type 0} (read : List Lexeme → Option (T × List Lexeme)) (shrinks : Shrinks read) (by : Lexeme) (join : List T → T) (inside : T → Type 0) (lexemes : List Lexeme) where
  -- The items so far, one at least, and those behind each separator to come are all; this is kept of
  -- those so far, and where no separator comes they are two or more.
  pub record JoinedSoFar (left : List Lexeme) (items : Option (List T)) : Type 0 where
    pub front : List T
    pub fuel : ℕ
    pub enough : length left ≤ fuel
    pub same : with_front front (items_behind (items_of read by fuel) left (after by left)) ≡ separated_of read by lexemes
    pub keeps : Keeps (All inside) items front
    pub some : 0 < length front
    pub many : is_some (after by left) ≡ false → 2 ≤ length front

  -- what the first item reads as
  first_same : (left : List Lexeme) (x : T) → read lexemes ≡ Some (x, left) → with_front (x ∷ []) (items_behind (items_of read by (burnt (length lexemes))) left (after by left)) ≡ separated_of read by lexemes
  unfolding separated_of
  first_same left x e = step (length lexemes) (shrinks lexemes left x e) where
    step : (fuel : ℕ) → length left < fuel → with_front (x ∷ []) (items_behind (items_of read by (burnt fuel)) left (after by left)) ≡ items_of read by fuel lexemes
    step zero h = absurd (omega arith)
    step (suc fuel) h = sym (items_of-item read by fuel lexemes left x e)

  -- an item by itself is what it reads as
  pub joined_alone : (left : List Lexeme) (kept : Option T) → is_some (after by left) ≡ false → Took inside kept left (read lexemes) → Took inside kept left (joined_of read by join lexemes)
  unfolding joined_of
  joined_alone left kept none t = record {
    tree = t.tree;
    reads =
        ap (option_and_then (λ (items : List T × List Lexeme). Some (joined_tree join items.0, items.1)))
        (sym (first_same left t.tree t.reads) ∙ ap (λ more. with_front (t.tree ∷ []) (items_behind (items_of read by (burnt (length lexemes))) left more)) (is_none (after by left) none));
    keeps = t.keeps;
  }

  -- the first item, and a separator behind it
  pub joined_first : (left : List Lexeme) (kept : Option T) → is_some (after by left) ≡ true → Took inside kept left (read lexemes) → JoinedSoFar left (pushed (Some []) kept)
  joined_first left kept more t = record {
    front = t.tree ∷ [];
    fuel = burnt (length lexemes);
    enough = enough_burnt (length left) (length lexemes) (shrinks lexemes left t.tree t.reads);
    same = first_same left t.tree t.reads;
    keeps = keeps_pushed inside (Some []) kept [] t.tree (refl, All-nil inside) t.keeps;
    some = omega arith;
    many = λ none. cc;
  }

  -- why all items fail is why what they are joined into does
  joined_fails : (e : ReadFault) → Fails e (separated_of read by lexemes) → Fails e (joined_of read by join lexemes)
  unfolding joined_of
  joined_fails e f = fails_bind e (separated_of read by lexemes) _ f

  -- why the first item fails is why what they are joined into does
  pub joined_first_fails : (e : ReadFault) → Fails e (read lexemes) → Fails e (joined_of read by join lexemes)
  joined_first_fails e f = joined_fails e (so_far_fault read by inside (separated_of read by lexemes) lexemes (Some []) e (so_far_none read by inside lexemes) f)

  module _ (left : List Lexeme) (items : Option (List T)) (s : JoinedSoFar left items) where
    -- behind a separator there are items as before the first
    behind : (mid : List Lexeme) → after by left ≡ Some mid → SoFar read by inside (separated_of read by lexemes) mid items
    behind mid a = record {
      front = s.front;
      fuel = s.fuel;
      enough = omega (arith, s.enough, after_shrinks by left mid a);
      same = ap (λ more. with_front s.front (items_behind (items_of read by s.fuel) left more)) (sym a) ∙ s.same;
      keeps = s.keeps;
    }

    -- one more item behind a separator
    pub joined_more : (mid rest : List Lexeme) (kept : Option T) → after by left ≡ Some mid → Took inside kept rest (read mid) → JoinedSoFar rest (pushed items kept)
    joined_more mid rest kept a t = record {
      front = s.front ++ t.tree ∷ [];
      fuel = burnt s.fuel;
      enough = enough_burnt (length rest) s.fuel (omega (arith, s.enough, after_shrinks by left mid a, shrinks mid rest t.tree t.reads));
      same = more_same s.fuel (omega (arith, s.enough, after_shrinks by left mid a)) (ap (λ more. with_front s.front (items_behind (items_of read by s.fuel) left more)) (sym a) ∙ s.same);
      keeps = keeps_pushed inside items kept s.front t.tree s.keeps t.keeps;
      some = omega (arith, length-append s.front (t.tree ∷ []));
      many = λ none. omega (arith, s.some, length-append s.front (t.tree ∷ []));
    } where
      more_same : (fuel : ℕ) → length mid < fuel → with_front s.front (items_of read by fuel mid) ≡ separated_of read by lexemes → with_front (s.front ++ t.tree ∷ []) (items_behind (items_of read by (burnt fuel)) rest (after by rest)) ≡ separated_of read by lexemes
      more_same zero h same = absurd (omega arith)
      more_same (suc fuel) h same =
          sym (with_front-append s.front (t.tree ∷ []) (items_behind (items_of read by fuel) rest (after by rest)))
          ∙ ap (with_front s.front) (sym (items_of-item read by fuel mid rest t.tree t.reads))
          ∙ same

    -- why an item behind a separator fails is why what all are joined into does
    pub joined_more_fails : (mid : List Lexeme) (e : ReadFault) → after by left ≡ Some mid → Fails e (read mid) → Fails e (joined_of read by join lexemes)
    joined_more_fails mid e a f = joined_fails e (so_far_fault read by inside (separated_of read by lexemes) mid items e (behind mid a) f)

    -- no separator, and so all items
    pub joined_took : ((kept : Option (List T)) (trees : List T) → Keeps (All inside) kept trees → Keeps inside (option_map join kept) (join trees)) → after by left ≡ None → Took inside (option_map join items) left (joined_of read by join lexemes)
    unfolding joined_of
    joined_took keeps none = record {
      tree = join s.front;
      reads =
          ap (option_and_then (λ (items : List T × List Lexeme). Some (joined_tree join items.0, items.1)))
          (sym s.same ∙ ap (λ more. with_front s.front (items_behind (items_of read by s.fuel) left more)) none ∙ ap (λ all. Some (all, left)) (append-nil s.front))
          ∙ ap (λ tree. Some (tree, left)) (joined_many join s.front (s.many (ap is_some none)));
      keeps = keeps items s.front s.keeps;
    }
