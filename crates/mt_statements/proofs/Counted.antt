-- Items with a separator between them, so many at most, as far as a loop has read.
use Rattle.std.proofs.Common.{◌≡◌, ℕ, zero, suc, ◌+◌, ◌<◌, ◌≤◌, Bool, true, false, Option, Some, None, List, [], ◌∷◌, ◌++◌, length, refl, sym, ap, ◌∙◌, length-append, nat_le, arith}
use Rattle.std.proofs.lemmas.Bool.{leb-true, le-leb}
use Rattle.std.specs.List.{All}
use Rattle.mt_lexer.specs.Tokens.{Lexeme}
use Rattle.mt_reader.specs.declared.fault.ReadFault.{ReadFault}
use Rattle.mt_reader.specs.Descent.{after, items_of, items_behind, separated_of, with_front, pushed}
use Rattle.mt_reader.specs.Taken.{Keeps, Took, Fails}
use Rattle.mt_reader.proofs.Lists.{SoFar, so_far_none, so_far_more, so_far_all, so_far_fault}
use Rattle.mt_reader.proofs.Literals.{fails_bind}
use Rattle.mt_reader.proofs.Shrinking.{bind_some, guard_some, same_tree}
use Rattle.mt_statements.specs.ChangeDescent.{at_most}

-- what is read in a list of so many at most is the list, and has no more
pub at_most_some : {X : Type 0} (limit : ℕ) (read : Option (List X × List Lexeme)) (trees : List X) (rest : List Lexeme) → at_most limit read ≡ Some (trees, rest) → (read ≡ Some (trees, rest)) × (length trees ≤ limit)
at_most_some limit read trees rest e =
    let p = bind_some read _ (trees, rest) e in
    let g = guard_some (nat_le (length p.0.0) limit) (Some p.0) (trees, rest) p.2 in
    let same : p.0.0 ≡ trees = same_tree g.1 in
    (p.1 ∙ g.1, omega (arith, leb-true (length p.0.0) limit g.0, ap length same))

-- a list of no more is read
pub at_most_few : {X : Type 0} (limit : ℕ) (read : Option (List X × List Lexeme)) (trees : List X) (rest : List Lexeme) → read ≡ Some (trees, rest) → length trees ≤ limit → at_most limit read ≡ Some (trees, rest)
at_most_few limit read trees rest e few = rw (e, le-leb (length trees) limit few) refl

-- a longer one is not
at_most_many : {X : Type 0} (limit : ℕ) (trees : List X) (rest : List Lexeme) → limit < length trees → at_most limit (Some (trees, rest)) ≡ None
at_most_many limit trees rest many = by_test (nat_le (length trees) limit) refl where
  by_test : (t : Bool) → nat_le (length trees) limit ≡ t → at_most limit (Some (trees, rest)) ≡ None
  by_test true e = absurd (omega (arith, leb-true (length trees) limit e))
  by_test false e = rw e refl

module _ {X : Type 0} (item : List Lexeme → Option (X × List Lexeme)) (by : Lexeme) (inside : X → Type 0) where
  -- a list has an item at least
  items_of-some : (fuel : ℕ) (left rest : List Lexeme) (trees : List X) → items_of item by fuel left ≡ Some (trees, rest) → 0 < length trees
  items_of-some zero left rest trees e = cc
  items_of-some (suc fuel) left rest trees e =
      let p = bind_some (item left) _ (trees, rest) e in
      let q = bind_some (items_behind (items_of item by fuel) p.0.1 (after by p.0.1)) _ (trees, rest) p.2 in
      let same : p.0.0 ∷ q.0.0 ≡ trees = same_tree q.2 in
      omega (arith, ap length same)

  -- The items so far, which are so many, and those that are left, are all.
  abbrev pub Counted : Option (List X × List Lexeme) → List Lexeme → Option (List X) → ℕ → Type 0
  Counted all left items count = (s : SoFar item by inside all left items) × (length s.front ≡ count)

  -- before the first item
  pub counted_none : (lexemes : List Lexeme) → Counted (separated_of item by lexemes) lexemes (Some []) 0
  unfolding so_far_none
  counted_none lexemes = (so_far_none item by inside lexemes, refl)

  -- the separator, and so more items
  pub counted_more : (all : Option (List X × List Lexeme)) (left mid rest : List Lexeme) (items : Option (List X)) (count : ℕ) (kept : Option X) (x : X) → Counted all left items count → item left ≡ Some (x, mid) → length mid < length left → Keeps inside kept x → after by mid ≡ Some rest → Counted all rest (pushed items kept) (count + 1)
  unfolding so_far_more
  counted_more all left mid rest items count kept x s e shorter k c = (so_far_more item by inside all left mid rest items kept x s.0 e shorter k c, omega (arith, length-append s.0.front (x ∷ []), s.1))

  -- no separator, and so all items, which are few
  pub counted_all : (all : Option (List X × List Lexeme)) (left mid : List Lexeme) (items : Option (List X)) (count limit : ℕ) (kept : Option X) (x : X) → Counted all left items count → count < limit → item left ≡ Some (x, mid) → length mid < length left → Keeps inside kept x → after by mid ≡ None → Took (All inside) (pushed items kept) mid (at_most limit all)
  unfolding so_far_all
  counted_all all left mid items count limit kept x s few e shorter k c =
      let took = so_far_all item by inside all left mid items kept x s.0 e shorter k c in
      record {
        tree = took.tree;
        reads = at_most_few limit all took.tree mid took.reads (omega (arith, length-append s.0.front (x ∷ []), s.1));
        keeps = took.keeps;
      }

  -- as many as may be, and another is to follow
  pub counted_full : (all : Option (List X × List Lexeme)) (left : List Lexeme) (items : Option (List X)) (count limit : ℕ) → Counted all left items count → limit ≤ count → at_most limit all ≡ None
  counted_full all left items count limit s full = ap (at_most limit) (sym s.0.same) ∙ by_more (items_of item by s.0.fuel left) refl where
    by_more : (more : Option (List X × List Lexeme)) → items_of item by s.0.fuel left ≡ more → at_most limit (with_front s.0.front more) ≡ None
    by_more None e = refl
    by_more (Some more) e = at_most_many limit (s.0.front ++ more.0) more.1 (omega (arith, length-append s.0.front more.0, s.1, items_of-some s.0.fuel left more.1 more.0 e))

  -- why an item fails is why all of them do
  pub counted_fault : (all : Option (List X × List Lexeme)) (left : List Lexeme) (items : Option (List X)) (count limit : ℕ) (e : ReadFault) → Counted all left items count → Fails e (item left) → Fails e (at_most limit all)
  counted_fault all left items count limit e s f = fails_bind e all _ (so_far_fault item by inside all left items e s.0 f)
