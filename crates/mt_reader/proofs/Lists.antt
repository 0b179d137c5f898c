-- Items with a separator between them, as far as a loop has read.
use Rattle.std.proofs.Common.{◌≡◌, ℕ, zero, suc, ◌<◌, ◌≤◌, Option, Some, None, List, [], ◌∷◌, ◌++◌, length, refl, sym, ap, ◌∙◌, subst, append_assoc, arith}
use Rattle.std.proofs.lemmas.List.Elements.{All-push, All-nil, All-take, All-drop, All-head}
use Rattle.std.proofs.Math.Seq.{take-append_seam, drop-append_seam}
use Rattle.std.specs.List.{All}
use Rattle.std.specs.Option.{option_and_then}
use Rattle.mt_lexer.specs.Tokens.{Lexeme}
use Rattle.mt_reader.specs.Descent.{after, items_of, items_behind, separated_of, with_front, pushed}
use Rattle.mt_reader.proofs.Shrinking.{after_shrinks}
use Rattle.mt_reader.specs.Taken.{Keeps, Took, Fails}
use Rattle.mt_reader.specs.declared.fault.ReadFault.{ReadFault}
use Rattle.mt_reader.specs.declared.fault.ReadFault.TheVariants as fault

-- all of some items, and one more
pub All-push_parts : {X : Type 0} (P : X → Type 0) (xs : List X) (x : X) → All P (xs ++ x ∷ []) → All P xs × P x
All-push_parts P xs x h = (
  subst (All P) (take-append_seam xs (x ∷ [])) (All-take P (length xs) (xs ++ x ∷ []) h),
  All-head P x [] (subst (All P) (drop-append_seam xs (x ∷ [])) (All-drop P (length xs) (xs ++ x ∷ []) h)),
)

-- what is kept of one more item
pub keeps_pushed : {X : Type 0} (inside : X → Type 0) (items : Option (List X)) (kept : Option X) (front : List X) (x : X) → Keeps (All inside) items front → Keeps inside kept x → Keeps (All inside) (pushed items kept) (front ++ x ∷ [])
keeps_pushed inside None kept front x h k = λ all. h (All-push_parts inside front x all).0
keeps_pushed inside (Some items) None front x h k = λ all. k (All-push_parts inside front x all).1
keeps_pushed inside (Some items) (Some item) front x h k = (cc (h.0, k.0), All-push inside front x h.1 k.1)

-- more in front
pub with_front-append : {X : Type 0} (front middle : List X) (read : Option (List X × List Lexeme)) → with_front front (with_front middle read) ≡ with_front (front ++ middle) read
with_front-append front middle None = refl
with_front-append front middle (Some more) = ap (λ xs. Some (xs, more.1)) (sym (append_assoc front middle more.0))

-- nothing in front
pub with_front-nil : {X : Type 0} (read : Option (List X × List Lexeme)) → with_front [] read ≡ read
with_front-nil None = refl
with_front-nil (Some more) = refl

-- The items so far, and those that are left, are all; and this is kept of those so far.
pub record SoFar {X : Type 0} (item : List Lexeme → Option (X × List Lexeme)) (by : Lexeme) (inside : X → Type 0) (all : Option (List X × List Lexeme)) (left : List Lexeme) (items : Option (List X)) : Type 0 where
  pub front : List X
  pub fuel : ℕ
  pub enough : length left ≤ fuel
  pub same : with_front front (items_of item by fuel left) ≡ all
  pub keeps : Keeps (All inside) items front

-- one more item, where there is fuel
pub items_of-item : {X : Type 0} (item : List Lexeme → Option (X × List Lexeme)) (by : Lexeme) (fuel : ℕ) (left mid : List Lexeme) (x : X) → item left ≡ Some (x, mid) → items_of item by (suc fuel) left ≡ with_front (x ∷ []) (items_behind (items_of item by fuel) mid (after by mid))
items_of-item item by fuel left mid x e = ap (option_and_then (λ (first : _ × List Lexeme). with_front (first.0 ∷ []) (items_behind (items_of item by fuel) first.1 (after by first.1)))) e

-- before the first item
unfoldable pub so_far_none : {X : Type 0} (item : List Lexeme → Option (X × List Lexeme)) (by : Lexeme) (inside : X → Type 0) (lexemes : List Lexeme) → SoFar item by inside (separated_of item by lexemes) lexemes (Some [])
unfolding separated_of
so_far_none item by inside lexemes = record {
  front = [];
  fuel = length lexemes;
  enough = omega arith;
  same = with_front-nil (items_of item by (length lexemes) lexemes);
  keeps = (refl, All-nil inside);
}

-- the fuel that is left behind an item
abbrev pub burnt : ℕ → ℕ
burnt zero = zero
burnt (suc fuel) = fuel

-- it is enough for fewer lexemes
pub enough_burnt : (few fuel : ℕ) → few < fuel → few ≤ burnt fuel
enough_burnt few zero fewer = absurd (omega arith)
enough_burnt few (suc fuel) fewer = omega arith

-- one item, the separator, and more
pub next_same : {X : Type 0} (item : List Lexeme → Option (X × List Lexeme)) (by : Lexeme) (all : Option (List X × List Lexeme)) (left mid rest : List Lexeme) (front : List X) (x : X) (fuel : ℕ) → length mid < length left → length left ≤ fuel → item left ≡ Some (x, mid) → after by mid ≡ Some rest → with_front front (items_of item by fuel left) ≡ all → with_front (front ++ x ∷ []) (items_of item by (burnt fuel) rest) ≡ all
next_same item by all left mid rest front x zero shorter enough e c same = absurd (omega arith)
next_same item by all left mid rest front x (suc fuel) shorter enough e c same =
    sym (with_front-append front (x ∷ []) (items_of item by fuel rest))
    ∙ ap (λ read. with_front front (with_front (x ∷ []) (items_behind (items_of item by fuel) mid read))) (sym c)
    ∙ ap (with_front front) (sym (items_of-item item by fuel left mid x e))
    ∙ same

-- one item, and no separator
pub last_same : {X : Type 0} (item : List Lexeme → Option (X × List Lexeme)) (by : Lexeme) (all : Option (List X × List Lexeme)) (left mid : List Lexeme) (front : List X) (x : X) (fuel : ℕ) → length mid < length left → length left ≤ fuel → item left ≡ Some (x, mid) → after by mid ≡ None → with_front front (items_of item by fuel left) ≡ all → all ≡ Some (front ++ x ∷ [], mid)
last_same item by all left mid front x zero shorter enough e c same = absurd (omega arith)
last_same item by all left mid front x (suc fuel) shorter enough e c same =
    sym same
    ∙ ap (with_front front) (items_of-item item by fuel left mid x e)
    ∙ ap (λ read. with_front front (with_front (x ∷ []) (items_behind (items_of item by fuel) mid read))) c

-- the separator, and so more items
unfoldable pub so_far_more : {X : Type 0} (item : List Lexeme → Option (X × List Lexeme)) (by : Lexeme) (inside : X → Type 0) (all : Option (List X × List Lexeme)) (left mid rest : List Lexeme) (items : Option (List X)) (kept : Option X) (x : X) → SoFar item by inside all left items → item left ≡ Some (x, mid) → length mid < length left → Keeps inside kept x → after by mid ≡ Some rest → SoFar item by inside all rest (pushed items kept)
so_far_more item by inside all left mid rest items kept x s e shorter k c = record {
  front = s.front ++ x ∷ [];
  fuel = burnt s.fuel;
  enough = enough_burnt (length rest) s.fuel (omega (arith, s.enough, after_shrinks by mid rest c));
  same = next_same item by all left mid rest s.front x s.fuel shorter s.enough e c s.same;
  keeps = keeps_pushed inside items kept s.front x s.keeps k;
}

-- no separator, and so all items
unfoldable pub so_far_all : {X : Type 0} (item : List Lexeme → Option (X × List Lexeme)) (by : Lexeme) (inside : X → Type 0) (all : Option (List X × List Lexeme)) (left mid : List Lexeme) (items : Option (List X)) (kept : Option X) (x : X) → SoFar item by inside all left items → item left ≡ Some (x, mid) → length mid < length left → Keeps inside kept x → after by mid ≡ None → Took (All inside) (pushed items kept) mid all
so_far_all item by inside all left mid items kept x s e shorter k c = record {
  tree = s.front ++ x ∷ [];
  reads = last_same item by all left mid s.front x s.fuel shorter s.enough e c s.same;
  keeps = keeps_pushed inside items kept s.front x s.keeps k;
}

-- no item, and so none of it reads
pub so_far_fails : {X : Type 0} (item : List Lexeme → Option (X × List Lexeme)) (by : Lexeme) (inside : X → Type 0) (all : Option (List X × List Lexeme)) (left : List Lexeme) (items : Option (List X)) → SoFar item by inside all left items → item left ≡ None → all ≡ None
so_far_fails item by inside all left items s e = step s.fuel s.same where
  step : (fuel : ℕ) → with_front s.front (items_of item by fuel left) ≡ all → all ≡ None
  step zero same = sym same
  step (suc fuel) same = sym same ∙ ap (λ read. with_front s.front (option_and_then (λ (first : _ × List Lexeme). with_front (first.0 ∷ []) (items_behind (items_of item by fuel) first.1 (after by first.1))) read)) e

-- why an item fails is why all of them do
pub so_far_fault : {X : Type 0} (item : List Lexeme → Option (X × List Lexeme)) (by : Lexeme) (inside : X → Type 0) (all : Option (List X × List Lexeme)) (left : List Lexeme) (items : Option (List X)) (e : ReadFault) → SoFar item by inside all left items → Fails e (item left) → Fails e all
so_far_fault item by inside all left items fault.Unread s f = so_far_fails item by inside all left items s f
so_far_fault item by inside all left items fault.Memory s f = tt
