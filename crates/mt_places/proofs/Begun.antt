-- What is known once changes were noted, and nothing was looked at.
use Rattle.std.proofs.Common.{◌≡◌, ℕ, zero, suc, ◌+◌, ◌<◌, ◌&&◌, ◌||◌, Bool, true, false, cond, nat_eq, List, [], ◌∷◌, drop, length, get_or, refl, sym, ap, ◌∙◌, arith, subst}
use Rattle.std.specs.Cmp.{nat_eq_equiv}
use Rattle.std.specs.List.{count_by, filter_map, list_any}
use Rattle.std.proofs.lemmas.List.Sums.{sum_by-cons}
use Rattle.std.specs.FinMap as finite
use Rattle.mt_physplan.specs.declared.change.Change.{Change}
use Rattle.mt_physplan.proofs.Keys.{keys_exact, keys_total}
use Rattle.mt_places.specs.Held.{Held, TableState, asking, noted, state_of, table_in}
use Rattle.mt_places.specs.Named.{body_key, is_of, is_put, row_key, table_of}
use Rattle.mt_places.specs.Places.{IsBegun}
use Rattle.mt_places.proofs.Asked.{asking-all}
use Rattle.mt_places.proofs.Bodies.{bodies_exact, bodies_total}

-- the changes that are left begin with the one at hand
pub left-over : (changes : List Change) (i : ℕ) (change : Change) → i < length changes → change ≡ get_or changes i change → drop i changes ≡ change ∷ drop (i + 1) changes
left-over [] i change h is = absurd (omega arith)
left-over (x ∷ changes) zero change h is = ap (λ y. y ∷ changes) (sym is)
left-over (x ∷ changes) (suc i) change h is =
    let next : suc (i + 1) ≡ suc i + 1 = omega arith in
    left-over changes i change (omega arith) is ∙ ap (λ k. change ∷ drop k (x ∷ changes)) next

or_true : (a b : Bool) → true ≡ (a || (true || b))
or_true true b = refl
or_true false b = refl

named_case : (b puts : Bool) (state : TableState) (rest : Bool) → ((cond b (noted puts state) state).named || rest) ≡ (state.named || (b || rest))
named_case true puts state rest = or_true state.named rest
named_case false puts state rest = refl

wanted_case : (b puts : Bool) (state : TableState) (rest : ℕ) → (cond b (noted puts state) state).wanted + rest ≡ state.wanted + (cond (puts && b) 1 0 + rest)
wanted_case true true state rest = omega arith
wanted_case true false state rest = omega arith
wanted_case false true state rest = omega arith
wanted_case false false state rest = omega arith

free_case : (b puts : Bool) (state : TableState) → (cond b (noted puts state) state).free ≡ state.free
free_case true puts state = refl
free_case false puts state = refl

module _ (changes : List Change) (i : ℕ) (change : Change) (old new : TableState) (t : ℕ) (is : new ≡ cond (nat_eq t (table_of change)) (noted (is_put change) old) old) where
  pub named-next : drop i changes ≡ change ∷ drop (i + 1) changes → (new.named || list_any (is_of t) (drop (i + 1) changes)) ≡ (old.named || list_any (is_of t) (drop i changes))
  named-next left =
      let rest = list_any (is_of t) (drop (i + 1) changes) in
      ap (λ (state : TableState). state.named || rest) is
      ∙ named_case (nat_eq t (table_of change)) (is_put change) old rest
      ∙ ap (λ b. old.named || (b || rest)) (nat_eq_equiv.symm t (table_of change))
      ∙ ap (λ cs. old.named || list_any (is_of t) cs) (sym left)

  pub wanted-next : drop i changes ≡ change ∷ drop (i + 1) changes
      → new.wanted + count_by (λ change. is_put change && is_of t change) (drop (i + 1) changes) ≡ old.wanted + count_by (λ change. is_put change && is_of t change) (drop i changes)
  wanted-next left =
      let rest = count_by (λ (change : Change). is_put change && is_of t change) (drop (i + 1) changes) in
      ap (λ (state : TableState). state.wanted + rest) is
      ∙ wanted_case (nat_eq t (table_of change)) (is_put change) old rest
      ∙ ap (λ b. old.wanted + (cond (is_put change && b) 1 0 + rest)) (nat_eq_equiv.symm t (table_of change))
      ∙ ap (λ k. old.wanted + k) (sym (sum_by-cons (λ (change : Change). cond (is_put change && is_of t change) 1 0) change (drop (i + 1) changes)))
      ∙ ap (λ cs. old.wanted + count_by (λ (change : Change). is_put change && is_of t change) cs) (sym left)

  pub free-next : new.free ≡ old.free
  free-next = ap (λ (state : TableState). state.free) is ∙ free_case (nat_eq t (table_of change)) (is_put change) old

pub begun : (changes slice : List Change) (held : Held) → slice ≡ changes
    → held.rows ≡ asking (filter_map row_key slice) finite.empty → held.bodies ≡ asking (filter_map body_key slice) finite.empty
    → ((t : ℕ) → (table_in held.tables t).named ≡ list_any (is_of t) slice)
    → ((t : ℕ) → (table_in held.tables t).wanted ≡ count_by (λ change. is_put change && is_of t change) slice)
    → ((t : ℕ) → (table_in held.tables t).free ≡ [])
    → IsBegun changes (state_of held)
begun changes slice held is rows bodies named wanted free = subst (λ (cs : List Change). IsBegun cs (state_of held)) is (record {
  named = named;
  rows = rows ∙ asking-all keys_total keys_exact (filter_map row_key slice);
  bodies = bodies ∙ asking-all bodies_total bodies_exact (filter_map body_key slice);
  free = free;
  wanted = wanted;
})
