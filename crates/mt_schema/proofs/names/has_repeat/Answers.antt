-- A name that was seen is repeated; where none was, all stand apart.
use Rattle.std.proofs.Common.{◌≡◌, ℕ, true, List, [], ◌∷◌, ◌++◌, sym, ap, ◌∙◌, append-nil, rules}
use Rattle.std.proofs.lemmas.Bool.{not-false}
use Rattle.std.proofs.lemmas.List.{nil_from_length}
use Rattle.mt_schema.specs.Refusals.{has_repeat}
use Rattle.mt_schema.specs.Steps.{has_name}
use Rattle.mt_schema.proofs.Repeats.{apart_no_repeat, repeated}
use Rattle.mt_schema.proofs.names.has_repeat.Goals as goal

pub returns-then-not-branch : goal.returns-then-not-branch
returns-then-not-branch c =
    let seen : List (List ℕ) = c.loop-first.seen.keys in
    let is : c.loop-first.rest.now ≡ c.in-Some.first.now ∷ c.in-Some.others.now = search rules in
    let there : has_name seen c.in-Some.first.now ≡ true = ap (λ (of : List ℕ). has_name seen of) (sym c.in_ok-copy.ensures) ∙ not-false _ (sym c.in_ok-insert.ensures.added ∙ c.if-not-branch.true) in
    sym (repeated seen c.in-Some.first.now c.in-Some.others.now there) ∙ ap (λ (of : List (List ℕ)). has_repeat of) (ap (λ (of : List (List ℕ)). seen ++ of) (sym is) ∙ c.loop-first.invariant.all)

pub returns : goal.returns
returns c =
    let seen : List (List ℕ) = c.loop-first.seen.keys in
    let is : c.loop-first.rest.now ≡ [] = nil_from_length c.loop-first.rest.now c.in_default.ensures.cases in
    sym (apart_no_repeat seen c.loop-first.invariant.apart)
    ∙ ap (λ (of : List (List ℕ)). has_repeat of) (sym (append-nil seen) ∙ ap (λ (of : List (List ℕ)). seen ++ of) (sym is) ∙ c.loop-first.invariant.all)
