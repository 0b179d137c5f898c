-- The first of what is left is none of those behind it.
use Rattle.std.proofs.Common.{◌≡◌, ℕ, List, [], ◌∷◌, ◌++◌, sym, ap, subst, ◌∙◌, rules}
use Rattle.std.proofs.lemmas.List.{nil_from_length}
use Rattle.std.proofs.lemmas.Bool.{false≢true}
use Rattle.mt_tree.specs.declared.schema.Column.{Column}
use Rattle.mt_catalog.specs.Rules.{AreApart, column_names}
use Rattle.mt_catcheck.proofs.Apart.{first_apart, not_of_either, of_neither, rest_apart}
use Rattle.mt_catcheck.proofs.rules.columns_are_apart.Goals as goal

pub returns-then-has_name : goal.returns-then-has_name
returns-then-has_name c =
    let is : c.loop-first.rest.now ≡ c.in-Some.first.now ∷ c.in-Some.others.now = search rules in (
      λ e. absurd (false≢true e),
      λ apart.
          sym (not_of_either c.in-Some.first.now.name (column_names c.in-Some.others.now) (column_names c.args.behind.now)
          (first_apart (column_names c.loop-first.rest.now ++ column_names c.args.behind.now) (column_names c.in-Some.others.now ++ column_names c.args.behind.now) c.in-Some.first.now.name
          (ap (λ (of : List Column). column_names of ++ column_names c.args.behind.now) is) (c.loop-first.invariant.1 apart))).0
          ∙ sym c.if-has_name.ensures,
    )

pub returns-then-has_name-2 : goal.returns-then-has_name-2
returns-then-has_name-2 c =
    let is : c.loop-first.rest.now ≡ c.in-Some.first.now ∷ c.in-Some.others.now = search rules in (
      λ e. absurd (false≢true e),
      λ apart.
          sym (not_of_either c.in-Some.first.now.name (column_names c.in-Some.others.now) (column_names c.args.behind.now)
          (first_apart (column_names c.loop-first.rest.now ++ column_names c.args.behind.now) (column_names c.in-Some.others.now ++ column_names c.args.behind.now) c.in-Some.first.now.name
          (ap (λ (of : List Column). column_names of ++ column_names c.args.behind.now) is) (c.loop-first.invariant.1 apart))).1
          ∙ sym c.if-has_name-2.ensures,
    )

pub loop-first-preserved : goal.loop-first-preserved
loop-first-preserved c =
    let is : c.loop-first.rest.now ≡ c.in-Some.first.now ∷ c.in-Some.others.now = search rules in
    rest_apart (column_names c.loop-first.rest.now ++ column_names c.args.behind.now) (column_names c.in-Some.others.now ++ column_names c.args.behind.now) c.in-Some.first.now.name
    (ap (λ (of : List Column). column_names of ++ column_names c.args.behind.now) is)
    (of_neither c.in-Some.first.now.name (column_names c.in-Some.others.now) (column_names c.args.behind.now) (sym c.if-has_name.ensures) (sym c.if-has_name-2.ensures)) c.loop-first.invariant

pub returns : goal.returns
returns c =
    let is : c.loop-first.rest.now ≡ [] = nil_from_length c.loop-first.rest.now c.in_default.ensures.cases in
    let names : column_names c.loop-first.rest.now ++ column_names c.args.behind.now ≡ column_names c.args.behind.now = ap (λ (of : List Column). column_names of ++ column_names c.args.behind.now) is in (
      λ passed. c.loop-first.invariant.0 (subst (λ (of : List (List ℕ)). AreApart of) (sym names) (c.own_columns_are_apart.ensures.0 passed)),
      λ apart. c.own_columns_are_apart.ensures.1 (subst (λ (of : List (List ℕ)). AreApart of) names (c.loop-first.invariant.1 apart)),
    )
