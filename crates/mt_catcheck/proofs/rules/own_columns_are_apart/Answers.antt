-- The first of what is left is none of those behind it.
use Rattle.std.proofs.Common.{◌≡◌, List, [], ◌∷◌, refl, sym, ap, subst, ◌∙◌, rules}
use Rattle.mt_tree.specs.declared.schema.Column.{Column}
use Rattle.mt_catalog.specs.Rules.{AreApart, column_names}
use Rattle.std.proofs.lemmas.List.{nil_from_length}
use Rattle.std.proofs.lemmas.Bool.{false≢true}
use Rattle.mt_catcheck.proofs.Apart.{first_apart, none_apart, rest_apart}
use Rattle.mt_catcheck.proofs.rules.own_columns_are_apart.Goals as goal

pub returns-then-has_name : goal.returns-then-has_name
returns-then-has_name c =
    let is : c.loop-first.rest.now ≡ c.in-Some.first.now ∷ c.in-Some.others.now = search rules in (
      λ e. absurd (false≢true e),
      λ apart.
          sym (first_apart (column_names c.loop-first.rest.now) (column_names c.in-Some.others.now) c.in-Some.first.now.name (ap (λ (of : List Column). column_names of) is) (c.loop-first.invariant.1 apart))
          ∙ sym c.if-has_name.ensures,
    )

pub loop-first-preserved : goal.loop-first-preserved
loop-first-preserved c =
    let is : c.loop-first.rest.now ≡ c.in-Some.first.now ∷ c.in-Some.others.now = search rules in
    rest_apart (column_names c.loop-first.rest.now) (column_names c.in-Some.others.now) c.in-Some.first.now.name (ap (λ (of : List Column). column_names of) is) (sym c.if-has_name.ensures) c.loop-first.invariant

pub returns : goal.returns
returns c =
    let is : c.loop-first.rest.now ≡ [] = nil_from_length c.loop-first.rest.now c.in_default.ensures.cases in
    (λ _. c.loop-first.invariant.0 (subst (λ (of : List Column). AreApart (column_names of)) (sym is) none_apart), λ _. refl)
