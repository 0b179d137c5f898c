-- The first of what is left is none of those behind it.
use Rattle.std.proofs.Common.{◌≡◌, List, [], ◌∷◌, refl, sym, ap, subst, ◌∙◌, map, rules}
use Rattle.mt_catalog.specs.declared.state.Extension.{Extension}
use Rattle.mt_catalog.specs.Rules.{AreApart}
use Rattle.std.proofs.lemmas.List.{nil_from_length}
use Rattle.std.proofs.lemmas.Bool.{false≢true}
use Rattle.mt_catcheck.proofs.Apart.{first_apart, none_apart, rest_apart}
use Rattle.mt_catcheck.proofs.rules.extensions_are_apart.Goals as goal

pub returns-then-has_extension_name : goal.returns-then-has_extension_name
returns-then-has_extension_name c =
    let is : c.loop-first.rest.now ≡ c.in-Some.first.now ∷ c.in-Some.others.now = search rules in (
      λ e. absurd (false≢true e),
      λ apart.
          sym (first_apart (map (λ extension. extension.name) c.loop-first.rest.now) (map (λ extension. extension.name) c.in-Some.others.now) c.in-Some.first.now.name (ap (λ (of : List Extension). map (λ extension. extension.name) of) is) (c.loop-first.invariant.1 apart))
          ∙ sym c.if-has_extension_name.ensures,
    )

pub loop-first-preserved : goal.loop-first-preserved
loop-first-preserved c =
    let is : c.loop-first.rest.now ≡ c.in-Some.first.now ∷ c.in-Some.others.now = search rules in
    rest_apart (map (λ extension. extension.name) c.loop-first.rest.now) (map (λ extension. extension.name) c.in-Some.others.now) c.in-Some.first.now.name (ap (λ (of : List Extension). map (λ extension. extension.name) of) is) (sym c.if-has_extension_name.ensures) c.loop-first.invariant

pub returns : goal.returns
returns c =
    let is : c.loop-first.rest.now ≡ [] = nil_from_length c.loop-first.rest.now c.in_default.ensures.cases in
    (λ _. c.loop-first.invariant.0 (subst (λ (of : List Extension). AreApart (map (λ extension. extension.name) of)) (sym is) none_apart), λ _. refl)
