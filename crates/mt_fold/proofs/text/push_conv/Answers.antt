use Rattle.std.proofs.Common.{◌≡◌, ◌++◌, true, codes, sym, ap, ◌∙◌}
use Rattle.std.proofs.lemmas.List.{append-nil}
use Rattle.mt_fold.specs.declared.fold.Place.TheVariants.{Conv}
use Rattle.mt_fold.specs.Parts.{first_behind, parts_text}
use Rattle.mt_fold.specs.Texts.{names_at}
use Rattle.mt_fold.proofs.Printed.{conv_more, no_conv, one_conv}
use Rattle.mt_fold.proofs.text.push_conv.Goals as goal

pub returns-then-not-has_place-clause-text : goal.returns-then-not-has_place-clause-text
returns-then-not-has_place-clause-text c =
    let none = no_conv c.args.fold.now c.args.columns.now (sym c.has_place.ensures ∙ c.if-not-has_place.true) in
    sym (append-nil c.args.into.now) ∙ ap (λ parts. c.args.into.now ++ parts_text true parts) (sym none)

pub returns-then-not-has_place-clause-first : goal.returns-then-not-has_place-clause-first
returns-then-not-has_place-clause-first c = ap (first_behind true) (sym (no_conv c.args.fold.now c.args.columns.now (sym c.has_place.ensures ∙ c.if-not-has_place.true)))

pub returns-clause-text : goal.returns-clause-text
returns-clause-text c =
    let names = names_at c.args.fold.now c.args.columns.now Conv in
    let one = one_conv c.args.fold.now c.args.columns.now c.requires (sym c.has_place.ensures ∙ c.if-not-has_place.false) in
    let push : c.push_bytes-2.new.self ≡ ((c.args.into.now ++ codes "CONV (") ++ parts_text true names) ++ codes ")" = cc (c.in_ok-push_bytes.ensures.ok, c.in_ok-push_names.ensures.text, c.in_ok-push_bytes-2.ensures.ok) in
    conv_more c.args.into.now c.push_bytes-2.new.self names push ∙ ap (λ parts. c.args.into.now ++ parts_text true parts) (sym one)

pub returns-clause-first : goal.returns-clause-first
returns-clause-first c = ap (first_behind true) (sym (one_conv c.args.fold.now c.args.columns.now c.requires (sym c.has_place.ensures ∙ c.if-not-has_place.false)))
