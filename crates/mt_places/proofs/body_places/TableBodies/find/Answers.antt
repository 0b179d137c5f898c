use Rattle.std.proofs.Common.{ap, ◌∙◌}
use Rattle.std.specs.Cmp.Lexicographic.{nat_list_cmp_total}
use Rattle.std.proofs.lemmas.Map.Lookups.{exact_bytes}
use Rattle.std.specs.FinMap as finite
use Rattle.mt_places.proofs.Mapped.{read-get}
use Rattle.mt_places.proofs.body_places.TableBodies.find.Goals as goal

pub returns : goal.returns
returns c =
    c.copied.ensures ∙ c.get.ensures.value
    ∙ read-get nat_list_cmp_total exact_bytes (λ v. v.items) c.self.inside.places.entries c.args.body.now
    ∙ ap (λ m. finite.get m c.args.body.now) c.self.view_is
