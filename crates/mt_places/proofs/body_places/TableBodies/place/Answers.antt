use Rattle.std.proofs.Common.{◌≡◌, sym, ap, ◌∙◌}
use Rattle.std.specs.Cmp.Lexicographic.{nat_list_cmp_total}
use Rattle.std.proofs.lemmas.Map.Lookups.{exact_bytes}
use Rattle.mt_places.specs.Held.{placing}
use Rattle.mt_places.proofs.Mapped.{read-not_placed, read-placed}
use Rattle.mt_places.proofs.body_places.TableBodies.place.Goals as goal

pub returns-in_default : goal.returns-in_default
returns-in_default c =
    let same : c.get_mut.follows.lender-at-none ≡ c.self.inside.places = c.get_mut.follows.holds-at-none in
    rw (same, ← c.self.view_is) (read-not_placed nat_list_cmp_total exact_bytes (λ v. v.items) c.self.inside.places.entries c.args.body.now c.args.position (sym c.in_default.ensures.value))

pub returns : goal.returns
returns c =
    read-placed nat_list_cmp_total exact_bytes (λ v. v.items) c.self.inside.places.entries (c.get_mut.follows.lender c.args.position).entries c.args.body.now c.args.position c.in-Some.place.now
    (sym c.in-Some.ensures.value) (c.get_mut.follows.holds c.args.position).0
    ∙ ap (λ m. placing c.args.body.now c.args.position m) c.self.view_is
