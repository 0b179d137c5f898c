use Rattle.std.proofs.Common.{◌≡◌, ℕ, Option, IsSome, rules, sym, ap, ◌∙◌, subst}
use Rattle.std.specs.Map.{lookup}
use Rattle.std.specs.BTreeMap.{is_at}
use Rattle.mt_physplan.specs.Keys.{key_cmp}
use Rattle.mt_physplan.proofs.Keys.{keys_exact, keys_total}
use Rattle.mt_places.specs.Held.{placing}
use Rattle.mt_places.proofs.Asked.{not_placed, placed}
use Rattle.mt_places.proofs.row_places.RowPlaces.place.Goals as goal

pub returns-in_default : goal.returns-in_default
returns-in_default c =
    let same : c.get_mut.follows.lender-at-none ≡ c.self.inside.places = c.get_mut.follows.holds-at-none in
    rw (same, ← c.self.view_is) (not_placed keys_total keys_exact c.self.inside.places.entries c.args.key.now c.args.position (sym c.in_default.ensures.value))

pub returns : goal.returns
returns c =
    let es = c.self.inside.places.entries in
    let there : IsSome (lookup (is_at (key_cmp c.args.key.now)) es) = subst (λ (found : Option (Option ℕ)). IsSome found) c.in-Some.ensures.value (search rules) in
    let puts = ((c.get_mut.follows.holds c.args.position).3 there).0 in
    placed keys_total keys_exact es (c.get_mut.follows.lender c.args.position).entries c.args.key.now c.args.position c.in-Some.place.now (sym c.in-Some.ensures.value) puts
    ∙ ap (λ m. placing c.args.key.now c.args.position m) c.self.view_is
