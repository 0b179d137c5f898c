-- The keys of the tables so far.
use Rattle.std.proofs.Common.{◌≡◌, ◌∷◌, map}
use Rattle.std.specs.List.{range_with_len}
use Rattle.mt_catslot.specs.declared.slot.CatKey.TheVariants as keys
use Rattle.mt_prepare.proofs.changed.tenant_keys.Given as goal

abbrev pub invariant-loop-base : goal.invariant-loop-base
invariant-loop-base l = l.changed ≡ keys.Tenant l.tenant ∷ map (λ base. keys.Placement l.tenant base) (range_with_len 0 l.base)
