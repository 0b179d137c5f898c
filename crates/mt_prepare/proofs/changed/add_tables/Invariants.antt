-- What was added and the keys of the tenants that are left are all.
use Rattle.std.proofs.Common.{◌≡◌, ◌++◌, map}
use Rattle.std.specs.Map.{keys_of}
use Rattle.mt_catslot.specs.declared.slot.CatKey.TheVariants as keys
use Rattle.mt_prepare.proofs.changed.add_tables.Given as goal

abbrev pub invariant-loop-tenant : goal.invariant-loop-tenant
invariant-loop-tenant l =
    l.changed ++ map (λ tenant. keys.Placement tenant l.base) l.tenant-iterator ≡ l.fn.changed ++ map (λ tenant. keys.Placement tenant l.base) (keys_of l.tenants.entries)
