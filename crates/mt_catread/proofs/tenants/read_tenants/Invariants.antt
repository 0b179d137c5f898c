-- The tenants so far were found; each that is not among them has its key among those that are left, or none.
use Rattle.std.proofs.Common.{◌≡◌, ℕ, true, None, Some}
use Rattle.std.specs.Prelude.{IsSome, is_some, nat_eq}
use Rattle.std.specs.List.{list_any}
use Rattle.indexmap.specs.IndexMap.{get}
use Rattle.mt_catslot.specs.declared.slot.CatKey.{CatKey}
use Rattle.mt_catslot.specs.declared.slot.CatKey.TheVariants as keys
use Rattle.mt_catalog.specs.declared.state.TenantEntry.{TenantEntry}
use Rattle.mt_catalog.specs.Found.{IsFoundEntry}
use Rattle.mt_catalog.specs.Keyed.{same_key, slot_in}
use Rattle.mt_catread.proofs.tenants.read_tenants.Given as goal

abbrev pub invariant-loop-key : goal.invariant-loop-key
invariant-loop-key l = record {
  each : (tenant : ℕ) (entry : TenantEntry) → get nat_eq l.tenants tenant ≡ Some entry → IsFoundEntry (slot_in l.slots.entries) l.bases l.extensions tenant entry;
  there : (key : CatKey) → list_any (same_key key) l.key-iterator ≡ true → IsSome (slot_in l.slots.entries key);
  missing : (tenant : ℕ) → get nat_eq l.tenants tenant ≡ None → is_some (slot_in l.slots.entries (keys.Tenant tenant)) ≡ list_any (same_key (keys.Tenant tenant)) l.key-iterator;
}
