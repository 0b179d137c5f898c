-- One key more.
use Rattle.std.proofs.Common.{◌≡◌, ◌∙◌, List, ◌∷◌, None, Some, sym, ap}
use Rattle.std.specs.Prelude.{nat_eq}
use Rattle.std.specs.List.{list_any}
use Rattle.std.specs.Map.{keys_of, lookup}
use Rattle.std.specs.Map.Iter.{deref}
use Rattle.std.proofs.lemmas.Map.Iter.{rest_more}
use Rattle.indexmap.specs.IndexMap.{get}
use Rattle.mt_catslot.specs.declared.slot.CatKey.{CatKey}
use Rattle.mt_catslot.specs.declared.slot.CatKey.TheVariants as keys
use Rattle.mt_catalog.specs.Found.{IsFoundEntry}
use Rattle.mt_catalog.specs.Keyed.{same_key, slot_in}
use Rattle.mt_catread.proofs.Tenancies.{each_added, later_key, listed, missing_added}
use Rattle.mt_catread.proofs.tenants.read_tenants.Goals as goal

pub loop-key-init : goal.loop-key-init
loop-key-init c =
    let entries = c.args.slots.now.entries in
    let all : c.into_iter-key-iterator.result ≡ keys_of entries = c.into_iter-key-iterator.ensures.into_iter_gives ∙ c.keys-key-items.ensures.rest in
    record {
      each = λ tenant entry e. let none : None ≡ Some entry = ap (lookup (nat_eq tenant)) (sym c.new-tenants.ensures.empty) ∙ e in absurd (cc);
      there = λ key e. sym (listed entries key) ∙ ap (list_any (same_key key)) (sym all) ∙ e;
      missing = λ tenant e. sym (listed entries (keys.Tenant tenant)) ∙ ap (list_any (same_key (keys.Tenant tenant))) (sym all);
    }

pub loop-key-preserved-in-Continue-1 : goal.loop-key-preserved-in-Continue-1
loop-key-preserved-in-Continue-1 c =
    let found = slot_in c.args.slots.now.entries in
    let tenant = c.in-Tenant.tenant in
    let left : List CatKey = c.next.new.self in
    let rest : c.loop-key.key-iterator ≡ keys.Tenant tenant ∷ left =
    rest_more deref c.loop-key.key-iterator left c.next.result c.in-Some.key c.in-Some.is c.next.ensures.steps ∙ ap (λ (key : CatKey). key ∷ left) c.in-Tenant.is in
    let added = c.in_ok-add_tenant.ensures.ok in
    record {
      each = each_added tenant added.0 (get nat_eq c.loop-key.tenants) (get nat_eq c.add_tenant.new.tenants) added.2
          (IsFoundEntry found c.args.bases.now c.args.extensions.now) added.1 c.loop-key.invariant.each;
      there = λ key e. c.loop-key.invariant.there key (ap (list_any (same_key key)) rest ∙ later_key key (keys.Tenant tenant) left e);
      missing = missing_added tenant added.0 (get nat_eq c.loop-key.tenants) (get nat_eq c.add_tenant.new.tenants) added.2 found left
          (λ number e. c.loop-key.invariant.missing number e ∙ ap (list_any (same_key (keys.Tenant number))) rest);
    }
