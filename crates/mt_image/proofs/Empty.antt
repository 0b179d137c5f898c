-- A disk of zeros holds the catalogue without tables and tenants.
use Rattle.std.proofs.Common.{◌≡◌, inl, ℕ, [], Some, None, refl, sym, ap, ◌∙◌, arith, Bool, true, false, is_some}
use Rattle.std.proofs.lemmas.List.{get_or-replicate, length-replicate, nil_from_length}
use Rattle.std.proofs.lemmas.List.Elements.{All-nil}
use Rattle.std.specs.List.{IsDistinct}
use Rattle.std.specs.Ordering.{nat_cmp}
use Rattle.std.specs.FinMap as finite
use Rattle.mt_machine.specs.Meaning.{Disk}
use Rattle.mt_journal.specs.Layout.{Area}
use Rattle.mt_physplan.specs.declared.key.Key.{Key}
use Rattle.mt_physplan.specs.Keys.{key_cmp}
use Rattle.mt_catslot.specs.declared.slot.CatKey.{CatKey}
use Rattle.mt_catslot.specs.declared.slot.CatKey.TheVariants as keys
use Rattle.mt_catslot.specs.declared.slot.CatSlot.{CatSlot}
use Rattle.mt_catslot.specs.declared.slot.Class.TheVariants as classes
use Rattle.mt_catslot.specs.Slots.{key_of}
use Rattle.mt_catalog.specs.declared.state.TenantEntry.{TenantEntry}
use Rattle.mt_catalog.specs.Rules.{IsBase, IsCatalogue, IsExtension, quota_total}
use Rattle.mt_catalog.specs.Slots.{HasSlot, slot_of}
use Rattle.mt_catalog.specs.State.{empty_state, table_in}
use Rattle.mt_image.specs.Image.{Holds, IsHeld}
use Rattle.mt_image.specs.Rules.{IsCatalogueOf, content_of}

abbrev blank : Area
blank position = 0

abbrev blank_disk : Disk
blank_disk area position = 0

no_slot : (key : CatKey) → slot_of empty_state key ≡ None
unfolding empty_state
no_slot (keys.Relation classes.BaseTable number) = refl
no_slot (keys.Relation classes.Extension number) = refl
no_slot (keys.Column classes.BaseTable number position) = refl
no_slot (keys.Column classes.Extension number position) = refl
no_slot (keys.Tenant tenant) = rw (finite.get-empty nat_cmp tenant) refl
no_slot (keys.Placement tenant base) = rw (finite.get-empty nat_cmp tenant) refl
no_slot (keys.Extended tenant base position) = rw (finite.get-empty nat_cmp tenant) refl
no_slot (keys.Field tenant base generation column) = rw (finite.get-empty nat_cmp tenant) refl

none_has : (slot : CatSlot) → HasSlot empty_state slot → ⊥
none_has slot has = let both : Some slot ≡ None = sym has ∙ no_slot (key_of slot) in cc

no_entries : finite.entries (finite.empty {X = TenantEntry} {R = nat_cmp}) ≡ []
no_entries =
    nil_from_length (finite.entries (finite.empty {X = TenantEntry} {R = nat_cmp}))
    (sym (finite.len-entries (finite.empty {X = TenantEntry} {R = nat_cmp})) ∙ finite.len-empty nat_cmp TenantEntry)

no_quotas : quota_total empty_state ≡ 0
unfolding empty_state quota_total
no_quotas = rw (no_entries) refl

empty_catalogue : IsCatalogue empty_state
unfolding empty_state IsDistinct
empty_catalogue = record {
  few_bases = omega arith;
  few_extensions = omega arith;
  few_tenants = omega (arith, finite.len-empty nat_cmp TenantEntry);
  bases = All-nil IsBase;
  base_names = tt;
  extensions = All-nil (IsExtension empty_state);
  extension_names = tt;
  tenants = λ number entry e. let none : Some entry ≡ None = sym e ∙ finite.get-empty nat_cmp number in absurd (cc);
  quotas = omega (arith, no_quotas);
}

empty_is : IsCatalogueOf blank empty_state
empty_is = record {
  rules = empty_catalogue;
  said = record { slots = []; said = refl; read = record { once = tt; same = λ slot. (λ among. absurd among, λ has. absurd (none_has slot has)) } };
  few = λ table. omega arith;
}

no_tenant : (tenant : ℕ) → finite.get empty_state.tenants tenant ≡ None
unfolding empty_state
no_tenant tenant = finite.get-empty nat_cmp tenant

no_row : (key : Key) → finite.contains_key (content_of empty_state blank) key ≡ false
no_row key = ap is_some (finite.get-empty key_cmp key)

none_true : (b : Bool) → b ≡ false → b ≡ true → ⊥
none_true true e f = cc
none_true false e f = cc

pub empty_holds : Holds blank empty_state
empty_holds = record {
  page_zero = inl (λ k within. sym (get_or-replicate 20 k 0 0 (omega (arith, within, length-replicate {A = ℕ} 20 0))));
  pages_fit = λ page from upto. absurd (omega (arith, from, upto));
  catalogue = empty_is;
  bases_fit = λ page from upto. absurd (omega (arith, from, upto));
  rows = record {
    once = tt;
    rows = record {
      owned = λ key there. absurd (none_true (finite.contains_key (content_of empty_state blank) key) (no_row key) there);
      tables = λ tenant base table e. let none : Some table ≡ None = sym e ∙ ap (table_in base) (no_tenant tenant) in absurd (cc);
      quotas = λ tenant entry e. let none : Some entry ≡ None = sym e ∙ no_tenant tenant in absurd (cc);
    };
  };
}

pub empty_is_held : IsHeld blank_disk empty_state
empty_is_held = (blank, record { groups = []; tail = 0; chain = record { groups_stand = refl; closed = λ e. absurd (omega (arith, e)) }; replayed = refl }, empty_holds)
