-- What stands with a key among entries.
use Rattle.std.proofs.Common.{◌≡◌, ◌&&◌, Bool, true, false, cond, List, [], ◌∷◌, Some, refl, sym, ap, ◌∙◌, subst, eqb-true, eq-eqb}
use Rattle.std.specs.Prelude.{◌==◌}
use Rattle.std.specs.Map.{lookup}
use Rattle.mt_catslot.specs.declared.slot.Class.{Class}
use Rattle.mt_catslot.specs.declared.slot.Class.TheVariants as classes
use Rattle.mt_catslot.specs.contracts.slot.CatKeyPartialEq.TheImpl as key_eq
use Rattle.mt_catslot.specs.declared.slot.CatSlot.{CatSlot}
use Rattle.mt_catslot.specs.declared.slot.CatKey.{CatKey}
use Rattle.mt_catslot.specs.declared.slot.CatKey.TheVariants as keys
use Rattle.mt_catalog.specs.Keyed.{same_class, same_key, slot_in}

-- a look-up by a test that is that of the key
pub looked_up : (test : CatKey → Bool) (key : CatKey) → ((k : CatKey) → test k ≡ same_key key k) → (entries : List (CatKey × CatSlot)) → lookup test entries ≡ slot_in entries key
looked_up test key same [] = refl
looked_up test key same (entry ∷ entries) =
    ap (λ b. cond b (Some entry.1) (lookup test entries)) (same entry.0) ∙ ap (cond (same_key key entry.0) (Some entry.1)) (looked_up test key same entries)

both_true : (a b : Bool) → (a && b) ≡ true → (a ≡ true) × (b ≡ true)
both_true true true e = (refl, refl)
both_true true false e = absurd (cc)
both_true false b e = absurd (cc)

both : (a b : Bool) → a ≡ true → b ≡ true → (a && b) ≡ true
both true true e f = refl
both true false e f = f
both false b e f = e

class_is : (a b : Class) → same_class a b ≡ true → a ≡ b
class_is classes.BaseTable classes.BaseTable e = refl
class_is classes.BaseTable classes.Extension e = absurd (cc)
class_is classes.Extension classes.BaseTable e = absurd (cc)
class_is classes.Extension classes.Extension e = refl

own_class : (a : Class) → same_class a a ≡ true
own_class classes.BaseTable = refl
own_class classes.Extension = refl

-- a key is one with itself
pub own_key : (key : CatKey) → same_key key key ≡ true
own_key (keys.Relation class number) = both (same_class class class) (number == number) (own_class class) (eq-eqb number number refl)
own_key (keys.Column class number position) =
    both (same_class class class) ((number == number) && (position == position)) (own_class class) (both (number == number) (position == position) (eq-eqb number number refl) (eq-eqb position position refl))
own_key (keys.Tenant tenant) = eq-eqb tenant tenant refl
own_key (keys.Placement tenant base) = both (tenant == tenant) (base == base) (eq-eqb tenant tenant refl) (eq-eqb base base refl)
own_key (keys.Extended tenant base position) =
    both (tenant == tenant) ((base == base) && (position == position)) (eq-eqb tenant tenant refl) (both (base == base) (position == position) (eq-eqb base base refl) (eq-eqb position position refl))
own_key (keys.Field tenant base generation column) =
    both (tenant == tenant) ((base == base) && ((generation == generation) && (column == column))) (eq-eqb tenant tenant refl)
    (both (base == base) ((generation == generation) && (column == column)) (eq-eqb base base refl)
    (both (generation == generation) (column == column) (eq-eqb generation generation refl) (eq-eqb column column refl)))

-- the test that is derived is that of the key
pub derived_same : (a b : CatKey) → (key_eq.ghosts).eq a b ≡ same_key a b
derived_same (keys.Relation classes.BaseTable number) (keys.Relation classes.BaseTable n) = refl
derived_same (keys.Column classes.BaseTable number position) (keys.Column classes.BaseTable n p) = refl
derived_same (keys.Relation classes.BaseTable number) (keys.Relation classes.Extension n) = refl
derived_same (keys.Column classes.BaseTable number position) (keys.Column classes.Extension n p) = refl
derived_same (keys.Relation classes.Extension number) (keys.Relation classes.BaseTable n) = refl
derived_same (keys.Column classes.Extension number position) (keys.Column classes.BaseTable n p) = refl
derived_same (keys.Relation classes.Extension number) (keys.Relation classes.Extension n) = refl
derived_same (keys.Column classes.Extension number position) (keys.Column classes.Extension n p) = refl
derived_same (keys.Relation class number) (keys.Column c n p) = refl
derived_same (keys.Relation class number) (keys.Tenant t) = refl
derived_same (keys.Relation class number) (keys.Placement t b) = refl
derived_same (keys.Relation class number) (keys.Extended t b p) = refl
derived_same (keys.Relation class number) (keys.Field t b g c) = refl
derived_same (keys.Column class number position) (keys.Relation c n) = refl
derived_same (keys.Column class number position) (keys.Tenant t) = refl
derived_same (keys.Column class number position) (keys.Placement t b) = refl
derived_same (keys.Column class number position) (keys.Extended t b p) = refl
derived_same (keys.Column class number position) (keys.Field t b g c) = refl
derived_same (keys.Tenant tenant) (keys.Relation c n) = refl
derived_same (keys.Tenant tenant) (keys.Column c n p) = refl
derived_same (keys.Tenant tenant) (keys.Tenant t) = refl
derived_same (keys.Tenant tenant) (keys.Placement t b) = refl
derived_same (keys.Tenant tenant) (keys.Extended t b p) = refl
derived_same (keys.Tenant tenant) (keys.Field t b g c) = refl
derived_same (keys.Placement tenant base) (keys.Relation c n) = refl
derived_same (keys.Placement tenant base) (keys.Column c n p) = refl
derived_same (keys.Placement tenant base) (keys.Tenant t) = refl
derived_same (keys.Placement tenant base) (keys.Placement t b) = refl
derived_same (keys.Placement tenant base) (keys.Extended t b p) = refl
derived_same (keys.Placement tenant base) (keys.Field t b g c) = refl
derived_same (keys.Extended tenant base position) (keys.Relation c n) = refl
derived_same (keys.Extended tenant base position) (keys.Column c n p) = refl
derived_same (keys.Extended tenant base position) (keys.Tenant t) = refl
derived_same (keys.Extended tenant base position) (keys.Placement t b) = refl
derived_same (keys.Extended tenant base position) (keys.Extended t b p) = refl
derived_same (keys.Extended tenant base position) (keys.Field t b g c) = refl
derived_same (keys.Field tenant base generation column) (keys.Relation c n) = refl
derived_same (keys.Field tenant base generation column) (keys.Column c n p) = refl
derived_same (keys.Field tenant base generation column) (keys.Tenant t) = refl
derived_same (keys.Field tenant base generation column) (keys.Placement t b) = refl
derived_same (keys.Field tenant base generation column) (keys.Extended t b p) = refl
derived_same (keys.Field tenant base generation column) (keys.Field t b g c) = refl

-- keys that are one are equal
pub key_is : (a b : CatKey) → same_key a b ≡ true → a ≡ b
key_is (keys.Relation class number) (keys.Relation c n) e = let p = both_true (same_class class c) (number == n) e in let q = class_is class c p.0 in let r = eqb-true number n p.1 in cc
key_is (keys.Column class number position) (keys.Column c n p) e =
    let first = both_true (same_class class c) ((number == n) && (position == p)) e in
    let rest = both_true (number == n) (position == p) first.1 in
    let classes = class_is class c first.0 in
    let numbers = eqb-true number n rest.0 in
    let positions = eqb-true position p rest.1 in
    cc
key_is (keys.Tenant tenant) (keys.Tenant t) e = let tenants = eqb-true tenant t e in cc
key_is (keys.Placement tenant base) (keys.Placement t b) e =
    let both = both_true (tenant == t) (base == b) e in let tenants = eqb-true tenant t both.0 in let bases = eqb-true base b both.1 in cc
key_is (keys.Extended tenant base position) (keys.Extended t b p) e =
    let first = both_true (tenant == t) ((base == b) && (position == p)) e in
    let rest = both_true (base == b) (position == p) first.1 in
    let tenants = eqb-true tenant t first.0 in
    let bases = eqb-true base b rest.0 in
    let positions = eqb-true position p rest.1 in
    cc
key_is (keys.Field tenant base generation column) (keys.Field t b g c) e =
    let first = both_true (tenant == t) ((base == b) && ((generation == g) && (column == c))) e in
    let second = both_true (base == b) ((generation == g) && (column == c)) first.1 in
    let rest = both_true (generation == g) (column == c) second.1 in
    let tenants = eqb-true tenant t first.0 in
    let bases = eqb-true base b second.0 in
    let generations = eqb-true generation g rest.0 in
    let columns = eqb-true column c rest.1 in
    cc
key_is key other e = absurd (cc)

-- keys that are not one are not so in the other order
pub other_key : (a b : CatKey) → same_key a b ≡ false → same_key b a ≡ false
other_key a b apart = by (same_key b a) refl
  where
    by : (x : Bool) → same_key b a ≡ x → same_key b a ≡ false
    by false e = e
    by true e = let no : true ≡ false = sym (subst (λ (key : CatKey). same_key a key ≡ true) (sym (key_is b a e)) (own_key a)) ∙ apart in absurd (cc)
