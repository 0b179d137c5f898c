-- Tenants that are copied one after another, and the maps of them.
use Rattle.std.proofs.Common.{◌≡◌, ℕ, false, cond, List, [], ◌∷◌, ◌++◌, map, Some, None, refl, sym, ap, ◌∙◌, subst, append_assoc, append-nil}
use Rattle.std.specs.Prelude.{nat_eq, option_map}
use Rattle.std.specs.Cmp.{nat_cmp_total, nat_eq_equiv}
use Rattle.std.specs.FinMap as finite
use Rattle.std.specs.List.{AllByRecursion as Each, IsDistinct}
use Rattle.std.specs.Map.{keys_of, lookup}
use Rattle.std.specs.Ordering.{nat_cmp}
use Rattle.std.proofs.lemmas.Map.Keys.{IsDistinct-head, IsDistinct-tail}
use Rattle.mt_catalog.specs.declared.state.TenantEntry.{TenantEntry}
use Rattle.mt_catalog.specs.State.{State}
use Rattle.mt_catalog.proofs.Numbered.{got_looked}
use Rattle.mt_prepare.specs.Copies.{with_new_tables}
use Rattle.mt_schema.specs.Steps.{in_each}
use Rattle.mt_schema.proofs.Maps.{find-map, get-in_each, get-insert}

-- a number differs from those in front of it
here : (P : ℕ → Type 0) (xs : List ℕ) (k : ℕ) (ys : List ℕ) → Each P (xs ++ k ∷ ys) → P k
here P [] k ys each = each.0
here P (x ∷ xs) k ys each = here P xs k ys each.1

none_before : (xs : List ℕ) (k : ℕ) (ys : List ℕ) → IsDistinct nat_eq (xs ++ k ∷ ys) → Each (λ x. nat_eq k x ≡ false) xs
none_before [] k ys distinct = tt
none_before (x ∷ xs) k ys distinct = (
  nat_eq_equiv.symm k x ∙ here (λ y. nat_eq x y ≡ false) xs k ys (IsDistinct-head nat_eq x (xs ++ k ∷ ys) distinct),
  none_before xs k ys (IsDistinct-tail nat_eq x (xs ++ k ∷ ys) distinct),
)

lacking : {X : Type 0} (es : List (ℕ × X)) (k : ℕ) → Each (λ x. nat_eq k x ≡ false) (keys_of es) → lookup (nat_eq k) es ≡ None
lacking [] k none = refl
lacking (e ∷ es) k none = ap (λ b. cond b (Some e.1) (lookup (nat_eq k) es)) none.0 ∙ lacking es k none.1

module _ {X Y : Type 0} (f : X → Y) where
  -- the entries with each value changed
  abbrev pub changed : List (ℕ × X) → List (ℕ × Y)
  changed entries = map (λ entry. (entry.0, f entry.1)) entries

  keys-changed : (es : List (ℕ × X)) → keys_of (changed es) ≡ keys_of es
  keys-changed [] = refl
  keys-changed (e ∷ es) = ap (λ ks. e.0 ∷ ks) (keys-changed es)

  keys-joined : (done : List (ℕ × Y)) (es : List (ℕ × X)) → keys_of (done ++ changed es) ≡ keys_of done ++ keys_of es
  keys-joined [] es = keys-changed es
  keys-joined (d ∷ done) es = ap (λ ks. d.0 ∷ ks) (keys-joined done es)

  module _ (done : List (ℕ × Y)) (rest left all : List (ℕ × X)) (number : ℕ) (value : X) (first : rest ≡ (number, value) ∷ left) (so_far : done ++ changed rest ≡ changed all) where
    -- one entry more is changed
    pub one_more : (done ++ (number, f value) ∷ []) ++ changed left ≡ changed all
    one_more = append_assoc done ((number, f value) ∷ []) (changed left) ∙ ap (λ of. done ++ changed of) (sym first) ∙ so_far

    -- whose number is not among those that are
    pub is_new : IsDistinct nat_eq (keys_of all) → lookup (nat_eq number) done ≡ None
    is_new distinct =
        let keys = sym (keys-joined done ((number, value) ∷ left)) ∙ ap (λ of. keys_of (done ++ changed of)) (sym first) ∙ ap keys_of so_far ∙ keys-changed all in
        lacking done number (none_before (keys_of done) number (keys_of left) (subst (IsDistinct nat_eq) (sym keys) distinct))

  -- the map of changed entries has each value changed
  pub each_changed : (es : List (ℕ × X)) → finite.from_entries (changed es) ≡ in_each f (finite.from_entries es)
  each_changed es = finite.same_map nat_cmp_total finite.nat_cmp-IsAntisymmetric _ _ (λ n.
      finite.get-from_entries nat_cmp_total (changed es) n ∙ find-map f n es ∙ ap (option_map f) (sym (finite.get-from_entries nat_cmp_total es n)) ∙ sym (get-in_each f (finite.from_entries es) n))

-- entries among which one is put are those of the map into which it is put
pub entry_put : {X : Type 0} (es put : List (ℕ × X)) (k : ℕ) (v : X) → ((n : ℕ) → lookup (nat_eq n) put ≡ cond (nat_eq k n) (Some v) (lookup (nat_eq n) es)) → finite.from_entries {R = nat_cmp} put ≡ finite.insert (finite.from_entries es) k v
entry_put es put k v updates = finite.same_map nat_cmp_total finite.nat_cmp-IsAntisymmetric _ _ (λ n.
    got_looked put n ∙ updates n ∙ ap (λ b. cond b (Some v) (lookup (nat_eq n) es)) (nat_eq_equiv.symm k n) ∙ ap (cond (nat_eq n k) (Some v)) (sym (got_looked es n)) ∙ sym (get-insert (finite.from_entries es) k v n))

-- with no new table the entries stay
pub entries_stay : (es : List (ℕ × TenantEntry)) → changed (with_new_tables []) es ≡ es
entries_stay [] = refl
entries_stay (e ∷ es) =
    ap (λ (tables : List _). (e.0, record { quota = e.1.quota; tables = tables }) ∷ changed (with_new_tables []) es) (append-nil e.1.tables) ∙ ap (λ rest. e ∷ rest) (entries_stay es)

-- catalogues with equal parts are equal
pub same_state : (a b : State) → a.bases ≡ b.bases → a.extensions ≡ b.extensions → a.tenants ≡ b.tenants → a ≡ b
same_state a b bases extensions tenants = λ i. record { bases = bases i; extensions = extensions i; tenants = tenants i }
