-- What bounds the keys that a tenant's table gets with an extension.
use Rattle.std.proofs.Common.{◌≡◌, ℕ, ◌≤◌, Bool, true, false, cond, List, [], ◌∷◌, ◌++◌, length, map, None, Some, refl, sym, ap, ◌∙◌, arith}
use Rattle.std.specs.Prelude.{find, nat_lt, slice_get}
use Rattle.std.specs.List.{position_or_len, range_with_len}
use Rattle.std.specs.Str.{bytes_eq}
use Rattle.std.proofs.lemmas.Bool.{ltb-false}
use Rattle.std.proofs.lemmas.List.Folds.{find_at}
use Rattle.std.proofs.lemmas.Option.{slice_get_past}
use Rattle.mt_tree.specs.declared.schema.Column.{Column}
use Rattle.mt_fold.specs.Placements.{IsValidPlacement}
use Rattle.mt_catslot.specs.declared.slot.CatKey.{CatKey}
use Rattle.mt_catslot.specs.declared.slot.CatKey.TheVariants as keys
use Rattle.mt_catalog.specs.declared.state.Extension.{Extension}
use Rattle.mt_catalog.specs.declared.state.TenantTable.{TenantTable}
use Rattle.mt_catalog.specs.Found.{IsOf}
use Rattle.mt_catalog.specs.Rules.{IsCatalogue, IsExtension, IsTenantTable}
use Rattle.mt_catalog.specs.Slots.{slot_of}
use Rattle.mt_catalog.specs.State.{State, base_columns, extended_columns, tenant_table}
use Rattle.mt_catalog.proofs.Chunks.{table_keeps}
use Rattle.mt_catalog.proofs.Extensions.{few_numbers}
use Rattle.mt_catalog.proofs.Limits.{member_keeps}
use Rattle.mt_schema.specs.Changed.{generation_of, table_keys}
use Rattle.mt_schema.specs.Refusals.{extension_named}

-- the test by which an extension is found
abbrev is_named : List ℕ → Extension → Bool
is_named name extension = bytes_eq extension.name name

module _ (state : State) (name : List ℕ) where
  -- the extension of a name is the first of that name
  named_is : extension_named state name ≡ find (is_named name) state.extensions
  named_is = by (nat_lt at (length state.extensions)) refl
    where
      at : ℕ
      at = position_or_len (is_named name) state.extensions

      by : (b : Bool) → nat_lt at (length state.extensions) ≡ b → (elim (cond b (Some at) None) [ None ↦ None | Some number ↦ slice_get state.extensions number ]) ≡ find (is_named name) state.extensions
      by true e = sym (find_at (is_named name) state.extensions)
      by false e = sym (find_at (is_named name) state.extensions ∙ slice_get_past state.extensions at (ltb-false at (length state.extensions) e))

  pub few_named : (extension : Extension) → IsCatalogue state → extension_named state name ≡ Some extension → length extension.columns ≤ 16
  few_named extension rules e =
      (member_keeps (IsExtension state) state.extensions (position_or_len (is_named name) state.extensions) extension rules.extensions (sym (find_at (is_named name) state.extensions) ∙ sym named_is ∙ e)).columns.few

module _ (state : State) (rules : IsCatalogue state) (tenant base : ℕ) (table : TenantTable) (there : tenant_table state tenant base ≡ Some table) where
  own : IsOf (slot_of state) state
  own = record { rules = rules; same = λ key. refl }

  pub few_extended : length table.extended ≤ 32
  few_extended = few_numbers (slot_of state) state own base tenant table there

  pub table_rules : IsTenantTable state base table
  table_rules = table_keeps (slot_of state) state own tenant base table there

  -- the number of columns of the table, by its fold
  pub first_is : (first : ℕ) → ((columns : List Column) (base_len : ℕ) → IsValidPlacement table.placement columns base_len → first ≡ length columns)
      → (first ≡ length (extended_columns state base table.extended)) × (first ≤ 32)
  first_is first wide =
      let is = wide (extended_columns state base table.extended) (length (base_columns (slice_get state.bases base))) table_rules.placement in
      let few = table_rules.few in
      (is, omega (arith, is, few))

  -- the key of the extension, and those of its columns behind
  pub keys_are : (changed pushed none : List CatKey) (position first generation count : ℕ) → none ≡ [] → pushed ≡ none ++ keys.Extended tenant base position ∷ []
      → changed ≡ pushed ++ map (λ column. keys.Field tenant base generation column) (range_with_len first count)
      → position ≡ length table.extended → first ≡ length (extended_columns state base table.extended) → generation ≡ generation_of table.placement
      → changed ≡ table_keys state tenant base count (tenant_table state tenant base)
  keys_are changed pushed none position first generation count empty one all position_is first_is generation_is =
      all ∙ ap (λ (of : List CatKey). of ++ map (λ column. keys.Field tenant base generation column) (range_with_len first count)) (one ∙ ap (λ (of : List CatKey). of ++ keys.Extended tenant base position ∷ []) empty)
      ∙ ap (λ (n : ℕ). keys.Extended tenant base n ∷ map (λ column. keys.Field tenant base generation column) (range_with_len first count)) position_is
      ∙ ap (λ (n : ℕ). keys.Extended tenant base (length table.extended) ∷ map (λ column. keys.Field tenant base generation column) (range_with_len n count)) first_is
      ∙ ap (λ (g : ℕ). keys.Extended tenant base (length table.extended) ∷ map (λ column. keys.Field tenant base g column) (range_with_len (length (extended_columns state base table.extended)) count)) generation_is
      ∙ sym (ap (table_keys state tenant base count) there)
