-- Columns that a command defines, where none of its tests holds, keep the rules.
use Rattle.std.proofs.Common.{◌≡◌, ℕ, ◌≤◌, true, false, ◌||◌, List, [], ◌∷◌, length, map, refl, sym, ap, subst, arith}
use Rattle.std.specs.Prelude.{All}
use Rattle.std.proofs.lemmas.Bool.{and_parts, leb-true, ltb-false, not-false, or_parts, or_right}
use Rattle.std.proofs.lemmas.List.{length-map}
use Rattle.std.proofs.lemmas.List.Elements.{All-map}
use Rattle.std.proofs.lemmas.List.Sums.{AllPass-from_list_all}
use Rattle.mt_lexer.specs.Reserved.{IsNameText}
use Rattle.mt_tree.specs.declared.command.Def.{Def}
use Rattle.mt_tree.specs.declared.command.DefKind.{DefKind}
use Rattle.mt_tree.specs.declared.command.DefKind.TheVariants as def
use Rattle.mt_catalog.specs.Rules.{AreApart, AreColumns, IsColumn, IsKind, IsPlain, column_names}
use Rattle.mt_schema.specs.Refusals.{are_outside, def_names, is_size_within}
use Rattle.mt_schema.specs.Steps.{column_of, has_name, kind_of}

size_is : (kind : DefKind) → is_size_within kind ≡ true → IsKind (kind_of kind)
size_is def.Integer e = tt
size_is (def.Varchar size) e = let both = and_parts _ _ e in (leb-true 1 size both.0, leb-true size 120 both.1)

column_is : (key : List (List ℕ)) (def : Def) → IsNameText def.name → is_size_within def.kind ≡ true → IsColumn (column_of key def)
column_is key def name size = record { name = name; kind = size_is def.kind size; key = λ of. or_right def.not_null (has_name key def.name) of }

-- the names of the columns are those that are defined
pub names_are : (key : List (List ℕ)) (defs : List Def) → column_names (map (column_of key) defs) ≡ def_names defs
names_are key [] = refl
names_are key (def ∷ defs) = ap (λ names. def.name ∷ names) (names_are key defs)

pub columns_are : (key : List (List ℕ)) (defs : List Def) → 1 ≤ length defs → All (λ def. IsNameText def.name) defs → are_outside defs ≡ false → AreApart (def_names defs) → AreColumns (map (column_of key) defs)
columns_are key defs some names inside apart =
    let size = length-map defs (column_of key) in
    let parts = or_parts _ _ inside in
    let few = ltb-false 16 (length defs) parts.0 in
    let sizes = AllPass-from_list_all (λ def. is_size_within def.kind) defs (not-false _ parts.1) in
    record {
      some = omega (arith, size, some);
      few = omega (arith, size, few);
      each = All-map IsColumn (column_of key) defs (λ k d within. column_is key _ (names k d within) (sizes k d within));
      apart = subst AreApart (sym (names_are key defs)) apart;
    }

-- a column that is not NOT NULL, and of no key
pub plain_are : (defs : List Def) → All (λ def. def.not_null ≡ false) defs → All IsPlain (map (column_of []) defs)
plain_are defs nullable = All-map IsPlain (column_of []) defs (λ k d within. plain_is _ (nullable k d within))
  where
    plain_is : (def : Def) → def.not_null ≡ false → IsPlain (column_of [] def)
    plain_is def e = record { not_null = ap (λ b. b || false) e; key = refl }
