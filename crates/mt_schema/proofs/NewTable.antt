-- A new table of a tenant has one slot, and keeps the rules.
use Rattle.std.proofs.Common.{◌≡◌, ℕ, zero, suc, ◌≤◌, Bool, true, false, cond, List, [], length, replicate, None, Some, refl, sym, ap, ◌∙◌, subst, arith, append-nil}
use Rattle.std.specs.Prelude.{nat_eq, slice_get}
use Rattle.std.proofs.lemmas.List.{length-replicate}
use Rattle.std.proofs.lemmas.List.Elements.{All-nil}
use Rattle.std.proofs.lemmas.Option.{slice_get_within}
use Rattle.mt_tree.specs.declared.schema.Column.{Column}
use Rattle.mt_tree.specs.declared.schema.Table.{Table}
use Rattle.mt_fold.specs.declared.fold.Fold.{Fold}
use Rattle.mt_fold.specs.declared.fold.Place.{Place}
use Rattle.mt_fold.specs.declared.fold.Place.TheVariants.{Conv, Field}
use Rattle.mt_fold.specs.Folds.{IsValidFold}
use Rattle.mt_fold.specs.Placements.{IsValidPlacement}
use Rattle.mt_catalog.specs.State.{State, base_columns}
use Rattle.mt_catalog.specs.Slots.{column_in_fold, extended_slot, field_slot, placed_slot}
use Rattle.mt_catalog.specs.Rules.{AreApart, IsBase, IsTenantTable, column_names}
use Rattle.mt_catalog.specs.Clauses.{Extends}
use Rattle.mt_schema.specs.Steps.{new_table}

-- a column of a fold with all its columns in the conventional row has no slot
in_row : (tenant base generation column : ℕ) (fold : Fold) (count at : ℕ) → placed_slot tenant base generation column fold (slice_get (replicate count Conv) at) ≡ None
in_row tenant base generation column fold zero at = refl
in_row tenant base generation column fold (suc count) zero = refl
in_row tenant base generation column fold (suc count) (suc at) = in_row tenant base generation column fold count at

-- of a tenant's new table there is one slot
pub no_extension : (tenant base position : ℕ) (table : Table) → extended_slot tenant base position (Some (new_table table)) ≡ None
no_extension tenant base position table = refl

pub no_field : (tenant base generation column : ℕ) (table : Table) → field_slot tenant base generation column (Some (new_table table)) ≡ None
no_field tenant base generation column table = by (nat_eq generation 0)
  where
    fold : Fold
    fold = record { shapes = []; places = replicate (length table.columns) Conv }

    by : (b : Bool) → column_in_fold tenant base generation column (cond b (Some fold) None) ≡ None
    by true = in_row tenant base generation column fold (length table.columns) column
    by false = refl

-- the places of a fold with all columns in the conventional row
conv_at : (count column : ℕ) (place : Place) → slice_get (replicate count Conv) column ≡ Some place → place ≡ Conv
conv_at zero column place e = absurd (cc)
conv_at (suc count) zero place e = cc
conv_at (suc count) (suc column) place e = conv_at count column place e

no_place : (count column chunk field : ℕ) → slice_get (replicate count Conv) column ≡ Some (Field chunk field) → ⊥
no_place count column chunk field e = let no = conv_at count column (Field chunk field) e in cc

conv_is_valid : (columns : List Column) → IsValidFold (record { shapes = []; places = replicate (length columns) Conv }) columns (length columns)
conv_is_valid columns =
    let size = length-replicate (length columns) Conv in
    record {
      each_column = size;
      base_columns = λ column e. let within = slice_get_within (replicate (length columns) Conv) column Conv e in omega (arith, within, size);
      few_chunks = omega arith;
      each_chunk = λ chunk within. absurd (omega (arith, within));
      fields = λ position column chunk field e f. absurd (no_place (length columns) position chunk field f);
      apart = λ a b chunk field e f. absurd (no_place (length columns) a chunk field e);
      first_fields = λ chunk field earlier kind used is below other. absurd (no_place (length columns) used.0 chunk field used.1);
    }

pub new_table_is : (state : State) (base : ℕ) (table : Table) → slice_get state.bases base ≡ Some table → IsBase table → IsTenantTable state base (new_table table)
new_table_is state base table there is =
    let columns = append-nil (base_columns (slice_get state.bases base)) ∙ ap base_columns there in
    let few = is.columns.few in
    record {
      made = omega arith;
      extended = All-nil (Extends state.extensions base);
      few = subst (λ of. length of ≤ 32) (sym columns) (omega (arith, few));
      apart = subst (λ of. AreApart (column_names of)) (sym columns) is.columns.apart;
      placement = subst (λ of. IsValidPlacement (new_table table).placement of (length (base_columns (slice_get state.bases base)))) (sym columns)
          (subst (λ of. IsValidPlacement (new_table table).placement table.columns (length (base_columns of))) (sym there) (omega arith, conv_is_valid table.columns));
      moves = tt;
    }
