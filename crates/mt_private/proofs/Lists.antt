-- Lists of rows by their numbers.
use Rattle.std.proofs.Common.{◌≡◌, ℕ, zero, suc, List, [], ◌∷◌, None, Some, refl}
use Rattle.std.specs.Prelude.{slice_get}
use Rattle.std.proofs.lemmas.Option.{get_or_from_slice_get}
use Rattle.mt_tree.specs.declared.row.MarkedRow.{MarkedRow}
use Rattle.mt_private.specs.Seen.{list_at}

pub at_got : (lists : List (List MarkedRow)) (base : ℕ) (rows : List MarkedRow) → slice_get lists base ≡ Some rows → list_at lists base ≡ rows
at_got lists base rows got = get_or_from_slice_get lists base rows [] got

pub at_none : (lists : List (List MarkedRow)) (base : ℕ) → slice_get lists base ≡ None → list_at lists base ≡ []
at_none [] base none = refl
at_none (rows ∷ lists) zero none = absurd (cc)
at_none (rows ∷ lists) (suc base) none = at_none lists base none
