-- Where more is found than a catalogue that keeps the rules has, what is found is of none.
use Rattle.std.proofs.Common.{◌≡◌, ℕ, zero, suc, ◌≤◌, List, [], ◌∷◌, length, Option, None, Some, refl, sym, ◌∙◌, subst, arith}
use Rattle.std.specs.Prelude.{All, slice_get}
use Rattle.std.proofs.lemmas.List.Elements.{All-head, All-tail}
use Rattle.std.proofs.lemmas.Option.{slice_get_past}
use Rattle.mt_tree.specs.declared.schema.Column.{Column}
use Rattle.mt_tree.specs.declared.schema.Table.{Table}
use Rattle.mt_catslot.specs.declared.slot.Class.{Class}
use Rattle.mt_catslot.specs.declared.slot.Class.TheVariants as classes
use Rattle.mt_catslot.specs.declared.slot.CatKey.TheVariants as keys
use Rattle.mt_catalog.specs.declared.state.Extension.{Extension}
use Rattle.mt_catalog.specs.State.{State, base_columns, extension_columns}
use Rattle.mt_catalog.specs.Slots.{class_columns}
use Rattle.mt_catalog.specs.Rules.{IsBase, IsExtension}
use Rattle.mt_catalog.specs.Found.{Found, IsFoundBase, IsFoundExtension, IsOf, IsOfNone, column_found, relation_found}
use Rattle.mt_catalog.proofs.Catalogues.{base_found, column_at, extension_found}
use Rattle.mt_catalog.proofs.Runs.{present}

-- what holds of each member holds of the one at a number
pub member_keeps : {A : Type 0} (P : A → Type 0) (xs : List A) (n : ℕ) (x : A) → All P xs → slice_get xs n ≡ Some x → P x
member_keeps P [] n x all e = absurd (cc)
member_keeps P (y ∷ ys) zero x all e = let same : y ≡ x = cc in subst P same (All-head P y ys all)
member_keeps P (y ∷ ys) (suc n) x all e = member_keeps P ys n x (All-tail P y ys all) e

few_base_columns : (found : Found) (state : State) (is : IsOf found state) (o : Option Table) (number : ℕ) → slice_get state.bases number ≡ o → length (base_columns o) ≤ 16
few_base_columns found state is None number e = omega arith
few_base_columns found state is (Some table) number e = (member_keeps IsBase state.bases number table is.rules.bases e).columns.few

few_extension_columns : (found : Found) (state : State) (is : IsOf found state) (o : Option Extension) (number : ℕ) → slice_get state.extensions number ≡ o → length (extension_columns o) ≤ 16
few_extension_columns found state is None number e = omega arith
few_extension_columns found state is (Some extension) number e = (member_keeps (IsExtension state) state.extensions number extension is.rules.extensions e).columns.few

few_columns : (found : Found) (state : State) (is : IsOf found state) (class : Class) (number : ℕ) → length (class_columns state class number) ≤ 16
few_columns found state is classes.BaseTable number = few_base_columns found state is (slice_get state.bases number) number refl
few_columns found state is classes.Extension number = few_extension_columns found state is (slice_get state.extensions number) number refl

-- a seventeenth column
pub too_many_columns : (found : Found) (class : Class) (number : ℕ) (columns : List Column) → length columns ≡ 17
    → ((p : ℕ) (column : Column) → slice_get columns p ≡ Some column → column_found (found (keys.Column class number p)) ≡ Some column) → IsOfNone found
too_many_columns found class number columns size each state is =
    let last = present columns 16 (omega (arith, size)) in
    let none : column_found (found (keys.Column class number 16)) ≡ None = column_at found state is class number 16 ∙ slice_get_past (class_columns state class number) 16 (few_columns found state is class number) in
    let no : Some last.0 ≡ None = sym (each 16 last.0 last.1) ∙ none in cc

-- a seventeenth base table, and a sixty-fifth extension
pub too_many_bases : (found : Found) (bases : List Table) → length bases ≡ 17 → ((n : ℕ) (table : Table) → slice_get bases n ≡ Some table → IsFoundBase found n table) → IsOfNone found
too_many_bases found bases size each state is =
    let last = present bases 16 (omega (arith, size)) in
    let at = each 16 last.0 last.1 in
    let none : relation_found (found (keys.Relation classes.BaseTable 16)) ≡ None = base_found found state is 16 None (slice_get_past state.bases 16 is.rules.few_bases) in
    let no : Some (at.base, last.0.name) ≡ None = sym at.named ∙ none in cc

pub too_many_extensions : (found : Found) (extensions : List Extension) → length extensions ≡ 65 → ((n : ℕ) (extension : Extension) → slice_get extensions n ≡ Some extension → IsFoundExtension found n extension) → IsOfNone found
too_many_extensions found extensions size each state is =
    let last = present extensions 64 (omega (arith, size)) in
    let at = each 64 last.0 last.1 in
    let none : relation_found (found (keys.Relation classes.Extension 64)) ≡ None = extension_found found state is 64 None (slice_get_past state.extensions 64 is.rules.few_extensions) in
    let no : Some (last.0.base, last.0.name) ≡ None = sym at.named ∙ none in cc
