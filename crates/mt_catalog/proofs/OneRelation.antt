-- Base tables and extensions that are found are determined.
use Rattle.std.proofs.Common.{◌≡◌, ℕ, List, [], Option, None, Some, sym, ap, ◌∙◌}
use Rattle.mt_tree.specs.declared.schema.Column.{Column}
use Rattle.mt_tree.specs.declared.schema.Table.{Table}
use Rattle.mt_catslot.specs.declared.slot.Class.TheVariants as classes
use Rattle.mt_catslot.specs.declared.slot.CatKey.TheVariants as keys
use Rattle.mt_catalog.specs.declared.state.Extension.{Extension}
use Rattle.mt_catalog.specs.Found.{AreFoundBases, AreFoundExtensions, Found, IsFoundBase, IsFoundExtension, column_found, relation_found}
use Rattle.mt_catalog.proofs.Runs.{one_run, one_run_of}

-- the parts of what is there
base_in : Option (ℕ × List ℕ) → ℕ
base_in None = 0
base_in (Some relation) = relation.0

name_in : Option (ℕ × List ℕ) → List ℕ
name_in None = []
name_in (Some relation) = relation.1

one_base : (found : Found) (number : ℕ) (a b : Table) → IsFoundBase found number a → IsFoundBase found number b → a ≡ b
unfolding name_in
one_base found number a b is other =
    let make : List ℕ → List Column → Table = λ name columns. record { name = name; columns = columns } in
    let names : a.name ≡ b.name = ap name_in (sym is.named ∙ other.named) in
    let columns : a.columns ≡ b.columns = one_run_of (λ position. column_found (found (keys.Column classes.BaseTable number position))) a.columns b.columns is.columns other.columns in
    ap (λ name. make name a.columns) names ∙ ap (make b.name) columns

pub one_bases : (found : Found) (a b : List Table) → AreFoundBases found a → AreFoundBases found b → a ≡ b
one_bases found a b are others = one_run (IsFoundBase found) (λ number. relation_found (found (keys.Relation classes.BaseTable number)) ≡ None) (one_base found)
    (λ number table is none. let no : Some (is.base, table.name) ≡ None = sym is.named ∙ none in cc) a b are others

one_extension : (found : Found) (number : ℕ) (a b : Extension) → IsFoundExtension found number a → IsFoundExtension found number b → a ≡ b
unfolding name_in base_in
one_extension found number a b is other =
    let make : List ℕ → ℕ → List Column → Extension = λ name base columns. record { name = name; base = base; columns = columns } in
    let names : a.name ≡ b.name = ap name_in (sym is.named ∙ other.named) in
    let bases : a.base ≡ b.base = ap base_in (sym is.named ∙ other.named) in
    let columns : a.columns ≡ b.columns = one_run_of (λ position. column_found (found (keys.Column classes.Extension number position))) a.columns b.columns is.columns other.columns in
    ap (λ name. make name a.base a.columns) names ∙ ap (λ base. make b.name base a.columns) bases ∙ ap (make b.name b.base) columns

pub one_extensions : (found : Found) (a b : List Extension) → AreFoundExtensions found a → AreFoundExtensions found b → a ≡ b
one_extensions found a b are others = one_run (IsFoundExtension found) (λ number. relation_found (found (keys.Relation classes.Extension number)) ≡ None) (one_extension found)
    (λ number extension is none. let no : Some (extension.base, extension.name) ≡ None = sym is.named ∙ none in cc) a b are others
