-- Changes of which one more is made.
use Rattle.std.proofs.Common.{◌≡◌, ℕ, ◌+◌, ◌&&◌, nat_eq, if◌then◌else◌, List, [], ◌∷◌, ◌++◌, refl, arith}
use Rattle.mt_physplan.specs.declared.change.Change.{Change}
use Rattle.mt_physplan.specs.Applied.{Catalogue, applied, applied_by, catalogue_applied, catalogue_applied_by}
use Rattle.mt_physplan.specs.Content.{Content}
use Rattle.mt_places.specs.Named.{table_of}
use Rattle.mt_staging.specs.Group.{is_new, new_keys}

pub applied-last : (changes : List Change) (change : Change) (content : Content) → applied (changes ++ change ∷ []) content ≡ applied_by change (applied changes content)
applied-last [] change content = refl
applied-last (first ∷ changes) change content = applied-last changes change (applied_by first content)

pub catalogue_applied-last : (changes : List Change) (change : Change) (catalogue : Catalogue) → catalogue_applied (changes ++ change ∷ []) catalogue ≡ catalogue_applied_by change (catalogue_applied changes catalogue)
catalogue_applied-last [] change catalogue = refl
catalogue_applied-last (first ∷ changes) change catalogue = catalogue_applied-last changes change (catalogue_applied_by first catalogue)

-- what a change adds to the new keys of a table
abbrev pub newly : ℕ → Change → Content → Catalogue → ℕ
newly t change rows catalogue = if nat_eq (table_of change) t && is_new change rows catalogue then 1 else 0

pub new_keys-last : (t : ℕ) (changes : List Change) (change : Change) (rows : Content) (catalogue : Catalogue)
    → new_keys t (changes ++ change ∷ []) rows catalogue ≡ new_keys t changes rows catalogue + newly t change (applied changes rows) (catalogue_applied changes catalogue)
new_keys-last t [] change rows catalogue = omega arith
new_keys-last t (first ∷ changes) change rows catalogue = let h = new_keys-last t changes change (applied_by first rows) (catalogue_applied_by first catalogue) in omega (arith, h)
