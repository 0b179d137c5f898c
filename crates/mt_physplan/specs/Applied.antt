-- What changes do to physical tables and to the catalogue.
use Rattle.std.specs.Prelude.{ℕ, Option, Some, None, List, [], ◌∷◌}
use Rattle.std.specs.declared.cmp.Ordering.{Ordering}
use Rattle.std.specs.Ordering.{nat_cmp, ordering_then}
use Rattle.std.specs.Cmp.Lexicographic.{slice_cmp}
use Rattle.std.specs.FinMap as finite
use Rattle.std.specs.FinSet as set
use Rattle.mt_physplan.specs.declared.change.Change.{Change}
use Rattle.mt_physplan.specs.declared.change.Change.TheVariants.{Put, Mark, Remove, PutCat, RemoveCat}
use Rattle.mt_physplan.specs.declared.key.Key.{Key}
use Rattle.mt_physplan.specs.declared.key.Cell.{Cell}
use Rattle.mt_physplan.specs.Content.{Content}
use Rattle.mt_physplan.specs.Keys.{cell_of, conventional_key, key_in}

-- the cell that was found, with this mark
abbrev pub with_mark : ℕ → Key → Option Cell → Content → Content
with_mark mark key None content = content
with_mark mark key (Some cell) content = finite.insert content key (record { mark = mark; values = cell.values })

-- the slots after one change; a put takes the place of a slot with its key
abbrev pub applied_by : Change → Content → Content
applied_by (Put table slot) content = finite.insert content (key_in table slot) (cell_of slot)
applied_by (Mark table tenant row mark) content = with_mark mark (conventional_key table tenant row) (finite.get content (conventional_key table tenant row)) content
applied_by (Remove table tenant base chunk row) content = finite.remove content (record { table = table; tenant = tenant; base = base; chunk = chunk; row = row })
applied_by (PutCat table body) content = content
applied_by (RemoveCat table body) content = content

-- the slots after all changes
abbrev pub applied : List Change → Content → Content
applied [] content = content
applied (change ∷ changes) content = applied changes (applied_by change content)

-- slots of the catalogue by table, and then by their bodies
abbrev pub body_cmp : ℕ × List ℕ → ℕ × List ℕ → Ordering
body_cmp a b = ordering_then (nat_cmp a.0 b.0) (slice_cmp nat_cmp a.1 b.1)

-- the slots in use of the catalogue: its tables and their bodies
abbrev pub Catalogue : Type 0
Catalogue = set.FinSet body_cmp

-- the catalogue after one change
abbrev pub catalogue_applied_by : Change → Catalogue → Catalogue
catalogue_applied_by (PutCat table body) catalogue = finite.insert catalogue (table, body) tt
catalogue_applied_by (RemoveCat table body) catalogue = finite.remove catalogue (table, body)
catalogue_applied_by (Put table slot) catalogue = catalogue
catalogue_applied_by (Mark table tenant row mark) catalogue = catalogue
catalogue_applied_by (Remove table tenant base chunk row) catalogue = catalogue

-- the catalogue after all changes
abbrev pub catalogue_applied : List Change → Catalogue → Catalogue
catalogue_applied [] catalogue = catalogue
catalogue_applied (change ∷ changes) catalogue = catalogue_applied changes (catalogue_applied_by change catalogue)
