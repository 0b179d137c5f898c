-- What changes name: the table of each, the key of a row or the body of a slot of the catalogue.
use Rattle.std.specs.Prelude.{ℕ, nat_eq, Bool, true, false, List, Option, None, Some}
use Rattle.mt_physplan.specs.declared.change.Change.{Change}
use Rattle.mt_physplan.specs.declared.change.Change.TheVariants.{Put, Mark, Remove, PutCat, RemoveCat}
use Rattle.mt_physplan.specs.declared.key.Key.{Key}
use Rattle.mt_physplan.specs.Keys.{conventional_key, key_in}

-- the table of a change
abbrev pub table_of : Change → ℕ
table_of (Put table slot) = table
table_of (Mark table tenant row mark) = table
table_of (Remove table tenant base chunk row) = table
table_of (PutCat table body) = table
table_of (RemoveCat table body) = table

-- whether a change names a table
abbrev pub is_of : ℕ → Change → Bool
is_of table change = nat_eq (table_of change) table

-- the key of the row that a change names
abbrev pub row_key : Change → Option Key
row_key (Put table slot) = Some (key_in table slot)
row_key (Mark table tenant row mark) = Some (conventional_key table tenant row)
row_key (Remove table tenant base chunk row) = Some (record { table = table; tenant = tenant; base = base; chunk = chunk; row = row })
row_key (PutCat table body) = None
row_key (RemoveCat table body) = None

-- the slot of the catalogue that a change names
abbrev pub body_key : Change → Option (ℕ × List ℕ)
body_key (Put table slot) = None
body_key (Mark table tenant row mark) = None
body_key (Remove table tenant base chunk row) = None
body_key (PutCat table body) = Some (table, body)
body_key (RemoveCat table body) = Some (table, body)

-- whether a change puts a slot
abbrev pub is_put : Change → Bool
is_put (Put table slot) = true
is_put (Mark table tenant row mark) = false
is_put (Remove table tenant base chunk row) = false
is_put (PutCat table body) = true
is_put (RemoveCat table body) = false
