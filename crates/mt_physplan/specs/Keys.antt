-- The keys of slots, and their order.
use Rattle.std.specs.Prelude.{◌≡◌, ◌⊎◌, ℕ, ◌≤◌, List, refl}
use Rattle.std.specs.declared.cmp.Ordering.{Ordering}
use Rattle.std.specs.Ordering.{nat_cmp, ordering_then}
use Rattle.std.specs.Coded.{Coded, coded_ℕ, coded×, code_by}
use Rattle.mt_rowfile.specs.declared.slot.SlotRow.{SlotRow}
use Rattle.mt_physplan.specs.declared.key.Key.{Key}
use Rattle.mt_physplan.specs.declared.key.Cell.{Cell}

-- the key of a slot of a physical table
abbrev pub key_in : ℕ → SlotRow → Key
key_in table slot = record { table = table; tenant = slot.tenant; base = slot.base; chunk = slot.chunk; row = slot.row }

-- the key of a slot of a conventional table
abbrev pub conventional_key : ℕ → ℕ → ℕ → Key
conventional_key table tenant row = record { table = table; tenant = tenant; base = 0; chunk = 0; row = row }

-- what a slot holds beside its key
abbrev pub cell_of : SlotRow → Cell
cell_of slot = record { mark = slot.mark; values = slot.values }

-- the slot with a key that holds this
abbrev pub slot_in : Key → Cell → SlotRow
slot_in key cell = record { mark = cell.mark; tenant = key.tenant; base = key.base; chunk = key.chunk; row = key.row; values = cell.values }

-- by table, tenant, base table and chunk, and then by Row
abbrev pub key_cmp : Key → Key → Ordering
key_cmp a b = ordering_then (nat_cmp a.table b.table) (ordering_then (nat_cmp a.tenant b.tenant) (ordering_then (nat_cmp a.base b.base) (ordering_then (nat_cmp a.chunk b.chunk) (nat_cmp a.row b.row))))

-- a key of a chunk table
pub record IsChunkKey (key : Key) : Type 0 where
  pub from : 1 ≤ key.table
  pub upto : key.table ≤ 6

-- a key of a conventional table, which names no base table and no chunk
pub record IsConventionalKey (key : Key) : Type 0 where
  pub from : 16 ≤ key.table
  pub upto : key.table ≤ 31
  pub no_base : key.base ≡ 0
  pub no_chunk : key.chunk ≡ 0

-- a key that a slot of a row, or of a part of one, can have
abbrev pub IsRowKey : Key → Type 0
IsRowKey key = IsChunkKey key ⊎ IsConventionalKey key

-- keys as tuples of numbers
abbrev pub coded_key : Coded Key
coded_key = code_by (ℕ × (ℕ × (ℕ × (ℕ × ℕ)))) (coded× coded_ℕ (coded× coded_ℕ (coded× coded_ℕ (coded× coded_ℕ coded_ℕ))))
    (λ k. (k.table, (k.tenant, (k.base, (k.chunk, k.row))))) (λ p. record { table = p.0; tenant = p.1.0; base = p.1.1.0; chunk = p.1.1.1.0; row = p.1.1.1.1 }) (λ _. refl)
