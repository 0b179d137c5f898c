-- The slots of a page.
use Rattle.std.specs.Prelude.{ℕ, zero, suc, Bool, ◌==◌, List, [], ◌∷◌, length, take, drop, filter, slice_index}
use Rattle.mt_rowfile.specs.declared.layout.Layout.{Layout}
use Rattle.mt_rowfile.specs.Layouts.{slot_width, slots_per_page}

-- so many slots of this width, one after another
abbrev pub slots_in : ℕ → ℕ → List ℕ → List (List ℕ)
slots_in width zero bytes = []
slots_in width (suc count) bytes = take width bytes ∷ slots_in width count (drop width bytes)

-- the slots of a page, behind its head of 8 bytes
abbrev pub slots_of_page : Layout → List ℕ → List (List ℕ)
slots_of_page layout page = slots_in (slot_width layout) (slots_per_page layout) (drop 8 page)

-- whether a slot is free
abbrev pub is_free : List ℕ → Bool
is_free slot = slice_index slot 0 == 0

-- how many slots of a page are free
abbrev pub free_slots : Layout → List ℕ → ℕ
free_slots layout page = length (filter is_free (slots_of_page layout page))
