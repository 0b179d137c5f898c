-- Worked examples: how wide the slots of each shape are, and how many stand in a page.
use Rattle.std.proofs.Common.{◌≡◌, ℕ, [], ◌∷◌, refl}
use Rattle.mt_codec.specs.declared.field.FieldKind.TheVariants.{Int, Text}
use Rattle.mt_rowfile.specs.declared.layout.Head.TheVariants.{Catalogue, Conventional}
use Rattle.mt_rowfile.specs.declared.layout.Layout.{Layout}
use Rattle.mt_rowfile.specs.Layouts.{chunk_layout, slot_width, slots_per_page}

-- the width of a slot, and how many stand in a page
record IsShaped (layout : Layout) (width count : ℕ) : Type 0 where
  wide : slot_width layout ≡ width
  many : slots_per_page layout ≡ count

-- a conventional table of one integer, and of an integer and a text of 20 bytes
of_integer : IsShaped (record { head = Conventional; kinds = Int ∷ [] }) 22 185
of_integer = record { wide = refl; many = refl }

of_account : IsShaped (record { head = Conventional; kinds = Int ∷ Text 20 ∷ [] }) 45 90
of_account = record { wide = refl; many = refl }

-- the chunk tables
of_chunk1 : IsShaped (chunk_layout 1) 30 136
of_chunk1 = record { wide = refl; many = refl }

of_chunk2 : IsShaped (chunk_layout 2) 144 28
of_chunk2 = record { wide = refl; many = refl }

of_chunk3 : IsShaped (chunk_layout 3) 153 26
of_chunk3 = record { wide = refl; many = refl }

of_chunk4 : IsShaped (chunk_layout 4) 57 71
of_chunk4 = record { wide = refl; many = refl }

of_chunk5 : IsShaped (chunk_layout 5) 285 14
of_chunk5 = record { wide = refl; many = refl }

of_chunk6 : IsShaped (chunk_layout 6) 549 7
of_chunk6 = record { wide = refl; many = refl }

-- the tables of the catalogue
abbrev catalogue : ℕ → Layout
catalogue table = record { head = Catalogue table; kinds = [] }

of_table8 : IsShaped (catalogue 8) 41 99
of_table8 = record { wide = refl; many = refl }

of_table9 : IsShaped (catalogue 9) 45 90
of_table9 = record { wide = refl; many = refl }

of_table10 : IsShaped (catalogue 10) 9 454
of_table10 = record { wide = refl; many = refl }

of_table11 : IsShaped (catalogue 11) 35 116
of_table11 = record { wide = refl; many = refl }

of_table12 : IsShaped (catalogue 12) 17 240
of_table12 = record { wide = refl; many = refl }

of_table13 : IsShaped (catalogue 13) 17 240
of_table13 = record { wide = refl; many = refl }
