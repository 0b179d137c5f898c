-- The ranges of a new page.
use Rattle.std.proofs.Common.{◌≡◌, ℕ, ◌+◌, ◌-◌, ◌*◌, ◌≤◌, Result, Ok, Err, OnOk, List, [], ◌∷◌, ◌++◌, drop, replicate, refl, sym, ap, ◌∙◌, arith, append_assoc}
use Rattle.byteorder.specs.Endian.{little_bytes}
use Rattle.mt_journal.specs.Layout.{Range}
use Rattle.mt_pages.specs.Control.{control_bytes, page_bytes, page_ranges}

-- the page and the control behind the ranges that were
pub both_pushed : {T E : Type 0} (result : Result T E) (old one two : List Range) (table page position : ℕ) (bytes control : List ℕ) → one ≡ old ++ record { position = position; bytes = bytes } ∷ [] → OnOk result (two ≡ one ++ record { position = 0; bytes = control } ∷ [])
    → position ≡ 4096 * page → bytes ≡ page_bytes table → control ≡ control_bytes (page + 1) → OnOk result (two ≡ old ++ page_ranges table page)
both_pushed (Ok x) old one two table page position bytes control first second at is counts =
    second ∙ ap (λ (rs : List Range). rs ++ record { position = 0; bytes = control } ∷ []) first
    ∙ append_assoc old (record { position = position; bytes = bytes } ∷ []) (record { position = 0; bytes = control } ∷ [])
    ∙ (λ i. old ++ record { position = at i; bytes = is i } ∷ record { position = 0; bytes = counts i } ∷ [])
both_pushed (Err e) old one two table page position bytes control first second at is counts = tt
