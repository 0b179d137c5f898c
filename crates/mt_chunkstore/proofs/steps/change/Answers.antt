-- A step is a change of a table whose layout is known, which it suits.
use Rattle.std.proofs.Common.{◌≡◌, ◌≤◌, Some, [], ◌∷◌, List, ℕ, length, ap, sym, subst, inl, inr, refl, ◌∙◌, arith}
use Rattle.mt_codec.specs.declared.field.FieldKind.TheVariants.{Int}
use Rattle.mt_rowfile.specs.declared.layout.Head.TheVariants.{Catalogue, Conventional}
use Rattle.mt_rowfile.specs.declared.layout.Layout.{Layout}
use Rattle.mt_rowfile.specs.declared.slot.SlotRow.{SlotRow}
use Rattle.mt_rowfile.specs.Fields.{AreFitting}
use Rattle.mt_rowfile.specs.Layouts.{chunk_layout, slots_per_page}
use Rattle.mt_physplan.specs.declared.change.Change.{Change}
use Rattle.mt_physplan.specs.declared.change.Change.TheVariants.{Put, Mark, Remove, PutCat, RemoveCat}
use Rattle.mt_tables.specs.Rows.{KnownLayouts, catalogue_layout, layout_of}
use Rattle.mt_chunkstore.specs.Changes.{IsSuited}
use Rattle.mt_chunkstore.proofs.steps.change.Goals.{in-Put+in_ok-slot-in-Put, in-Trash, in-Remove, in-PutChunk+in_ok-slot-in-PutChunk, in-PutQuota+in_ok-list_of-in-PutQuota, in-RemoveQuota+in_ok-list_of-in-RemoveQuota}
use Rattle.mt_chunkstore.proofs.steps.change.Goals as goal

abbrev rows : Layout
rows = record { head = Conventional; kinds = Int ∷ [] }

some_rows : 1 ≤ slots_per_page rows
some_rows = let is : slots_per_page rows ≡ 185 = refl in subst (λ n. 1 ≤ n) (sym is) (omega arith)

some_chunks : 1 ≤ slots_per_page (chunk_layout 1)
some_chunks = let is : slots_per_page (chunk_layout 1) ≡ 136 = refl in subst (λ n. 1 ≤ n) (sym is) (omega arith)

row_suits : (known : KnownLayouts) (slot : SlotRow) → known 16 ≡ Some rows → slot.mark ≡ 1 → slot.base ≡ 0 → slot.chunk ≡ 0 → AreFitting (Int ∷ []) slot.values
    → IsSuited known (Put 16 slot)
row_suits known slot is_known mark base chunk values = record {
  layout = rows;
  is_known = is_known;
  suits = (tt, record { mark = inl mark; names = (base, chunk); values = values }, some_rows);
}

chunk_suits : (known : KnownLayouts) (slot : SlotRow) → slot.mark ≡ 1 → AreFitting (Int ∷ []) slot.values → IsSuited known (Put 1 slot)
chunk_suits known slot mark values = record {
  layout = chunk_layout 1;
  is_known = refl;
  suits = (tt, record { mark = mark; names = tt; values = values }, some_chunks);
}

quota_suits : (known : KnownLayouts) (body : List ℕ) → length body ≡ 8 → IsSuited known (PutCat 10 body) × IsSuited known (RemoveCat 10 body)
quota_suits known body size = (record { layout = catalogue_layout 10; is_known = refl; suits = (refl, size) }, record { layout = catalogue_layout 10; is_known = refl; suits = (refl, size) })

pub returns : goal.returns
returns c known is_known =
    let suits : (change : Change) → c.match-step.result ≡ change → IsSuited known change → IsSuited known c.match-step.result = λ change is. subst (IsSuited known) (sym is) in
    elim c.match-step.branch [
      | in-Put+in_ok-slot-in-Put w ↦ (let slot = w.in_ok-slot-in-Put.ensures in suits _ w.result-is (row_suits known _ is_known slot.mark slot.base slot.chunk slot.values))
      | in-Trash w ↦ suits _ w.result-is (record { layout = rows; is_known = is_known; suits = (refl, inr refl) })
      | in-Remove w ↦ suits _ w.result-is (record { layout = rows; is_known = is_known; suits = tt })
      | in-PutChunk+in_ok-slot-in-PutChunk w ↦ (let slot = w.in_ok-slot-in-PutChunk.ensures in suits _ w.result-is (chunk_suits known _ slot.mark slot.values))
      | in-PutQuota+in_ok-list_of-in-PutQuota w ↦ suits _ w.result-is (quota_suits known _ (ap length w.in_ok-list_of-in-PutQuota.ensures)).0
      | in-RemoveQuota+in_ok-list_of-in-RemoveQuota w ↦ suits _ w.result-is (quota_suits known _ (ap length w.in_ok-list_of-in-RemoveQuota.ensures)).1
    ]
