-- A put of a slot that fits the table of numbers suits a store that knows the table.
use Rattle.std.proofs.Common.{◌≡◌, ◌≤◌, Some, sym, ap, subst, ◌∙◌, refl, arith}
use Rattle.mt_rowfile.specs.Layouts.{slots_per_page}
use Rattle.mt_physplan.specs.declared.change.Change.{Change}
use Rattle.mt_physplan.specs.declared.change.Change.TheVariants.{Put, Mark, Remove, PutCat, RemoveCat}
use Rattle.mt_tables.specs.Rows.{KnownLayouts, layout_of}
use Rattle.mt_chunkstore.specs.Changes.{IsSuited}
use Rattle.mt_store_bench.specs.Numbers.{IsNumberPut, numbers_layout}

some_slots : 1 ≤ slots_per_page numbers_layout
some_slots = let is : slots_per_page numbers_layout ≡ 185 = refl in subst (λ n. 1 ≤ n) (sym is) (omega arith)

pub number_put_suits : (known : KnownLayouts) (change : Change) → known 16 ≡ Some numbers_layout → IsNumberPut change → IsSuited known change
number_put_suits known (Put table slot) is_known put = record {
  layout = numbers_layout;
  is_known = ap (layout_of known) put.0 ∙ is_known;
  suits = (tt, put.1, some_slots);
}
number_put_suits known (Mark table tenant row mark) is_known put = absurd put
number_put_suits known (Remove table tenant base chunk row) is_known put = absurd put
number_put_suits known (PutCat table body) is_known put = absurd put
number_put_suits known (RemoveCat table body) is_known put = absurd put
