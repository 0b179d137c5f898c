-- The entries of the tree are in order, and so are those of the map.
use Rattle.std.proofs.Common.{◌≡◌, ◌∙◌, ap, List, map, Ok, Err}
use Rattle.std.specs.Prelude.{Result, IfOk, OnOk}
use Rattle.std.specs.FinMap as finite
use Rattle.std.specs.List.Sorted.{IsStrictlySortedBy}
use Rattle.std.specs.Map.{keys_of}
use Rattle.mt_rowfile.specs.declared.slot.SlotRow.{SlotRow}
use Rattle.mt_physplan.specs.declared.key.Key.{Key}
use Rattle.mt_physplan.specs.declared.key.Cell.{Cell}
use Rattle.mt_physplan.specs.Content.{Content, slots_in_order}
use Rattle.mt_physplan.specs.Keys.{key_cmp, slot_in}
use Rattle.mt_physplan.proofs.Keys.{keys_exact, keys_total}
use Rattle.mt_physplan.proofs.Maps.{own_entries}
use Rattle.mt_physplan.proofs.slot_map.SlotMap.into_slots.Goals as goal

unpacks : {E : Type 0} (result : Result (List SlotRow) E) (es : List (Key × Cell)) (content : Content) → finite.from_entries es ≡ content
    → IfOk result (λ rows. rows ≡ map (λ e. slot_in e.0 e.1) es) → OnOk result (IsStrictlySortedBy key_cmp (keys_of es)) → IfOk result (λ rows. rows ≡ slots_in_order content)
unpacks (Ok rows) es content is gives up = gives ∙ ap (map (λ e. slot_in e.0 e.1)) (own_entries key_cmp keys_total keys_exact es up) ∙ ap slots_in_order is
unpacks (Err e) es content is gives up = tt

pub returns : goal.returns
returns c = unpacks c.unpack.result c.self.inside.slots.entries c.args.self c.self.view_is c.unpack.ensures.rows c.unpack.ensures.ordered
