use Rattle.std.proofs.Common.{◌≡◌, refl, ◌∙◌, ap, sym, List, map, Ok, Err}
use Rattle.std.specs.Prelude.{Result, IfOk, OnOk}
use Rattle.std.specs.FinMap as finite
use Rattle.std.specs.List.Sorted.{IsStrictlySortedBy}
use Rattle.std.specs.Map.{keys_of}
use Rattle.mt_rowfile.specs.declared.slot.SlotRow.{SlotRow}
use Rattle.mt_physplan.specs.declared.scan.Scan.{Scan}
use Rattle.mt_physplan.specs.declared.key.Key.{Key}
use Rattle.mt_physplan.specs.declared.key.Cell.{Cell}
use Rattle.mt_physplan.specs.Keys.{key_cmp, slot_in}
use Rattle.mt_physplan.specs.Content.{Content, in_scan, picked, scanned}
use Rattle.mt_physplan.proofs.Keys.{keys_exact, keys_total}
use Rattle.mt_physplan.proofs.Maps.{picked_entries}
use Rattle.mt_physplan.proofs.slot_map.SlotMap.scan.Goals as goal

scans : {E : Type 0} (result : Result (List SlotRow) E) (scan : Scan) (es : List (Key × Cell)) (content : Content) → finite.from_entries es ≡ content
    → IfOk result (λ rows. rows ≡ picked (in_scan scan) es) → OnOk result (IsStrictlySortedBy key_cmp (keys_of es)) → IfOk result (λ rows. rows ≡ scanned content scan)
scans (Ok rows) scan es content is picks up = picks ∙ ap (map (λ e. slot_in e.0 e.1)) (picked_entries key_cmp keys_total keys_exact (in_scan scan) es up) ∙ ap (λ held. scanned held scan) is
scans (Err e) scan es content is picks up = tt

pub returns : goal.returns
returns c = scans c.pick.result c.args.scan.now c.self.inside.slots.entries c.args.self.now c.self.view_is c.pick.ensures.rows c.pick.ensures.ordered
