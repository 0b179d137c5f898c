use Rattle.std.proofs.Common.{sym, ap, ◌∙◌}
use Rattle.std.specs.Prelude.{option_map, Some}
use Rattle.mt_journal.specs.Layout.{Range}
use Rattle.mt_journal.proofs.Spelled.{range_found, range_stands}
use Rattle.mt_journal.proofs.body.Body.position.Goals as goal

pub position_from-requires : goal.position_from-requires
position_from-requires c = range_stands _ _ _ c.args.i c.deref.result.now c.index-start.result.now c.self.view_is c.deref.ensures.value c.index-start.ensures c.requires c.self.invariant

pub returns : goal.returns
returns c =
    ap (option_map (λ (range : Range). range.position)) (range_found _ _ _ c.args.i c.deref.result.now c.index-start.result.now c.self.view_is c.deref.ensures.value c.index-start.ensures c.requires)
    ∙ ap Some (sym c.position_from.ensures)
