-- What is prepared of a step that is not refused, by the laws of the schema steps.
use Rattle.std.proofs.Common.{◌≡◌, ℕ, List, None, sym, subst}
use Rattle.std.specs.Prelude.{filter_map}
use Rattle.mt_tree.specs.declared.command.AdminCmd.{AdminCmd}
use Rattle.mt_catslot.specs.declared.slot.CatKey.{CatKey}
use Rattle.mt_catalog.specs.Rules.{IsCatalogue}
use Rattle.mt_catalog.specs.Slots.{slot_of}
use Rattle.mt_catalog.specs.State.{State}
use Rattle.mt_schema.specs.Changed.{AreTenants, changed_keys}
use Rattle.mt_prepare.specs.Prepared.{IsPrepared}
use Rattle.mt_schema.specs.Refusals.{step_refusal}
use Rattle.mt_schema.specs.Steps.{IsWellFormed, stepped}
use Rattle.mt_schema.specs.Turns.{AreWritten, TurnsInto}
use Rattle.mt_schema.proofs.Changes.{step_changes}
use Rattle.mt_schema.proofs.KeepsRules.{step_keeps}
use Rattle.mt_schema.proofs.Turning.{changed_turn}

module _ (state : State) (kept : ℕ) (step : AdminCmd) (rules : IsCatalogue state) (formed : IsWellFormed step) (accepted : step_refusal state (λ tenant. kept) step ≡ None) (next : State) (next_is : next ≡ stepped state step) where
  pub next_rules : IsCatalogue next
  next_rules = subst IsCatalogue (sym next_is) (step_keeps state (λ tenant. kept) step rules formed accepted)

  module _ (changed : List CatKey) (tenants : List ℕ) (are : AreTenants tenants state) (changed_is : changed ≡ changed_keys state tenants step) where
    turns : TurnsInto (filter_map (slot_of next) changed) (filter_map (slot_of state) changed) state next
    turns =
        subst (λ (after : State). TurnsInto (filter_map (slot_of after) changed) (filter_map (slot_of state) changed) state after) (sym next_is)
        (subst (λ (some : List CatKey). TurnsInto (filter_map (slot_of (stepped state step)) some) (filter_map (slot_of state) some) state (stepped state step)) (sym changed_is)
        (changed_turn (changed_keys state tenants step) state (stepped state step) (step_changes state (λ tenant. kept) tenants step rules formed accepted are)))

    pub is_prepared : (put removed : List (ℕ × List ℕ)) → AreWritten put (filter_map (slot_of next) changed) → AreWritten removed (filter_map (slot_of state) changed)
        → IsPrepared state kept step (record { next = next; rows = record { put = put; removed = removed } })
    is_prepared put removed put_are removed_are = record {
      accepted = accepted;
      next_is = next_is;
      rules = next_rules;
      turning = record { put_slots = filter_map (slot_of next) changed; removed_slots = filter_map (slot_of state) changed; put_are = put_are; removed_are = removed_are; turns = turns };
    }
