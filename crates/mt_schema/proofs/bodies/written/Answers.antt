-- One key more.
use Rattle.std.proofs.Common.{List, subst, take}
use Rattle.std.specs.Prelude.{filter_map}
use Rattle.mt_catslot.specs.declared.slot.Class.TheVariants as classes
use Rattle.mt_catslot.specs.declared.slot.CatKey.TheVariants as keys
use Rattle.mt_catslot.specs.declared.slot.CatSlot.{CatSlot}
use Rattle.mt_catalog.specs.Slots.{slot_of}
use Rattle.mt_schema.specs.Turns.{AreWritten}
use Rattle.mt_schema.proofs.WrittenSlots.{found_more}
use Rattle.mt_schema.proofs.bodies.written.Goals as goal

pub loop-key-preserved : goal.loop-key-preserved
loop-key-preserved c =
    let so_far : List CatSlot = filter_map (slot_of c.args.catalog.now) (take c.loop-key.key-index c.args.keys.now) in
    subst (λ (slots : List CatSlot). AreWritten c.add_written.new.bodies slots)
    (found_more (slot_of c.args.catalog.now) c.args.keys.now c.loop-key.key-index (keys.Relation classes.BaseTable 0) c.loop-key-test.true)
    (c.in_ok-add_written.ensures so_far c.loop-key.invariant)
