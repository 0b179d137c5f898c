-- A seventeenth base table is none of a catalogue.
use Rattle.std.proofs.Common.{arith}
use Rattle.mt_catalog.specs.Keyed.{slot_in}
use Rattle.mt_catalog.proofs.Limits.{too_many_bases}
use Rattle.mt_catread.proofs.relations.read_bases.Goals as goal

pub returns-clause-damaged : goal.returns-clause-damaged
returns-clause-damaged c damaged = too_many_bases (slot_in c.args.slots.now.entries) c.loop-number.bases
    (omega (arith, c.loop-number.invariant.size, c.loop-number-test.false, c.loop-number.auto.number-end)) c.loop-number.invariant.each
