-- A seventeenth column is none of a catalogue.
use Rattle.std.proofs.Common.{arith}
use Rattle.mt_catalog.specs.Keyed.{slot_in}
use Rattle.mt_catalog.proofs.Limits.{too_many_columns}
use Rattle.mt_catread.proofs.relations.read_columns.Goals as goal

pub returns-clause-damaged : goal.returns-clause-damaged
returns-clause-damaged c damaged = too_many_columns (slot_in c.args.slots.now.entries) c.args.class c.args.number c.loop-position.columns
    (omega (arith, c.loop-position.invariant.size, c.loop-position-test.false, c.loop-position.auto.position-end)) c.loop-position.invariant.each
