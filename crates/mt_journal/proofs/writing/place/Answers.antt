use Rattle.std.proofs.Common.{◌<◌, ◌∙◌, length, arith}
use Rattle.mt_journal.proofs.Bodies.{take_range, range_fits, write_quiet, write_next, write_stops, write_placed}
use Rattle.mt_journal.proofs.writing.place.Goals as goal

pub write-requires : goal.write-requires
write-requires g c =
    let below : c.loop-i.i < length c.args.body.now = omega arith in
    let fits = range_fits c.args.body.now c.loop-i.i c.position.result c.bytes.result.now below c.position.ensures c.bytes.ensures c.requires in
    omega (arith, fits)

pub returns-in_err-write-clause-places : goal.returns-in_err-write-clause-places
returns-in_err-write-clause-places g c =
    let below : c.loop-i.i < length c.args.body.now = omega arith in
    let next = take_range c.args.body.now c.loop-i.i c.position.result c.bytes.result.now below c.position.ensures c.bytes.ensures in
    write_stops _ c.args.body.now c.loop-i.i c.position.result c.bytes.result.now next _ _ _ c.write.ensures.effect c.loop-i.invariant.places

pub loop-i-preserved : goal.loop-i-preserved
loop-i-preserved g c =
    let below : c.loop-i.i < length c.args.body.now = omega arith in
    let next = take_range c.args.body.now c.loop-i.i c.position.result c.bytes.result.now below c.position.ensures c.bytes.ensures in
    record {
      quiet = write_quiet _ c.args.body.now c.loop-i.i c.position.result c.bytes.result.now next _ _ _ c.write.ensures.effect c.loop-i.invariant.quiet;
      faults = c.in_ok-write.ensures.effect.cause.none ∙ c.loop-i.invariant.faults;
      beneath = g.met.M.Machine.beneath_both _ _ _ c.loop-i.invariant.beneath c.write.ensures.kept;
      places = write_next _ c.args.body.now c.loop-i.i c.position.result c.bytes.result.now next _ _ _ c.write.ensures.effect c.loop-i.invariant.places;
      placed = write_placed _ c.args.body.now c.loop-i.i c.position.result c.bytes.result.now next (g.M.Machine.meaning c.args.m.now) _ _ c.write.ensures.effect c.in_ok-write.ensures.effect.inside c.loop-i.invariant.placed;
    }
