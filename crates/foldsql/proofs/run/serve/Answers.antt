-- Each turn carries the run on, and the last one ends it.
use Rattle.std.proofs.Common.{◌∙◌, None, refl, sym, subst}
use Rattle.mt_machine.specs.Keeps.{Keeps}
use Rattle.mt_model.specs.Service.{Service}
use Rattle.mt_script.specs.Reader.{Reading}
use Rattle.foldsql.specs.declared.status.Status.TheVariants.{NoMemory}
use Rattle.foldsql.proofs.Areas.{areas_itself, areas_join}
use Rattle.foldsql.proofs.Counting.{machine_join, machine_stands}
use Rattle.foldsql.proofs.Joining.{moments_first, replied_first}
use Rattle.foldsql.proofs.Standing.{Stands, not_begun, stands_first, stands_on, stands_last}
use Rattle.foldsql.proofs.Turning.{keeps_laid, stops_here}
use Rattle.foldsql.proofs.run.serve.Goals as goal

pub returns-in_default-clause-answers : goal.returns-in_default-clause-answers
returns-in_default-clause-answers g c first keeps =
    let engine = c.args.engine.now in
    let machine = g.M.Machine.meaning c.args.machine.now in
    not_begun g.E.Engine.rules g.E.Engine.laid first machine (g.S.Source.supply c.args.source.now)
    (stops_here g.E.Engine.rules g.E.Engine.laid first NoMemory machine (refl, refl)
    (g.met.M.Machine.moments_told c.args.machine.now) (λ t image out. g.met.M.Machine.only_now c.args.machine.now image out t)
    (keeps_laid g.E.Engine.laid (g.E.Engine.holds engine) (g.E.Engine.may_leave engine) (g.met.E.Engine.laid_beside engine) first machine keeps))

pub turns-init : goal.turns-init
turns-init g c =
    let engine = c.args.engine.now in
    let machine = g.M.Machine.meaning c.args.machine.now in
    let source = g.S.Source.supply c.args.source.now in
    let kept = λ (service : Service). Keeps (g.E.Engine.holds engine service) (g.E.Engine.may_leave engine) machine in
    record {
      sound = c.requires.sound;
      ready = c.requires.ready;
      stands = λ first keeps. subst (λ (reading : Reading). Stands g.E.Engine.rules g.E.Engine.laid first kept machine machine source source reading) (sym c.in-Ok.ensures)
          (stands_first g.E.Engine.rules g.E.Engine.laid first kept machine source keeps (replied_first g.E.Engine.rules g.E.Engine.laid first machine
          (moments_first g.E.Engine.rules g.E.Engine.laid first machine (g.met.M.Machine.moments_told c.args.machine.now) (λ t image out. g.met.M.Machine.only_now c.args.machine.now image out t)
          (keeps_laid g.E.Engine.laid (g.E.Engine.holds engine) (g.E.Engine.may_leave engine) (g.met.E.Engine.laid_beside engine) first machine keeps))));
      counts = machine_stands None machine (λ e. cc) (λ e. cc);
      takes = refl;
      areas = λ _. areas_itself machine (g.met.M.Machine.moments_told c.args.machine.now) (λ t image out. g.met.M.Machine.only_now c.args.machine.now image out t);
      beneath = g.met.M.Machine.beneath_itself c.args.machine.now;
    }

pub returns-in-Some-clause-answers : goal.returns-in-Some-clause-answers
returns-in-Some-clause-answers g c first keeps =
    stands_last _ _ g.met.E.Engine.prints first _ _ _ _ _ _ _ _ _ _ (c.turns.invariant.stands first keeps) c.in-Some.ensures.counts.told c.in-Some.status c.in-Some.ensures.turns

pub returns-in-Some-clause-areas : goal.returns-in-Some-clause-areas
returns-in-Some-clause-areas g c alone = areas_join _ _ _ (c.turns.invariant.areas alone) (c.in-Some.ensures.areas alone)

pub turns-preserved : goal.turns-preserved
turns-preserved g c = record {
  sound = c.in_default-turn.ensures.sound;
  ready = c.in_default-turn.ensures.ready;
  stands = λ first keeps. stands_on _ _ g.met.E.Engine.prints first _ _ _ _ _ _ _ _ _ _ (c.turns.invariant.stands first keeps) c.in_default-turn.ensures.counts.told c.in_default-turn.ensures.turns;
  counts = machine_join None _ _ _ c.turns.invariant.counts c.in_default-turn.ensures.counts;
  takes = c.in_default-turn.ensures.takes.stood (λ e. cc) ∙ c.turns.invariant.takes;
  areas = λ alone. areas_join _ _ _ (c.turns.invariant.areas alone) (c.in_default-turn.ensures.areas alone);
  beneath = g.met.M.Machine.beneath_both _ _ _ c.turns.invariant.beneath c.turn.ensures.beneath;
}
