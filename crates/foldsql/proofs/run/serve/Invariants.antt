-- The lines so far were answered, and no fault was counted.
use Rattle.std.proofs.Common.{◌≡◌, ◌+◌, IsTrue, None, length}
use Rattle.mt_machine.specs.Keeps.{Keeps}
use Rattle.mt_model.specs.Service.{Service}
use Rattle.foldsql.specs.Serves.{KeepsAreas}
use Rattle.foldsql.specs.Turns.{MachineCounts}
use Rattle.foldsql.proofs.Standing.{Stands}
use Rattle.foldsql.proofs.run.serve.Given as goal

abbrev pub invariant-turns : goal.invariant-turns
invariant-turns g l =
    let meaning = g.M.Machine.meaning in
    let supply = g.S.Source.supply in
    record {
      sound : g.E.Engine.sound l.engine;
      ready : (service : Service) × Keeps (g.E.Engine.holds l.engine service) (g.E.Engine.may_leave l.engine) (meaning l.machine);
      stands : (first : Service) → Keeps (g.E.Engine.holds l.fn.engine first) (g.E.Engine.may_leave l.fn.engine) (meaning l.fn.machine)
          → Stands g.E.Engine.rules g.E.Engine.laid first (λ service. Keeps (g.E.Engine.holds l.engine service) (g.E.Engine.may_leave l.engine) (meaning l.machine))
          (meaning l.fn.machine) (meaning l.machine) (supply l.fn.source) (supply l.source) l.reader;
      counts : MachineCounts None (meaning l.fn.machine) (meaning l.machine);
      takes : (supply l.source).faults ≡ (supply l.fn.source).faults;
      areas : IsTrue g.E.Engine.leaves_disk → KeepsAreas (meaning l.fn.machine) (meaning l.machine);
      beneath : g.M.Machine.beneath l.fn.machine l.machine;
    }

abbrev pub decreases-turns : goal.decreases-turns
decreases-turns g l = l.reader.budget + length l.reader.held
