-- What is held stands for all that was held and taken in this call, and no take failed yet.
use Rattle.std.proofs.Common.{◌≡◌}
use Rattle.mt_script.specs.Steps.{TakesOn, takes_left}
use Rattle.mt_script.proofs.reader.LineReader.next.Given as goal

abbrev pub invariant-loop-took : goal.invariant-loop-took
invariant-loop-took g l = record {
  on : TakesOn l.initial.self l.self (g.S.Source.supply l.initial.source) (g.S.Source.supply l.source);
  no_fault : (g.S.Source.supply l.source).faults ≡ (g.S.Source.supply l.initial.source).faults;
}

abbrev pub decreases-loop-took : goal.decreases-loop-took
decreases-loop-took g l = takes_left l.self
