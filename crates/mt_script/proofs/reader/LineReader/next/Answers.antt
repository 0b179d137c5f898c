use Rattle.std.proofs.Common.{refl, ◌∙◌}
use Rattle.std.proofs.lemmas.Result.{err_from_is_err_and}
use Rattle.mt_script.proofs.Steps.{Nexts-given, Nexts-stops, TakesOn-start, TakesOn-step}
use Rattle.mt_script.proofs.reader.LineReader.next.Goals as goal

pub loop-took-init : goal.loop-took-init
loop-took-init g c = record { on = TakesOn-start _ _; no_fault = refl }

pub returns-in-Some : goal.returns-in-Some
returns-in-Some g c = Nexts-given _ _ _ _ _ _ c.loop-took.invariant.on c.loop-took.invariant.no_fault c.in-Some.ensures

pub loop-took-preserved : goal.loop-took-preserved
loop-took-preserved g c = record {
  on = TakesOn-step _ _ _ _ _ _ _ c.loop-took.invariant.on c.in-None.ensures c.fill.ensures.takes;
  no_fault = c.in_ok-fill-in-None.ensures.outcome.0 ∙ c.loop-took.invariant.no_fault;
}

pub returns-in_err-fill-in-None : goal.returns-in_err-fill-in-None
returns-in_err-fill-in-None g c =
    let p = err_from_is_err_and c.from_residual.result c.from_residual.ensures.1 in
    rw (p.1, p.2)
    (Nexts-stops _ _ _ _ _ _ _ _ c.loop-took.invariant.on c.loop-took.invariant.no_fault c.in-None.ensures c.fill.ensures.takes c.in_err-fill-in-None.ensures.outcome)
