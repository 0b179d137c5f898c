-- The lines and the last line make the whole run.
use Rattle.foldsql.proofs.Areas.{areas_join}
use Rattle.foldsql.proofs.Served.{served}
use Rattle.foldsql.proofs.run.run.Goals as goal

pub returns-clause-serves : goal.returns-clause-serves
returns-clause-serves g c first keeps =
    served g.M.Machine.meaning _ _ first _ _ _ _ _ _ _ (c.serve.ensures.answers first keeps) c.serve.ensures.takes c.finish.ensures.silent c.finish.ensures.finishes c.finish.ensures.areas.told

pub returns-clause-areas : goal.returns-clause-areas
returns-clause-areas g c alone = areas_join _ _ _ (c.serve.ensures.areas alone) c.finish.ensures.areas
