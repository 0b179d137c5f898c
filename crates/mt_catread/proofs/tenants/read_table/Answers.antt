-- A tenant without a table of a base table is of no catalogue.
use Rattle.std.proofs.Common.{◌∙◌, sym}
use Rattle.mt_catalog.specs.Keyed.{slot_in}
use Rattle.mt_catread.proofs.Tenancies.{no_placement}
use Rattle.mt_catread.proofs.tenants.read_table.Goals as goal

pub returns-in_default-clause-damaged : goal.returns-in_default-clause-damaged
returns-in_default-clause-damaged c damaged =
    no_placement (slot_in c.args.slots.now.entries) c.args.bases.now c.args.tenant c.args.base c.requires.bases c.requires.tenant c.requires.there (sym c.placement_at.ensures ∙ c.in_default.is)
