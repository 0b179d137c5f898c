-- An extension that is there has few columns.
use Rattle.std.proofs.Common.{sym}
use Rattle.mt_prepare.proofs.Grown.{few_named}
use Rattle.mt_prepare.proofs.changed.extended_keys.Goals as goal

pub added_keys-requires-clause-few : goal.added_keys-requires-clause-few
added_keys-requires-clause-few c = few_named c.args.catalog.now c.args.name.now c.in-Some.extension.now c.requires.rules (sym c.in-Some.ensures)
