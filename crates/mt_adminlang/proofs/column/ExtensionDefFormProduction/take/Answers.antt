-- It takes a token at least.
use Rattle.mt_reader.proofs.Fronts.{took_shrinks}
use Rattle.mt_adminlang.specs.Descent.{extension_def_of}
use Rattle.mt_adminlang.specs.Inside.{IsDefInside}
use Rattle.mt_adminlang.proofs.Definitions.{extension_def_shrinks}
use Rattle.mt_adminlang.proofs.column.ExtensionDefFormProduction.take.Goals as goal

pub returns-clause-shrinks : goal.returns-clause-shrinks
returns-clause-shrinks c = took_shrinks IsDefInside extension_def_of extension_def_shrinks c.extension_definition.result c.args.reader.now c.extension_definition.new.reader c.extension_definition.ensures
