-- It takes a token at least.
use Rattle.mt_reader.proofs.Fronts.{took_shrinks}
use Rattle.mt_terms.specs.Descent.{atom_of}
use Rattle.mt_terms.specs.Inside.{IsAtomInside}
use Rattle.mt_terms.proofs.Atoms.{atom_shrinks}
use Rattle.mt_terms.proofs.form.AtomFormProduction.take.Goals as goal

pub returns-clause-shrinks : goal.returns-clause-shrinks
returns-clause-shrinks c = took_shrinks IsAtomInside atom_of atom_shrinks c.atom.result c.args.reader.now c.atom.new.reader c.atom.ensures
