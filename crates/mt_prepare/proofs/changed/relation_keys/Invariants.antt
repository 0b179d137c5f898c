-- The keys of the columns so far.
use Rattle.std.proofs.Common.{◌≡◌, ◌∷◌}
use Rattle.mt_catslot.specs.declared.slot.CatKey.TheVariants as keys
use Rattle.mt_schema.specs.Changed.{column_keys}
use Rattle.mt_prepare.proofs.changed.relation_keys.Given as goal

abbrev pub invariant-loop-position : goal.invariant-loop-position
invariant-loop-position l = l.changed ≡ keys.Relation l.class l.number ∷ column_keys l.class l.number l.position
