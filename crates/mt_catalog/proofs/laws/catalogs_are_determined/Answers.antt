-- By what is found by each key.
use Rattle.std.proofs.Common.{refl}
use Rattle.mt_catalog.specs.Slots.{slot_of}
use Rattle.mt_catalog.proofs.Catalogues.{catalogue_is_found}
use Rattle.mt_catalog.proofs.Keys.{same_by_key}
use Rattle.mt_catalog.proofs.OneCatalogue.{one_found}
use Rattle.mt_catalog.proofs.laws.catalogs_are_determined.Goals as goal

pub returns : goal.returns
returns c slots a b is other read more =
    one_found (slot_of a) a b (catalogue_is_found (slot_of a) a (record { rules = is; same = λ key. refl }))
    (catalogue_is_found (slot_of a) b (record { rules = other; same = same_by_key slots a b read more }))
