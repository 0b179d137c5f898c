use Rattle.mt_rowfile.proofs.Writing.{fitting_same}
use Rattle.mt_rowfile.proofs.slot.write_slot.Goals as goal

pub write_fields-requires-clause-same : goal.write_fields-requires-clause-same
write_fields-requires-clause-same c =
    rw (c.as_slice-2.ensures, c.as_slice.ensures) (fitting_same _ _ c.requires.fits.values)
