-- The row's table alone is changed.
use Rattle.mt_model.proofs.PartsInserted.{parts-inserted}
use Rattle.mt_model.proofs.parts.inserted_rows_are_parts.Goals as goal

pub returns : goal.returns
returns c = parts-inserted
