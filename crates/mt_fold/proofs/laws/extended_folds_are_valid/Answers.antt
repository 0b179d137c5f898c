-- What is added takes fields of chunks that no column of the fold lies in.
use Rattle.mt_fold.proofs.Extensions.{extension_valid}
use Rattle.mt_fold.proofs.laws.extended_folds_are_valid.Goals as goal

pub returns : goal.returns
returns c = λ fold columns added base_len shapes valid fill few. extension_valid fold columns added base_len shapes valid fill few
