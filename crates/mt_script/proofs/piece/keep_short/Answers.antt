use Rattle.std.proofs.Common.{arith}
use Rattle.mt_script.proofs.Parts.{kept_moved, kept_in_place}
use Rattle.mt_script.proofs.piece.keep_short.Goals as goal

pub returns-then-from-gt0-clause-bytes : goal.returns-then-from-gt0-clause-bytes
returns-then-from-gt0-clause-bytes c =
    rw c.copy_within.ensures.after (kept_moved 65537 c.args.buffer.now c.args.from c.args.upto c.min-kept.result c.requires.ordered c.requires.within c.min-kept.ensures)

pub returns-else-from-gt0-clause-bytes : goal.returns-else-from-gt0-clause-bytes
returns-else-from-gt0-clause-bytes c =
    kept_in_place 65537 c.args.buffer.now c.args.from c.args.upto c.min-kept.result (omega arith) c.min-kept.ensures
