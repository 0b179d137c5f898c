use Rattle.std.proofs.Common.{◌<◌, ◌^◌, arith}
use Rattle.mt_rowfile.specs.Slots.{HasNumbers}
use Rattle.mt_staging.proofs.parts.key_of.Goals as goal

pub returns-clause-numbers : goal.returns-clause-numbers
returns-clause-numbers c = record { mark = omega arith; tenant = omega arith; base = omega arith; chunk = omega arith; row = omega arith }
