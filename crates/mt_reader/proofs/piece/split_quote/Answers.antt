-- By the first quote.
use Rattle.std.proofs.Common.{Option, Some, None, IfNone}
use Rattle.std.proofs.lemmas.List.{take_rest}
use Rattle.mt_reader.proofs.Quoting.{quote_found, quote_not_found}
use Rattle.mt_reader.proofs.piece.split_quote.Goals as goal

-- what holds says so of any answer
none_of : {X P : Type 0} (answer : Option X) → P → IfNone answer P
none_of None p = p
none_of (Some x) p = tt

pub returns-in_err-at-clause-none : goal.returns-in_err-at-clause-none
returns-in_err-at-clause-none c = none_of c.from_residual.result (quote_not_found c.args.bytes.now c.in_err-at.ensures)

pub returns-clause-kept : goal.returns-clause-kept
returns-clause-kept c = rw (take_rest, c.min.ensures) (quote_found c.args.bytes.now c.in_ok-at.at c.in_ok-at.ensures)
