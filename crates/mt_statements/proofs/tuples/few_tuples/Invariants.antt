-- The tuples so far, as many as iterations, and those that are left, are all.
use Rattle.mt_lexer.specs.Tokens.{Sign}
use Rattle.mt_lexer.specs.declared.token.Symbol.TheVariants.{Comma}
use Rattle.mt_reader.specs.Descent.{separated_of}
use Rattle.mt_statements.specs.ChangeDescent.{tuple_of}
use Rattle.mt_statements.specs.ChangeInside.{IsTupleInside}
use Rattle.mt_statements.proofs.Counted.{Counted}
use Rattle.mt_statements.proofs.tuples.few_tuples.Given as goal

abbrev pub invariant-loop : goal.invariant-loop
invariant-loop l = Counted tuple_of (Sign Comma) IsTupleInside (separated_of tuple_of (Sign Comma) l.fn.reader) l.reader l.tuples l.counter
