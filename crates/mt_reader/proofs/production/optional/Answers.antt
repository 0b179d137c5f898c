-- By the word.
use Rattle.std.proofs.Common.{Some, map, sym, ap}
use Rattle.std.specs.Option.{option_map}
use Rattle.std.proofs.lemmas.Result.{err_from_is_err_and}
use Rattle.mt_lexer.specs.Tokens.{Word, lower}
use Rattle.mt_reader.proofs.Maybes.{maybe_none, maybe_took, maybe_fails}
use Rattle.mt_reader.proofs.production.optional.Goals as goal

pub returns-then-not-takes_word : goal.returns-then-not-takes_word
returns-then-not-takes_word g c =
    maybe_none g.P.Production.is_inside g.P.Production.read (Word (map lower c.args.word.now)) c.args.reader.now c.takes_word.new.self c.if-not-takes_word.ensures.0 c.if-not-takes_word.ensures.1

pub returns-in_err-tree : goal.returns-in_err-tree
returns-in_err-tree g c =
    let p = err_from_is_err_and c.from_residual.result c.from_residual.ensures.1 in
    rw (p.1, p.2) (maybe_fails g.P.Production.is_inside g.P.Production.read (Word (map lower c.args.word.now)) c.args.reader.now c.takes_word.new.self c.in_err-tree.field-0.0 c.if-not-takes_word.ensures c.in_err-tree.ensures.taken)

pub returns-in-Some : goal.returns-in-Some
returns-in-Some g c =
    maybe_took g.P.Production.is_inside g.P.Production.read (Word (map lower c.args.word.now)) c.args.reader.now c.takes_word.new.self c.take.new.reader c.in_ok-tree.field-0 _ (ap (option_map Some) (sym c.in-Some.is)) c.if-not-takes_word.ensures c.in_ok-tree.ensures.taken

pub returns-in-None : goal.returns-in-None
returns-in-None g c =
    maybe_took g.P.Production.is_inside g.P.Production.read (Word (map lower c.args.word.now)) c.args.reader.now c.takes_word.new.self c.take.new.reader c.in_ok-tree.field-0 _ (ap (option_map Some) (sym c.in-None.is)) c.if-not-takes_word.ensures c.in_ok-tree.ensures.taken
