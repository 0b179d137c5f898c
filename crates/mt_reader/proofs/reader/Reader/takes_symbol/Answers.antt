-- The first lexeme decides.
use Rattle.std.proofs.Common.{sym, ◌∙◌}
use Rattle.mt_reader.proofs.Steps.{stays_at_end, stays, skips}
use Rattle.mt_reader.proofs.reader.Reader.takes_symbol.Goals as goal

pub returns-in_default : goal.returns-in_default
returns-in_default c = stays_at_end _ c.args.self.now c.in_default.ensures.none

pub returns-then-not-is_symbol : goal.returns-then-not-is_symbol
returns-then-not-is_symbol c = stays _ _ c.args.self.now c.in-Some.ensures.first (sym c.is_symbol.ensures ∙ c.if-not-is_symbol.true)

pub returns : goal.returns
returns c = skips _ _ c.args.self.now c.skip.new.self c.in-Some.ensures.first (sym c.is_symbol.ensures ∙ c.if-not-is_symbol.false) c.skip.ensures
