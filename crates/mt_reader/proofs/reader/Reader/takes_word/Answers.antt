-- The first lexeme decides.
use Rattle.std.proofs.Common.{sym, ◌∙◌}
use Rattle.mt_reader.proofs.Steps.{stays_at_end, stays, skips}
use Rattle.mt_reader.proofs.reader.Reader.takes_word.Goals as goal

pub returns-in_default : goal.returns-in_default
returns-in_default c = stays_at_end _ c.args.self.now c.in_default.ensures.none

pub returns-then-not-is_word : goal.returns-then-not-is_word
returns-then-not-is_word c = stays _ _ c.args.self.now c.in-Some.ensures.first (sym c.is_word.ensures ∙ c.if-not-is_word.true)

pub returns : goal.returns
returns c = skips _ _ c.args.self.now c.skip.new.self c.in-Some.ensures.first (sym c.is_word.ensures ∙ c.if-not-is_word.false) c.skip.ensures
