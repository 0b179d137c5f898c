-- What is left behind a semicolon decides.
use Rattle.std.proofs.Common.{sym, ◌∙◌, ap, cond, Some, None}
use Rattle.mt_reader.proofs.Steps.{end_of-skip}
use Rattle.mt_reader.proofs.reader.Reader.end.Goals as goal

pub returns-then-is_at_end : goal.returns-then-is_at_end
returns-then-is_at_end c =
    end_of-skip c.takes_symbol.result c.args.self.now c.takes_symbol.new.self c.takes_symbol.ensures
    ∙ ap (λ b. cond b (Some tt) None) (sym c.is_at_end.ensures ∙ c.if-is_at_end.true)

pub returns-else-is_at_end : goal.returns-else-is_at_end
returns-else-is_at_end c =
    end_of-skip c.takes_symbol.result c.args.self.now c.takes_symbol.new.self c.takes_symbol.ensures
    ∙ ap (λ b. cond b (Some tt) None) (sym c.is_at_end.ensures ∙ c.if-is_at_end.false)
