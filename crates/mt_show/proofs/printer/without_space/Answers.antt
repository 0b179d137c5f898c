-- A text from which no space is taken begins with none.
use Rattle.std.proofs.Common.{None, lit<}
use Rattle.std.proofs.lemmas.Str.Pattern.{strip_prefix_char}
use Rattle.mt_show.proofs.printer.without_space.Goals as goal

pub returns-in-None-clause-space : goal.returns-in-None-clause-space
returns-in-None-clause-space c = λ rest e. absurd (strip_prefix_char 32 c.args.text.now None c.in-None.ensures.cases (lit< tt) rest e)
