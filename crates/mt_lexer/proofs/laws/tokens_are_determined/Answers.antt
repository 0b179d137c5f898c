-- The three laws are the lemmas on tilings.
use Rattle.mt_lexer.proofs.Determined.{says_unique, refused_says_nothing, refused_place_unique}
use Rattle.mt_lexer.proofs.laws.tokens_are_determined.Goals as goal

pub returns-clause-tokens : goal.returns-clause-tokens
returns-clause-tokens c = says_unique

pub returns-clause-refused : goal.returns-clause-refused
returns-clause-refused c = refused_says_nothing

pub returns-clause-place : goal.returns-clause-place
returns-clause-place c = refused_place_unique
