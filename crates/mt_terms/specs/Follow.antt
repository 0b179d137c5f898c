-- The words and symbols with which a form goes on, so that no shorter front of the tokens is read.
use Rattle.std.specs.Prelude.{List, [], ◌∷◌, codes}
use Rattle.mt_lexer.specs.Tokens.{Lexeme, Word, Sign}
use Rattle.mt_lexer.specs.declared.token.Symbol.TheVariants.{Dot, Star, Plus, Minus}

-- behind a name a dot goes on with a column, and so with an atom
abbrev pub atom_goes_on : List Lexeme
atom_goes_on = Sign Dot ∷ []

-- and behind an atom a star or a sign with an expression
abbrev pub expr_goes_on : List Lexeme
expr_goes_on = Sign Dot ∷ Sign Star ∷ Sign Plus ∷ Sign Minus ∷ []

-- and behind an atom AND or OR with a condition
abbrev pub cond_goes_on : List Lexeme
cond_goes_on = Sign Dot ∷ Word (codes "and") ∷ Word (codes "or") ∷ []
