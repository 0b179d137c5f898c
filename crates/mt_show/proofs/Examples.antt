-- How statements are printed, on examples.
use Rattle.std.proofs.Common.{◌≡◌, ℕ, None, List, [], ◌∷◌, pos, refl, ap, ◌∙◌}
use Rattle.std.specs.Prelude.{codes}
use Rattle.mt_lexer.specs.Reserved.{reserved}
use Rattle.mt_lexer.specs.declared.token.Symbol.TheVariants as symbol
use Rattle.mt_lexer.specs.Tokens.{Word, Number, Quoted, Sign, symbol_bytes}
use Rattle.mt_value.specs.declared.truth.Cmp.{Cmp}
use Rattle.mt_value.specs.declared.truth.Cmp.TheVariants.{Gt, Eq}
use Rattle.mt_tree.specs.declared.expression.Literal.TheVariants as literal
use Rattle.mt_tree.specs.declared.expression.Atom.{Atom}
use Rattle.mt_tree.specs.declared.expression.Atom.TheVariants as atom
use Rattle.mt_tree.specs.declared.expression.Cond.{Cond}
use Rattle.mt_tree.specs.declared.expression.Cond.TheVariants as cond
use Rattle.mt_show.specs.Text.{text_of}
use Rattle.mt_show.specs.declared.place.Place.TheVariants.{Whole, Outer, Inner}
use Rattle.mt_show.specs.Shown.{cond_tokens}
use Rattle.mt_show.proofs.PrintLevels.{or_placed, and_placed, not_placed, comparison_placed}

-- a column by its name
abbrev column : List ℕ → Atom
column name = atom.Column (record { qualifier = None; name = name })

-- a comparison of a column with a number
abbrev compared : Cmp → List ℕ → ℕ → Cond
compared op name n = cond.Compare op (column name) (atom.Literal (literal.Int (pos n)))

-- NOT is printed without brackets about a comparison
not_tokens-example : cond_tokens (cond.Not (compared Gt (codes "beds") 100)) ≡ Word (codes "not") ∷ Word (codes "beds") ∷ Sign symbol.Greater ∷ Number 100 ∷ []
not_tokens-example = not_placed Whole (compared Gt (codes "beds") 100) ∙ ap (λ tokens. Word (codes "not") ∷ tokens) (comparison_placed Inner Gt (column (codes "beds")) (atom.Literal (literal.Int (pos 100))))

-- an OR within an AND needs brackets
abbrev either_one : Cond
either_one = cond.Or (compared Eq (codes "a") 1 ∷ compared Eq (codes "b") 2 ∷ [])

or_in_and-example : cond_tokens (cond.And (either_one ∷ compared Eq (codes "c") 3 ∷ []))
    ≡ Sign symbol.Open ∷ Word (codes "a") ∷ Sign symbol.Equal ∷ Number 1 ∷ Word (codes "or") ∷ Word (codes "b") ∷ Sign symbol.Equal ∷ Number 2 ∷ Sign symbol.Close
    ∷ Word (codes "and") ∷ Word (codes "c") ∷ Sign symbol.Equal ∷ Number 3 ∷ []
or_in_and-example =
    and_placed Whole (either_one ∷ compared Eq (codes "c") 3 ∷ [])
    ∙ rw (or_placed Inner (compared Eq (codes "a") 1 ∷ compared Eq (codes "b") 2 ∷ []), comparison_placed Outer Eq (column (codes "a")) (atom.Literal (literal.Int (pos 1))), comparison_placed Outer Eq (column (codes "b")) (atom.Literal (literal.Int (pos 2))), comparison_placed Inner Eq (column (codes "c")) (atom.Literal (literal.Int (pos 3)))) refl

-- the text of a statement
text-example : text_of (Word (codes "purge") ∷ Word (codes "account") ∷ Word (codes "where") ∷ Word (codes "name") ∷ Sign symbol.Equal ∷ Quoted (codes "it's") ∷ []) ≡ codes "PURGE account WHERE name = 'it''s'"
unfolding symbol_bytes reserved
text-example = refl
