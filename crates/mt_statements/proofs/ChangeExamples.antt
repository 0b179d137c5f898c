-- Statements that change rows, on examples.
use Rattle.std.proofs.Common.{None, [], ◌∷◌, pos, refl, inl, arith}
use Rattle.std.specs.Prelude.{codes}
use Rattle.mt_lexer.specs.Reserved.{reserved}
use Rattle.mt_lexer.specs.declared.token.Symbol.TheVariants as symbol
use Rattle.mt_lexer.specs.Tokens.{Word, Number, Sign}
use Rattle.mt_tree.specs.declared.expression.Literal.TheVariants as literal
use Rattle.mt_tree.specs.declared.statement.Stmt.TheVariants as stmt
use Rattle.mt_statements.specs.Change.{SpellsChange}

-- PURGE t
purge-example : SpellsChange (Word (codes "purge") ∷ Word (codes "t") ∷ []) (stmt.Purge (record { table = codes "t"; cond = None }))
unfolding reserved
purge-example = record {
  inner = Word (codes "t") ∷ [];
  prefix = refl;
  body = record { front = Word (codes "t") ∷ []; back = []; split = refl; is_left = (refl, refl); is_right = refl };
}

-- INSERT INTO t (a) VALUES (7), whose parts have names of their own
insert-example : SpellsChange
    (Word (codes "insert") ∷ Word (codes "into") ∷ Word (codes "t") ∷ Sign symbol.Open ∷ Word (codes "a") ∷ Sign symbol.Close ∷ Word (codes "values") ∷ Sign symbol.Open ∷ Number 7 ∷ Sign symbol.Close ∷ [])
    (stmt.Insert (record { table = codes "t"; columns = codes "a" ∷ []; tuples = (literal.Int (pos 7) ∷ []) ∷ [] }))
unfolding reserved
insert-example = record {
  table = Word (codes "t") ∷ [];
  columns = Sign symbol.Open ∷ Word (codes "a") ∷ Sign symbol.Close ∷ [];
  tuples = Sign symbol.Open ∷ Number 7 ∷ Sign symbol.Close ∷ [];
  spelling = refl;
  is_table = (refl, refl);
  are_columns = record { inner = Word (codes "a") ∷ []; brackets = refl; body = (refl, refl) };
  are_tuples = record { inner = Number 7 ∷ []; brackets = refl; body = (7, inl (refl, refl)) };
  few = omega arith;
}
