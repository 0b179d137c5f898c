-- A SELECT, on an example.
use Rattle.std.proofs.Common.{false, None, Some, [], ◌∷◌, refl, inr, arith}
use Rattle.std.specs.Prelude.{codes}
use Rattle.mt_lexer.specs.Reserved.{reserved}
use Rattle.mt_lexer.specs.declared.token.Symbol.TheVariants as symbol
use Rattle.mt_lexer.specs.Tokens.{Word, Number, Sign}
use Rattle.mt_statements.specs.Query.{SpellsSelect}

-- SELECT * FROM t AS u LIMIT 3
select-example : SpellsSelect
    (Word (codes "select") ∷ Sign symbol.Star ∷ Word (codes "from") ∷ Word (codes "t") ∷ Word (codes "as") ∷ Word (codes "u") ∷ Word (codes "limit") ∷ Number 3 ∷ [])
    (record { distinct = false; items = []; refs = record { table = codes "t"; alias = Some (codes "u"); on = None } ∷ []; cond = None; group = []; having = None; order = []; limit = Some 3 })
unfolding reserved
select-example = record {
  distinct = [];
  items = Sign symbol.Star ∷ [];
  refs = Word (codes "t") ∷ Word (codes "as") ∷ Word (codes "u") ∷ [];
  condition = [];
  group = [];
  having = [];
  order = [];
  limit = Word (codes "limit") ∷ Number 3 ∷ [];
  spelling = refl;
  is_distinct = refl;
  are_items = refl;
  are_refs = (
    refl,
    omega arith,
    record {
      front = Word (codes "t") ∷ Word (codes "as") ∷ Word (codes "u") ∷ [];
      back = [];
      split = refl;
      is_left = record {
        front = Word (codes "t") ∷ [];
        back = Word (codes "as") ∷ Word (codes "u") ∷ [];
        split = refl;
        is_left = (refl, refl);
        is_right = inr (record { inner = Word (codes "u") ∷ []; prefix = refl; body = (refl, refl) });
      };
      is_right = refl;
    },
  );
  is_condition = refl;
  is_group = refl;
  is_having = refl;
  is_order = refl;
  is_limit = record { inner = Number 3 ∷ []; prefix = refl; body = refl };
}
