-- Each number of a SELECT is inside 64 bits, or one is not.
use Rattle.std.proofs.Common.{All, IfSome, inl, inr}
use Rattle.mt_tree.specs.declared.statement.OrderBy.{OrderBy}
use Rattle.mt_tree.specs.declared.statement.OrderBy.TheVariants.{Name, Position}
use Rattle.mt_tree.specs.declared.statement.Select.{Select}
use Rattle.mt_reader.specs.Literals.{limit_64}
use Rattle.mt_reader.proofs.Decided.{OrNot, all_or_not, both_or_not, some_or_not, below_or_not}
use Rattle.mt_terms.specs.Inside.{IsCondInside}
use Rattle.mt_terms.proofs.Decided.{expr_or_not, cond_or_not}
use Rattle.mt_statements.specs.QueryInside.{IsItemInside, IsRefInside, IsByInside, IsKeyInside, IsNumberInside, IsSelectInside}

-- a position in ORDER BY
by_or_not : (by : OrderBy) → OrNot (IsByInside by)
by_or_not (Name name) = inl tt
by_or_not (Position n) = below_or_not n limit_64

-- the parts of a SELECT in one, as a record has them
abbrev SelectParts : Select → Type 0
SelectParts select = All IsItemInside select.items × (All IsRefInside select.refs × (IfSome select.cond IsCondInside × (IfSome select.having IsCondInside × (All IsKeyInside select.order × IfSome select.limit IsNumberInside))))

-- those of a SELECT
pub select_or_not : (select : Select) → OrNot (IsSelectInside select)
select_or_not select = by
    (both_or_not (all_or_not IsItemInside (λ item. expr_or_not item.expr) select.items)
    (both_or_not (all_or_not IsRefInside (λ ref. some_or_not IsCondInside cond_or_not ref.on) select.refs)
    (both_or_not (some_or_not IsCondInside cond_or_not select.cond)
    (both_or_not (some_or_not IsCondInside cond_or_not select.having)
    (both_or_not (all_or_not IsKeyInside (λ key. by_or_not key.by) select.order) (some_or_not IsNumberInside (λ n. below_or_not n limit_64) select.limit)))))) where
      by : OrNot (SelectParts select) → OrNot (IsSelectInside select)
      by (inl parts) = inl (record { items = parts.0; refs = parts.1.0; cond = parts.1.1.0; having = parts.1.1.1.0; order = parts.1.1.1.1.0; limit = parts.1.1.1.1.1 })
      by (inr fails) = inr (λ is. fails (is.items, (is.refs, (is.cond, (is.having, (is.order, is.limit))))))
