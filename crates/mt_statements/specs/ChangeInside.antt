-- The numbers of a statement that changes rows, all of which are to be inside 64 bits.
use Rattle.std.specs.Prelude.{List, All, IfSome}
use Rattle.mt_tree.specs.declared.expression.Literal.{Literal}
use Rattle.mt_tree.specs.declared.statement.Stmt.{Stmt}
use Rattle.mt_tree.specs.declared.statement.Stmt.TheVariants as stmt
use Rattle.mt_tree.specs.declared.statement.SetItem.{SetItem}
use Rattle.mt_tree.specs.declared.statement.Filter.{Filter}
use Rattle.mt_reader.specs.Literals.{IsLiteralInside}
use Rattle.mt_terms.specs.Inside.{IsExprInside, IsCondInside}

-- those of a tuple
abbrev pub IsTupleInside : List Literal → Type 0
IsTupleInside tuple = All IsLiteralInside tuple

-- those of an assignment
abbrev pub IsSetInside : SetItem → Type 0
IsSetInside item = IsExprInside item.expr

-- those of a filter
abbrev pub IsFilterInside : Filter → Type 0
IsFilterInside filter = IfSome filter.cond IsCondInside

-- those of a statement that is no SELECT
abbrev pub IsChangeInside : Stmt → Type 0
IsChangeInside (stmt.Select select) = Unit {0}
IsChangeInside (stmt.Insert insert) = All IsTupleInside insert.tuples
IsChangeInside (stmt.Update update) = All IsSetInside update.sets × IfSome update.cond IsCondInside
IsChangeInside (stmt.Delete filter) = IsFilterInside filter
IsChangeInside (stmt.Restore filter) = IsFilterInside filter
IsChangeInside (stmt.Purge filter) = IsFilterInside filter
