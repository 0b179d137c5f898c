-- Each number of a statement is inside 64 bits, or one is not.
use Rattle.mt_tree.specs.declared.statement.Filter.{Filter}
use Rattle.mt_tree.specs.declared.statement.Stmt.{Stmt}
use Rattle.mt_tree.specs.declared.statement.Stmt.TheVariants as stmt
use Rattle.mt_reader.specs.Literals.{IsLiteralInside}
use Rattle.mt_reader.proofs.Decided.{OrNot, all_or_not, both_or_not, some_or_not, literal_or_not}
use Rattle.mt_terms.specs.Inside.{IsCondInside}
use Rattle.mt_terms.proofs.Decided.{expr_or_not, cond_or_not}
use Rattle.mt_statements.proofs.Decided.{select_or_not}
use Rattle.mt_statements.specs.ChangeInside.{IsTupleInside, IsSetInside, IsFilterInside}
use Rattle.mt_grammar.specs.Statement.{IsStmtInside}

-- those of a filter
filter_or_not : (filter : Filter) → OrNot (IsFilterInside filter)
filter_or_not filter = some_or_not IsCondInside cond_or_not filter.cond

-- those of a statement
pub stmt_or_not : (statement : Stmt) → OrNot (IsStmtInside statement)
unfolding IsStmtInside
stmt_or_not (stmt.Select select) = select_or_not select
stmt_or_not (stmt.Insert insert) = all_or_not IsTupleInside (λ tuple. all_or_not IsLiteralInside literal_or_not tuple) insert.tuples
stmt_or_not (stmt.Update update) = both_or_not (all_or_not IsSetInside (λ item. expr_or_not item.expr) update.sets) (some_or_not IsCondInside cond_or_not update.cond)
stmt_or_not (stmt.Delete filter) = filter_or_not filter
stmt_or_not (stmt.Restore filter) = filter_or_not filter
stmt_or_not (stmt.Purge filter) = filter_or_not filter
