-- The statements that are served so far, as the trees that are read.
use Rattle.std.specs.Prelude.{ℕ, false, List, [], ◌∷◌, map, None}
use Rattle.mt_tree.specs.declared.expression.Literal.{Literal}
use Rattle.mt_tree.specs.declared.expression.Atom.TheVariants as atom
use Rattle.mt_tree.specs.declared.expression.Expr.TheVariants as expr
use Rattle.mt_tree.specs.declared.statement.Item.{Item}
use Rattle.mt_tree.specs.declared.statement.Ref.{Ref}
use Rattle.mt_tree.specs.declared.statement.Select.{Select}
use Rattle.mt_tree.specs.declared.statement.Insert.{Insert}
use Rattle.mt_tree.specs.declared.statement.Stmt.{Stmt}
use Rattle.mt_tree.specs.declared.statement.Stmt.TheVariants as stmt
use Rattle.mt_tree.specs.declared.simple.SimpleStmt.{SimpleStmt}
use Rattle.mt_tree.specs.declared.simple.SimpleStmt.TheVariants as simple

-- a column by its name alone, without AS
abbrev pub bare_item : List ℕ → Item
bare_item name = record { expr = expr.Atom (atom.Column (record { qualifier = None; name = name })); name = None }

-- a table without an alias
abbrev pub bare_ref : List ℕ → Ref
bare_ref table = record { table = table; alias = None; on = None }

-- SELECT columns FROM table, with no columns for a star
abbrev pub select_tree : List ℕ → List (List ℕ) → Select
select_tree table columns = record {
  distinct = false;
  items = map bare_item columns;
  refs = bare_ref table ∷ [];
  cond = None;
  group = [];
  having = None;
  order = [];
  limit = None;
}

-- INSERT INTO table VALUES (values)
abbrev pub insert_tree : List ℕ → List Literal → Insert
insert_tree table values = record { table = table; columns = []; tuples = values ∷ [] }

-- a statement that is served, as it is read
abbrev pub statement_tree : SimpleStmt → Stmt
statement_tree (simple.Insert table values) = stmt.Insert (insert_tree table values)
statement_tree (simple.Select table columns) = stmt.Select (select_tree table columns)
