-- The trees of what is served: two of them are told apart, and each tree is one of them or is none.
use Rattle.std.proofs.Common.{◌≡◌, ◌⊎◌, inl, inr, ℕ, Bool, true, false, List, [], ◌∷◌, map, Option, Some, None, refl, sym, ap, subst}
use Rattle.mt_tree.specs.declared.name.ColName.{ColName}
use Rattle.mt_tree.specs.declared.expression.Literal.{Literal}
use Rattle.mt_tree.specs.declared.expression.Cond.{Cond}
use Rattle.mt_tree.specs.declared.expression.Atom.TheVariants as atom
use Rattle.mt_tree.specs.declared.expression.Expr.{Expr}
use Rattle.mt_tree.specs.declared.expression.Expr.TheVariants as expr
use Rattle.mt_tree.specs.declared.statement.Item.{Item}
use Rattle.mt_tree.specs.declared.statement.Ref.{Ref}
use Rattle.mt_tree.specs.declared.statement.OrderKey.{OrderKey}
use Rattle.mt_tree.specs.declared.statement.Select.{Select}
use Rattle.mt_tree.specs.declared.statement.Insert.{Insert}
use Rattle.mt_tree.specs.declared.statement.Stmt.{Stmt}
use Rattle.mt_tree.specs.declared.statement.Stmt.TheVariants as stmt
use Rattle.mt_tree.specs.declared.command.AdminCmd.{AdminCmd}
use Rattle.mt_tree.specs.declared.command.AdminCmd.TheVariants as command
use Rattle.mt_tree.specs.declared.simple.SimpleStmt.{SimpleStmt}
use Rattle.mt_tree.specs.declared.simple.SimpleStmt.TheVariants as simple
use Rattle.mt_schema.specs.Steps.{IsSchemaStep}
use Rattle.mt_model.specs.Served.{bare_item, bare_ref, select_tree, insert_tree, statement_tree}
use Rattle.mt_model.specs.Said.{IsServed}

-- different things have different trees
abbrev pub IsInjective : {A B : Type 0} → (B → A) → Type 0
IsInjective {A} {B} of = (x y : B) → of x ≡ of y → x ≡ y

-- lists are told apart where their members are
map-injective : {A B : Type 0} (of : B → A) → IsInjective of → (xs ys : List B) → map of xs ≡ map of ys → xs ≡ ys
map-injective of one [] [] e = refl
map-injective of one [] (y ∷ ys) e = cc
map-injective of one (x ∷ xs) [] e = cc
map-injective of one (x ∷ xs) (y ∷ ys) e =
    let heads : of x ≡ of y = cc in
    let tails : map of xs ≡ map of ys = cc in
    let head : x ≡ y = one x y heads in
    let tail : xs ≡ ys = map-injective of one xs ys tails in
    cc

-- bare columns are told apart
bare_item-injective : IsInjective bare_item
bare_item-injective x y e =
    let atoms : (bare_item x).expr ≡ (bare_item y).expr = ap (λ (item : Item). item.expr) e in
    let column : List ℕ → ColName = λ name. record { qualifier = None; name = name } in
    let columns : column x ≡ column y = cc in
    ap (λ (column : ColName). column.name) columns

-- statements that are served are told apart
pub statement_tree-injective : IsInjective statement_tree
statement_tree-injective (simple.Insert table values) (simple.Insert other others) e =
    let trees : insert_tree table values ≡ insert_tree other others = cc in
    let tables : table ≡ other = ap (λ (insert : Insert). insert.table) trees in
    let tuples : values ∷ [] ≡ others ∷ [] = ap (λ (insert : Insert). insert.tuples) trees in
    cc
statement_tree-injective (simple.Insert table values) (simple.Select other columns) e = cc
statement_tree-injective (simple.Select table columns) (simple.Insert other values) e = cc
statement_tree-injective (simple.Select table columns) (simple.Select other others) e =
    let trees : select_tree table columns ≡ select_tree other others = cc in
    let refs : bare_ref table ∷ [] ≡ bare_ref other ∷ [] = ap (λ (select : Select). select.refs) trees in
    let first : bare_ref table ≡ bare_ref other = cc in
    let tables : table ≡ other = ap (λ (one : Ref). one.table) first in
    let names : columns ≡ others = map-injective bare_item bare_item-injective columns others (ap (λ (select : Select). select.items) trees) in
    cc

-- the tree is made of something
abbrev pub IsMade : {A B : Type 0} → (B → A) → A → Type 0
IsMade {A} {B} of a = (b : B) × (a ≡ of b)

-- a tree is made of something, or of nothing
abbrev pub IsDecided : {A B : Type 0} → (B → A) → A → Type 0
IsDecided of a = IsMade of a ⊎ (IsMade of a → ⊥)

-- a tree is of something that is served, or of nothing
abbrev pub IsServedOrNot : {A B : Type 0} → (B → A) → (B → Type 0) → A → Type 0
IsServedOrNot of served a = IsServed of served a ⊎ (IsServed of served a → ⊥)

-- what makes a list makes its first member and the others
cons-served : {A B : Type 0} (of : B → A) (a : A) (more : List A) (bs : List B) → a ∷ more ≡ map of bs → IsMade of a × IsMade (map of) more
cons-served of a more [] e = absurd (cc)
cons-served of a more (b ∷ bs) e =
    let first : a ≡ of b = cc in
    let others : more ≡ map of bs = cc in
    ((b, first), (bs, others))

-- a list with one more member is decided where that is
cons-decided : {A B : Type 0} (of : B → A) (a : A) (more : List A) → IsDecided of a → IsDecided (map of) more → IsDecided (map of) (a ∷ more)
cons-decided of a more (inl s) (inl t) =
    let first : a ≡ of s.0 = s.1 in
    let others : more ≡ map of t.0 = t.1 in
    inl (s.0 ∷ t.0, cc)
cons-decided of a more (inl s) (inr none) = inr (λ t. none (cons-served of a more t.0 t.1).1)
cons-decided of a more (inr none) others = inr (λ t. none (cons-served of a more t.0 t.1).0)

-- a list is decided where its members are
list-decided : {A B : Type 0} (of : B → A) → ((a : A) → IsDecided of a) → (xs : List A) → IsDecided (map of) xs
list-decided of each [] = inl ([], refl)
list-decided of each (x ∷ xs) = cons-decided of x xs (each x) (list-decided of each xs)

-- a list of one member is decided where the member is
one-decided : {A B : Type 0} (of : B → A) (a : A) → IsDecided of a → IsDecided (λ b. of b ∷ []) (a ∷ [])
one-decided {A} of a (inl s) = inl (s.0, ap (λ (a : A). a ∷ []) s.1)
one-decided of a (inr none) = inr (λ s.
    let same : a ∷ [] ≡ of s.0 ∷ [] = s.1 in
    let first : a ≡ of s.0 = cc in
    none (s.0, first))

-- a list is one of one member or is not
only-decided : {A B : Type 0} (of : B → A) → ((a : A) → IsDecided of a) → (xs : List A) → IsDecided (λ b. of b ∷ []) xs
only-decided of each [] = inr (λ s. let e : [] ≡ of s.0 ∷ [] = s.1 in cc)
only-decided of each (x ∷ []) = one-decided of x (each x)
only-decided of each (x ∷ y ∷ ys) = inr (λ s. let e : x ∷ y ∷ ys ≡ of s.0 ∷ [] = s.1 in cc)

-- a column, perhaps with a qualifier
abbrev column_of : Option (List ℕ) → List ℕ → ColName
column_of qualifier name = record { qualifier = qualifier; name = name }

-- a column without AS is bare where it has no qualifier
column-decided : (qualifier : Option (List ℕ)) (name : List ℕ) → IsDecided bare_item (record { expr = expr.Atom (atom.Column (column_of qualifier name)); name = None })
column-decided None name = inl (name, refl)
column-decided (Some qualifier) name = inr (λ s.
    let atoms : expr.Atom (atom.Column (column_of (Some qualifier) name)) ≡ expr.Atom (atom.Column (column_of None s.0)) = ap (λ (item : Item). item.expr) s.1 in
    let columns : column_of (Some qualifier) name ≡ column_of None s.0 = cc in
    let qualifiers : Some qualifier ≡ None = ap (λ (column : ColName). column.qualifier) columns in
    cc)

-- an item of a select list is a bare column or is not
item-decided : (tree : Expr) (name : Option (List ℕ)) → IsDecided bare_item (record { expr = tree; name = name })
item-decided tree (Some name) = inr (λ s. let e : Some name ≡ None = ap (λ (item : Item). item.name) s.1 in cc)
item-decided (expr.Atom (atom.Column column)) None = column-decided column.qualifier column.name
item-decided other None = inr (λ s. let e : other ≡ (bare_item s.0).expr = ap (λ (item : Item). item.expr) s.1 in cc)

-- a table reference is bare where it has neither alias nor ON
ref-decided : (table : List ℕ) (alias : Option (List ℕ)) (on : Option Cond) → IsDecided bare_ref (record { table = table; alias = alias; on = on })
ref-decided table None None = inl (table, refl)
ref-decided table (Some alias) on = inr (λ s. let e : Some alias ≡ None = ap (λ (one : Ref). one.alias) s.1 in cc)
ref-decided table None (Some on) = inr (λ s. let e : Some on ≡ None = ap (λ (one : Ref). one.on) s.1 in cc)

-- the SELECTs that are served, by table and columns
abbrev pub select_of : List ℕ × List (List ℕ) → Select
select_of s = select_tree s.0 s.1

-- the INSERTs that are served, by table and values
abbrev pub insert_of : List ℕ × List Literal → Insert
insert_of s = insert_tree s.0 s.1

-- a SELECT with nothing but items and tables
abbrev plain_select : List Item → List Ref → Select
plain_select items refs = record { distinct = false; items = items; refs = refs; cond = None; group = []; having = None; order = []; limit = None }

-- such a SELECT is decided by its items and tables
plain_select-decided : (items : List Item) (refs : List Ref) → IsDecided (map bare_item) items → IsDecided (λ table. bare_ref table ∷ []) refs → IsDecided select_of (plain_select items refs)
plain_select-decided items refs (inl s) (inl t) =
    let names : items ≡ map bare_item s.0 = s.1 in
    let tables : refs ≡ bare_ref t.0 ∷ [] = t.1 in
    inl ((t.0, s.0), rw (names, tables) refl)
plain_select-decided items refs (inr none) t = inr (λ s. none (s.0.1, ap (λ (select : Select). select.items) s.1))
plain_select-decided items refs (inl s) (inr none) = inr (λ t. none (t.0.0, ap (λ (select : Select). select.refs) t.1))

-- each SELECT is one that is served or is not
select-decided : (distinct : Bool) (items : List Item) (refs : List Ref) (cond : Option Cond) (group : List ColName) (having : Option Cond) (order : List OrderKey) (limit : Option ℕ) → IsDecided select_of (record { distinct = distinct; items = items; refs = refs; cond = cond; group = group; having = having; order = order; limit = limit })
select-decided true items refs cond group having order limit = inr (λ s. let e : true ≡ false = ap (λ (select : Select). select.distinct) s.1 in cc)
select-decided false items refs (Some cond) group having order limit = inr (λ s. let e : Some cond ≡ None = ap (λ (select : Select). select.cond) s.1 in cc)
select-decided false items refs None (column ∷ group) having order limit = inr (λ s. let e : column ∷ group ≡ [] = ap (λ (select : Select). select.group) s.1 in cc)
select-decided false items refs None [] (Some having) order limit = inr (λ s. let e : Some having ≡ None = ap (λ (select : Select). select.having) s.1 in cc)
select-decided false items refs None [] None (key ∷ order) limit = inr (λ s. let e : key ∷ order ≡ [] = ap (λ (select : Select). select.order) s.1 in cc)
select-decided false items refs None [] None [] (Some limit) = inr (λ s. let e : Some limit ≡ None = ap (λ (select : Select). select.limit) s.1 in cc)
select-decided false items refs None [] None [] None =
    plain_select-decided items refs (list-decided bare_item (λ item. item-decided item.expr item.name) items) (only-decided bare_ref (λ one. ref-decided one.table one.alias one.on) refs)

-- each INSERT is one that is served or is not
insert-decided : (table : List ℕ) (columns : List (List ℕ)) (tuples : List (List Literal)) → IsDecided insert_of (record { table = table; columns = columns; tuples = tuples })
insert-decided table (column ∷ columns) tuples = inr (λ s. let e : column ∷ columns ≡ [] = ap (λ (insert : Insert). insert.columns) s.1 in cc)
insert-decided table [] [] = inr (λ s. let e : [] ≡ s.0.1 ∷ [] = ap (λ (insert : Insert). insert.tuples) s.1 in cc)
insert-decided table [] (values ∷ []) = inl ((table, values), refl)
insert-decided table [] (values ∷ more ∷ others) = inr (λ s. let e : values ∷ more ∷ others ≡ s.0.1 ∷ [] = ap (λ (insert : Insert). insert.tuples) s.1 in cc)

-- a statement is not served that is neither such an INSERT nor such a SELECT
pub statement-unserved : (tree : Stmt) → ((s : List ℕ × List Literal) → tree ≡ stmt.Insert (insert_of s) → ⊥) → ((s : List ℕ × List (List ℕ)) → tree ≡ stmt.Select (select_of s) → ⊥) → IsMade statement_tree tree → ⊥
statement-unserved tree no_insert no_select s =
    (elim s.0 as (λ (x : SimpleStmt). tree ≡ statement_tree x → ⊥) [ simple.Insert table values ↦ no_insert (table, values) | simple.Select table columns ↦ no_select (table, columns) ]) s.1

-- an INSERT is served where it is such a one
insert-served : (insert : Insert) → IsDecided insert_of insert → IsDecided statement_tree (stmt.Insert insert)
insert-served insert (inl s) = inl (simple.Insert s.0.0 s.0.1, ap stmt.Insert s.1)
insert-served insert (inr none) = inr (statement-unserved (stmt.Insert insert) (λ s e. let same : insert ≡ insert_of s = cc in none (s, same)) (λ s e. cc))

-- a SELECT is served where it is such a one
select-served : (select : Select) → IsDecided select_of select → IsDecided statement_tree (stmt.Select select)
select-served select (inl s) = inl (simple.Select s.0.0 s.0.1, ap stmt.Select s.1)
select-served select (inr none) = inr (statement-unserved (stmt.Select select) (λ s e. cc) (λ s e. let same : select ≡ select_of s = cc in none (s, same)))

-- each statement is served or is not
pub statement-decided : (tree : Stmt) → IsDecided statement_tree tree
statement-decided (stmt.Insert insert) = insert-served insert (insert-decided insert.table insert.columns insert.tuples)
statement-decided (stmt.Select select) = select-served select (select-decided select.distinct select.items select.refs select.cond select.group select.having select.order select.limit)
statement-decided other = inr (statement-unserved other (λ s e. cc) (λ s e. cc))

-- a statement is served where it is made of one that is
pub statement-served : (tree : Stmt) → IsServedOrNot statement_tree (λ statement. Unit {0}) tree
statement-served tree = by (statement-decided tree)
  where
    by : IsDecided statement_tree tree → IsServedOrNot statement_tree (λ statement. Unit {0}) tree
    by (inl s) = inl (s.0, s.1, tt)
    by (inr none) = inr (λ s. none (s.0, s.1))

-- a command is served where it is a schema step
pub command-unserved : (tree : AdminCmd) → (IsSchemaStep tree → ⊥) → IsServed (λ command. command) IsSchemaStep tree → ⊥
command-unserved tree no_step s = no_step (subst IsSchemaStep (sym s.1) s.2)

pub command-served : (tree : AdminCmd) → IsServedOrNot (λ command. command) IsSchemaStep tree
command-served (command.CreateTable name columns key) = inl (command.CreateTable name columns key, refl, tt)
command-served (command.CreateExtension name base columns) = inl (command.CreateExtension name base columns, refl, tt)
command-served (command.CreateTenant tenant quota) = inl (command.CreateTenant tenant quota, refl, tt)
command-served (command.Extend tenant extension) = inl (command.Extend tenant extension, refl, tt)
command-served (command.SetQuota tenant quota) = inl (command.SetQuota tenant quota, refl, tt)
command-served other = inr (command-unserved other (λ step. step))
