-- Worked examples of the definitions: what a few lines say, do and are answered.
use Rattle.std.proofs.Common.{◌≡◌, ℕ, List, [], ◌∷◌, map, length, sum_by, Option, true, false, Some, None, refl, sym, ap, ◌∙◌, pos, negsuc, codes}
use Rattle.std.specs.Prelude.{option_map}
use Rattle.std.specs.Fmt.{digits}
use Rattle.std.specs.FinMap as finite
use Rattle.std.specs.Ordering.{nat_cmp}
use Rattle.mt_tree.specs.declared.code.Code.TheVariants.{UnknownTenant, Syntax, NotServed, NumberOutside64Bits, UnknownTable, UnknownColumn, TypesDoNotFit, TextTooLong, NullNotAllowed, DuplicateKey, QuotaFull, NameExists, ColumnNameTaken, UnknownName, Limit, QuotasTooLarge}
use Rattle.mt_tree.specs.declared.command.AdminCmd.TheVariants.{CreateTable, CreateExtension, CreateTenant, Extend, SetQuota, Advise}
use Rattle.mt_tree.specs.declared.command.DefKind.{DefKind}
use Rattle.mt_tree.specs.declared.command.DefKind.TheVariants as def
use Rattle.mt_tree.specs.declared.reply.Reply.{Reply}
use Rattle.mt_tree.specs.declared.reply.Reply.TheVariants.{Text, Refused, Memory}
use Rattle.mt_tree.specs.declared.schema.Table.{Table}
use Rattle.mt_tree.specs.declared.expression.Literal.{Literal}
use Rattle.mt_tree.specs.declared.expression.Literal.TheVariants as literal
use Rattle.mt_tree.specs.declared.expression.Atom.TheVariants as atom
use Rattle.mt_tree.specs.declared.expression.Expr.TheVariants as expr
use Rattle.mt_tree.specs.declared.statement.Insert as tree_insert
use Rattle.mt_tree.specs.declared.statement.Select as tree_select
use Rattle.mt_tree.specs.declared.statement.Stmt.TheVariants as stmt
use Rattle.mt_tree.specs.declared.command.Def.{Def}
use Rattle.mt_tree.specs.declared.simple.SimpleStmt.{SimpleStmt}
use Rattle.mt_tree.specs.declared.simple.SimpleStmt.TheVariants.{Insert, Select}
use Rattle.mt_script.specs.Lines as lines
use Rattle.mt_script.specs.Lines.{cut, without_return, lines_of, ended_lines_of}
use Rattle.mt_model.specs.Said.{Said, Unread, Outside, Unserved, Says, IsServed}
use Rattle.mt_catalog.specs.declared.state.TenantEntry.{TenantEntry}
use Rattle.mt_catalog.specs.Rules.{quota_total}
use Rattle.mt_schema.specs.Steps.{IsSchemaStep, defined_table, in_each}
use Rattle.mt_schema.proofs.Maps.{get-in_each, get-insert}
use Rattle.mt_schema.proofs.Totals.{len-in_each}
use Rattle.mt_model.specs.Served.{statement_tree}
use Rattle.mt_model.specs.Answer.{answer, next_view}
use Rattle.mt_model.specs.Command.{new_tenant, command_refusal, applied, applied_view}
use Rattle.mt_model.specs.Database.{no_rows, with_table}
use Rattle.mt_model.specs.Isolation.{Asks, Accepts, own_events, replies_to, private_replies}
use Rattle.mt_model.specs.Laws.{command_step-decided}
use Rattle.mt_model.specs.Request.{Request, Statement, Command}
use Rattle.mt_model.specs.Service.{Service, Tenant, View, catalogue_of, empty_service, entry_of}
use Rattle.mt_model.specs.Step.{step, command_step}
use Rattle.mt_model.proofs.ServedTrees.{select_of, insert_of, statement-unserved, command-unserved}

-- the lines end at line feeds; a last one without a line feed counts where it has a byte
cut-ended : cut (codes "a\nbc\n") ≡ codes "a" ∷ codes "bc" ∷ []
cut-ended = refl

cut-unended : cut (codes "a\n\nbc") ≡ codes "a" ∷ [] ∷ codes "bc" ∷ []
cut-unended = refl

cut-nothing : cut [] ≡ []
cut-nothing = refl

-- one carriage return is dropped in front of a line feed, and no more
without_return-one : without_return (codes "a\r\r") ≡ codes "a\r"
without_return-one = refl

-- comments, blanks alone and empty lines get no reply
lines_of-silent : lines_of (codes "-- note\r\n@1 a\r\n \t\n\n\r\n@2 b") ≡ lines.Text (codes "@1 a") ∷ lines.Text (codes "@2 b") ∷ []
lines_of-silent = refl

-- blanks in front of the two dashes make it no comment
lines_of-blanks : lines_of (codes " -- note\n") ≡ lines.Text (codes " -- note") ∷ []
lines_of-blanks = refl

-- the last line is left out where it has no line feed
ended_lines_of-two : ended_lines_of (codes "@1 a\n@2 b") ≡ lines.Text (codes "@1 a") ∷ []
ended_lines_of-two = refl

-- the definition of a column without NOT NULL
abbrev column : List ℕ → DefKind → Def
column name kind = record { name = name; kind = kind; not_null = false }

-- CREATE TABLE t (a INTEGER, b VARCHAR(5))
abbrev defs : List Def
defs = column (codes "a") def.Integer ∷ column (codes "b") (def.Varchar 5) ∷ []

abbrev table : Table
table = defined_table (codes "t") defs []

-- a table is made
create_table-reply : (step empty_service (Command (Says (CreateTable (codes "t") defs [])))).reply ≡ Text (codes "ok\n")
unfolding empty_service
create_table-reply = refl

create_table-tables : (step empty_service (Command (Says (CreateTable (codes "t") defs [])))).next.tables ≡ table ∷ []
unfolding empty_service
create_table-tables = refl

-- the service then, and again with a line of the administrator
abbrev one_table : Service
one_table = (step empty_service (Command (Says (CreateTable (codes "t") defs [])))).next

-- a table of that name is there already, whatever its columns
create_table-twice : (step one_table (Command (Says (CreateTable (codes "t") (column (codes "c") def.Integer ∷ []) [])))).reply ≡ Refused NameExists
unfolding empty_service
create_table-twice = refl

-- a column stands twice
create_table-column_twice : (step one_table (Command (Says (CreateTable (codes "u") (column (codes "a") def.Integer ∷ column (codes "a") (def.Varchar 5) ∷ []) [])))).reply ≡ Refused ColumnNameTaken
unfolding empty_service
create_table-column_twice = refl

-- a key is of the table's columns
create_table-key : (step one_table (Command (Says (CreateTable (codes "u") (column (codes "a") def.Integer ∷ []) (codes "b" ∷ []))))).reply ≡ Refused UnknownName
unfolding empty_service
create_table-key = refl

-- a VARCHAR has from 1 to 120 bytes
create_table-size_zero : (step one_table (Command (Says (CreateTable (codes "u") (column (codes "a") (def.Varchar 0) ∷ []) [])))).reply ≡ Refused Limit
unfolding empty_service
create_table-size_zero = refl

create_table-size_121 : (step one_table (Command (Says (CreateTable (codes "u") (column (codes "a") (def.Varchar 121) ∷ []) [])))).reply ≡ Refused Limit
unfolding empty_service
create_table-size_121 = refl

create_table-size_120 : (step one_table (Command (Says (CreateTable (codes "u") (column (codes "a") (def.Varchar 120) ∷ []) [])))).reply ≡ Text (codes "ok\n")
unfolding empty_service
create_table-size_120 = refl

-- an extension is one of a table that is there, and its columns have other names
create_extension-base : (step one_table (Command (Says (CreateExtension (codes "e") (codes "u") (column (codes "c") def.Integer ∷ []))))).reply ≡ Refused UnknownName
unfolding empty_service
create_extension-base = refl

create_extension-column : (step one_table (Command (Says (CreateExtension (codes "e") (codes "t") (column (codes "a") def.Integer ∷ []))))).reply ≡ Refused ColumnNameTaken
unfolding empty_service
create_extension-column = refl

create_extension-reply : (step one_table (Command (Says (CreateExtension (codes "e") (codes "t") (column (codes "c") def.Integer ∷ []))))).reply ≡ Text (codes "ok\n")
unfolding empty_service
create_extension-reply = refl

-- at first there is no tenant
get-first : (tenant : ℕ) → finite.get (in_each entry_of empty_service.tenants) tenant ≡ None
unfolding empty_service
get-first tenant = get-in_each entry_of empty_service.tenants tenant ∙ ap (option_map entry_of) (finite.get-empty nat_cmp tenant)

len-first : finite.len (in_each entry_of empty_service.tenants) ≡ 0
unfolding empty_service
len-first = len-in_each entry_of empty_service.tenants ∙ finite.len-empty nat_cmp Tenant

none-left : {A : Type 0} (xs : List A) → length xs ≡ 0 → xs ≡ []
none-left [] e = refl
none-left (x ∷ xs) e = cc

quota_total-first : quota_total (catalogue_of empty_service) ≡ 0
unfolding quota_total
quota_total-first = ap (λ (entries : List (ℕ × TenantEntry)). sum_by (λ entry. entry.quota) (map (λ entry. entry.1) entries))
    (none-left (finite.entries (in_each entry_of empty_service.tenants)) (sym (finite.len-entries (in_each entry_of empty_service.tenants)) ∙ len-first))

-- a tenant is made
create_tenant-refusal : command_refusal empty_service (CreateTenant 1 5) ≡ None
create_tenant-refusal = rw (get-first, len-first, quota_total-first) refl

create_tenant-step : command_step empty_service (CreateTenant 1 5) ≡ record { reply = Text (codes "ok\n"); next = applied empty_service (CreateTenant 1 5) }
create_tenant-step = command_step-decided empty_service (CreateTenant 1 5) None create_tenant-refusal

-- a quota is from 1 to 65,536, and a number from 1 to 4,294,967,295
create_tenant-greatest : command_refusal empty_service (CreateTenant 4294967295 65536) ≡ None
create_tenant-greatest = rw (get-first, len-first, quota_total-first) refl

create_tenant-quota_65537 : command_refusal empty_service (CreateTenant 1 65537) ≡ Some Limit
create_tenant-quota_65537 = rw (get-first, len-first) refl

create_tenant-quota_zero : command_refusal empty_service (CreateTenant 1 0) ≡ Some Limit
create_tenant-quota_zero = rw (get-first, len-first) refl

create_tenant-number_zero : command_refusal empty_service (CreateTenant 0 1) ≡ Some Limit
create_tenant-number_zero = rw (get-first, len-first) refl

-- the tenant is there already, whatever the quota
abbrev one_tenant : Service
one_tenant = applied empty_service (CreateTenant 1 5)

get-there : finite.get (in_each entry_of one_tenant.tenants) 1 ≡ Some (entry_of (new_tenant empty_service.tables 5))
get-there = get-in_each entry_of one_tenant.tenants 1 ∙ ap (option_map entry_of) (get-insert empty_service.tenants 1 (new_tenant empty_service.tables 5) 1)

create_tenant-twice : command_refusal one_tenant (CreateTenant 1 0) ≡ Some NameExists
create_tenant-twice = rw (get-there) refl

create_tenant-twice-step : command_step one_tenant (CreateTenant 1 0) ≡ record { reply = Refused NameExists; next = one_tenant }
create_tenant-twice-step = command_step-decided one_tenant (CreateTenant 1 0) (Some NameExists) create_tenant-twice

-- sixteen tenants have all of 1,048,576 rows together, and so no other can be made
create_tenant-quotas : (service : Service) → finite.get (in_each entry_of service.tenants) 17 ≡ None → finite.len (in_each entry_of service.tenants) ≡ 16 → quota_total (catalogue_of service) ≡ 1048576 → command_refusal service (CreateTenant 17 1) ≡ Some QuotasTooLarge
create_tenant-quotas service none tenants total = rw (none, tenants, total) refl

create_tenant-last_quota : (service : Service) → finite.get (in_each entry_of service.tenants) 17 ≡ None → finite.len (in_each entry_of service.tenants) ≡ 16 → quota_total (catalogue_of service) ≡ 1048575 → command_refusal service (CreateTenant 17 1) ≡ None
create_tenant-last_quota service none tenants total = rw (none, tenants, total) refl

-- there are at most 1,000 tenants
create_tenant-thousand : (service : Service) → finite.get (in_each entry_of service.tenants) 17 ≡ None → finite.len (in_each entry_of service.tenants) ≡ 1000 → command_refusal service (CreateTenant 17 1) ≡ Some Limit
create_tenant-thousand service none tenants = rw (none, tenants) refl

-- what a tenant sees once the table is there
abbrev made_table : View
made_table = record { tables = table ∷ []; extensions = []; database = None }

-- CREATE TENANT 1 QUOTA 1 once the table is there, as the tenant sees it
abbrev made_tenant : View
made_tenant = applied_view made_table (CreateTenant 1 1)

-- INSERT INTO t VALUES (7, 'x')
abbrev insert_seven : Said SimpleStmt
insert_seven = Says (Insert (codes "t") (literal.Int (pos 7) ∷ literal.Text (codes "x") ∷ []))

insert_seven-answer : answer made_tenant insert_seven ≡ Text (codes "ok 1\n")
insert_seven-answer = refl

-- what the tenant sees then
abbrev with_seven : View
with_seven = next_view made_tenant insert_seven

-- SELECT b, a FROM t
select_columns : answer with_seven (Says (Select (codes "t") (codes "b" ∷ codes "a" ∷ []))) ≡ Text (codes "columns b|a\n'x'|7\nok 1\n")
unfolding digits
select_columns = refl

-- SELECT * FROM t
select_all : answer with_seven (Says (Select (codes "t") [])) ≡ Text (codes "columns a|b\n7|'x'\nok 1\n")
unfolding digits
select_all = refl

-- before the INSERT there is no row
select_none : answer made_tenant (Says (Select (codes "t") [])) ≡ Text (codes "columns a|b\nok 0\n")
unfolding digits
select_none = refl

-- the quota is full
insert-quota : answer with_seven (Says (Insert (codes "t") (literal.Int (pos 8) ∷ literal.Text (codes "y") ∷ []))) ≡ Refused QuotaFull
insert-quota = refl

-- and leaves what the tenant sees
insert-quota-next : next_view with_seven (Says (Insert (codes "t") (literal.Int (pos 8) ∷ literal.Text (codes "y") ∷ []))) ≡ with_seven
insert-quota-next = refl

-- before the quota is asked, the values must fit their columns, and the texts be short enough
insert-types : answer with_seven (Says (Insert (codes "t") (literal.Text (codes "toolong") ∷ literal.Text (codes "toolong") ∷ []))) ≡ Refused TypesDoNotFit
insert-types = refl

insert-too_few : answer with_seven (Says (Insert (codes "t") (literal.Int (pos 8) ∷ []))) ≡ Refused TypesDoNotFit
insert-too_few = refl

insert-too_long : answer with_seven (Says (Insert (codes "t") (literal.Null ∷ literal.Text (codes "sixsix") ∷ []))) ≡ Refused TextTooLong
insert-too_long = refl

-- a table is looked for before its columns
select-table : answer with_seven (Says (Select (codes "u") (codes "c" ∷ []))) ≡ Refused UnknownTable
select-table = refl

select-column : answer with_seven (Says (Select (codes "t") (codes "a" ∷ codes "c" ∷ []))) ≡ Refused UnknownColumn
select-column = refl

-- a text without a reading, one with a reading that is not served, and a number outside 64 bits
unread-answer : answer with_seven Unread ≡ Refused Syntax
unread-answer = refl

unserved-answer : answer with_seven Unserved ≡ Refused NotServed
unserved-answer = refl

outside-answer : answer with_seven Outside ≡ Refused NumberOutside64Bits
outside-answer = refl

-- all of this is asked after the tenant
unknown_tenant-answer : answer made_table Unserved ≡ Refused UnknownTenant
unknown_tenant-answer = refl

-- NULL is printed first, then numbers by size, and each of two equal rows
abbrev four_rows : View
four_rows =
    let insert = λ (z : Literal). Says (Insert (codes "t") (z ∷ literal.Null ∷ [])) in
    let first = next_view (applied_view made_table (CreateTenant 1 4)) (insert (literal.Int (pos 10))) in
    let second = next_view first (insert (literal.Int (negsuc 1))) in
    let third = next_view second (insert literal.Null) in
    next_view third (insert (literal.Int (pos 10)))

select-order : answer four_rows (Says (Select (codes "t") (codes "a" ∷ []))) ≡ Text (codes "columns a\nNULL\n-2\n10\n10\nok 4\n")
unfolding digits
select-order = refl

-- A run of five lines: a table and a tenant are made, another tenant asks and is refused, the tenant
-- inserts, and its last line is answered for want of memory.
abbrev five_requests : List Request
five_requests =
    Command (Says (CreateTable (codes "t") defs [])) ∷ Command (Says (CreateTenant 1 1)) ∷ Statement 2 insert_seven
    ∷ Statement 1 insert_seven ∷ Statement 1 Unserved ∷ []

abbrev five_replies : List Reply
five_replies = Text (codes "ok\n") ∷ Text (codes "ok\n") ∷ Refused UnknownTenant ∷ Text (codes "ok 1\n") ∷ Memory ∷ []

-- to the tenant these are its own events, without the line that counts as not sent
own_events-first : own_events 1 five_requests five_replies ≡ Accepts (CreateTable (codes "t") defs []) ∷ Accepts (CreateTenant 1 1) ∷ Asks insert_seven ∷ []
own_events-first = refl

-- to the other the table, and the line that was refused
own_events-second : own_events 2 five_requests five_replies ≡ Accepts (CreateTable (codes "t") defs []) ∷ Asks insert_seven ∷ []
own_events-second = refl

replies_to-first : replies_to 1 five_requests five_replies ≡ Text (codes "ok 1\n") ∷ []
replies_to-first = refl

-- a private database without a table answers the own events so
abbrev first_view : View
first_view = record { tables = []; extensions = []; database = None }

private_replies-first : private_replies first_view (own_events 1 five_requests five_replies) ≡ Text (codes "ok 1\n") ∷ []
private_replies-first = refl

private_replies-second : private_replies first_view (own_events 2 five_requests five_replies) ≡ Refused UnknownTenant ∷ []
private_replies-second = refl

-- a new table is added to what the tables held when a transaction began, too
with_table-saved : with_table (record { quota = 1; extended = [] ∷ []; current = no_rows ∷ []; saved = Some (record { content = []; changed = true }) })
    ≡ record { quota = 1; extended = [] ∷ [] ∷ []; current = no_rows ∷ no_rows ∷ []; saved = Some (record { content = no_rows ∷ []; changed = true }) }
with_table-saved = refl

-- CREATE EXTENSION e ON t (c INTEGER) changes no table
abbrev made_extension : View
made_extension = applied_view with_seven (CreateExtension (codes "e") (codes "t") (column (codes "c") def.Integer ∷ []))

made_extension-select : answer made_extension (Says (Select (codes "t") [])) ≡ Text (codes "columns a|b\n7|'x'\nok 1\n")
unfolding digits
made_extension-select = refl

-- EXTEND 1 WITH e: the new column is NULL in the row that is there
abbrev extended : View
extended = applied_view made_extension (Extend 1 (codes "e"))

extended-select : answer extended (Says (Select (codes "t") [])) ≡ Text (codes "columns a|b|c\n7|'x'|NULL\nok 1\n")
unfolding digits
extended-select = refl

-- SET QUOTA 1 TO 2: there is room for a row more
set_quota-insert : answer (applied_view with_seven (SetQuota 1 2)) insert_seven ≡ Text (codes "ok 1\n")
set_quota-insert = refl

-- CREATE TABLE k (a INTEGER, PRIMARY KEY (a)), and a first row
abbrev keyed : View
keyed = applied_view (record { tables = []; extensions = []; database = None }) (CreateTable (codes "k") (column (codes "a") def.Integer ∷ []) (codes "a" ∷ []))

abbrev insert_key : Literal → Said SimpleStmt
insert_key key = Says (Insert (codes "k") (key ∷ []))

abbrev with_key : View
with_key = next_view (applied_view keyed (CreateTenant 1 5)) (insert_key (literal.Int (pos 7)))

-- a key is NULL nowhere, and stands once
insert_key-null : answer with_key (insert_key literal.Null) ≡ Refused NullNotAllowed
insert_key-null = refl

insert_key-twice : answer with_key (insert_key (literal.Int (pos 7))) ≡ Refused DuplicateKey
insert_key-twice = refl

insert_key-other : answer with_key (insert_key (literal.Int (pos 8))) ≡ Text (codes "ok 1\n")
insert_key-other = refl

-- INSERT INTO t VALUES (NULL), perhaps with names of columns
abbrev insert_with_columns : List (List ℕ) → tree_insert.Insert
insert_with_columns columns = record { table = codes "t"; columns = columns; tuples = (literal.Null ∷ []) ∷ [] }

statement_tree-insert : statement_tree (Insert (codes "t") (literal.Null ∷ [])) ≡ stmt.Insert (insert_with_columns [])
statement_tree-insert = refl

-- with names of columns it is not served
insert_with_columns-unserved : IsServed statement_tree (λ statement. Unit {0}) (stmt.Insert (insert_with_columns (codes "a" ∷ []))) → ⊥
insert_with_columns-unserved served = statement-unserved (stmt.Insert (insert_with_columns (codes "a" ∷ [])))
    (λ s e.
    let inserts : insert_with_columns (codes "a" ∷ []) ≡ insert_of s = cc in
    let columns : codes "a" ∷ [] ≡ [] = ap (λ (insert : tree_insert.Insert). insert.columns) inserts in
    cc)
    (λ s e. cc) (served.0, served.1)

-- SELECT a FROM t, perhaps with a LIMIT
abbrev select_with_limit : Option ℕ → tree_select.Select
select_with_limit limit = record {
  distinct = false;
  items = record { expr = expr.Atom (atom.Column (record { qualifier = None; name = codes "a" })); name = None } ∷ [];
  refs = record { table = codes "t"; alias = None; on = None } ∷ [];
  cond = None;
  group = [];
  having = None;
  order = [];
  limit = limit;
}

statement_tree-select : statement_tree (Select (codes "t") (codes "a" ∷ [])) ≡ stmt.Select (select_with_limit None)
statement_tree-select = refl

-- with a LIMIT it is not served
select_with_limit-unserved : IsServed statement_tree (λ statement. Unit {0}) (stmt.Select (select_with_limit (Some 1))) → ⊥
select_with_limit-unserved served = statement-unserved (stmt.Select (select_with_limit (Some 1))) (λ s e. cc)
    (λ s e.
    let selects : select_with_limit (Some 1) ≡ select_of s = cc in
    let limits : Some 1 ≡ None = ap (λ (select : tree_select.Select). select.limit) selects in
    cc) (served.0, served.1)

-- ADVISE 1 t is not served
advise-unserved : IsServed (λ command. command) IsSchemaStep (Advise 1 (codes "t")) → ⊥
advise-unserved = command-unserved (Advise 1 (codes "t")) (λ step. step)
