-- What is kept once a row was inserted that nothing refuses.
use Rattle.std.proofs.Common.{◌≡◌, ◌≢◌, ◌⊎◌, inl, inr, ⊎_elim, ℕ, ◌+◌, ◌<◌, ◌≤◌, ◌^◌, Bool, true, false, cond, ◌&&◌, ◌++◌, List, [], ◌∷◌, codes, get_or, length, map, sum_by, None, Some, refl, sym, ap, ◌∙◌, subst, arith, eq-eqb, ne_eqb}
use Rattle.std.specs.Prelude.{nat_eq, slice_get, slice_set}
use Rattle.std.specs.Str.{bytes_eq}
use Rattle.std.specs.FinMap as finite
use Rattle.std.specs.List.{AllByRecursion as Each, range_with_len}
use Rattle.std.proofs.lemmas.Bool.{cases_eq, ltb-false, not-false}
use Rattle.std.proofs.lemmas.List.{length-append, length-map}
use Rattle.std.proofs.lemmas.List.Elements.{All-push}
use Rattle.std.proofs.lemmas.Option.{slice_get_cases}
use Rattle.mt_value.specs.declared.value.Value.{Value}
use Rattle.mt_tree.specs.declared.expression.Literal.{Literal}
use Rattle.mt_tree.specs.declared.reply.Reply.TheVariants.{Text}
use Rattle.mt_tree.specs.declared.row.MarkedRow.{MarkedRow}
use Rattle.mt_tree.specs.declared.row.TableContent.{TableContent}
use Rattle.mt_tree.specs.declared.schema.Column.{Column}
use Rattle.mt_tree.specs.declared.schema.Table.{Table}
use Rattle.mt_tree.specs.declared.simple.SimpleStmt.{SimpleStmt}
use Rattle.mt_tree.specs.declared.simple.SimpleStmt.TheVariants.{Insert}
use Rattle.mt_tree.specs.Rows.{AreSound, with_row}
use Rattle.mt_catalog.specs.declared.state.TenantEntry.{TenantEntry}
use Rattle.mt_catalog.specs.declared.state.TenantTable.{TenantTable}
use Rattle.mt_catalog.specs.State.{State, extended_columns, table_in, tenant_table}
use Rattle.mt_schema.specs.Steps.{table_number}
use Rattle.mt_schema.proofs.NamesApart.{place_within}
use Rattle.mt_schema.proofs.Put.{put_tenant}
use Rattle.mt_model.specs.Answer.{answer, first_refusal, next_database}
use Rattle.mt_model.specs.Database.{PrivateDatabase}
use Rattle.mt_model.specs.Parts.{ConsistsOf, KeptRows, made_one, one_more_made, rows_inserted, with_content}
use Rattle.mt_model.specs.Request.{Statement}
use Rattle.mt_model.specs.Said.{Says}
use Rattle.mt_model.specs.Service.{Service, Tenant, View, put_database}
use Rattle.mt_model.specs.Tables.{value_of}
use Rattle.mt_private.specs.Kept.{AreKept, IsKeptTable, TableRows, rows_in}
use Rattle.mt_private.specs.Outcome.{IsAnswered}
use Rattle.mt_private.specs.Seen.{AddsRow, database_in, kept_in, list_at, lists_of, view_in}
use Rattle.mt_private.proofs.Counted.{sum_one_more, sum_same}
use Rattle.mt_private.proofs.Databases.{changed_is, content, content_got, fit_length, next_done, parts_tests, passed, within_done}
use Rattle.mt_private.proofs.Keeping.{TellsDatabases, consists_same, tenant_is, view_is}
use Rattle.mt_private.proofs.Made.{entry_before, made_is, made_keeps, table_before}

-- an inserted row is one of the parts
abbrev pub InsertsParts : Type 0
InsertsParts = (service : Service) (state : State) (rows : KeptRows) (number base : ℕ) (tenant : Tenant) (content : TableContent) (values : List Value)
    → ConsistsOf service state rows → finite.get service.tenants number ≡ Some tenant → slice_get tenant.database.current base ≡ Some content
    → ConsistsOf (put_database service number (Some (with_content tenant.database base (with_row content values)))) (made_one state number base) (rows_inserted rows number base values)

the_same : {A : Type 0} (x y : A) → Some x ≡ Some y → x ≡ y
the_same x y e = cc

-- a tenant has a table of each base table
pub own_table : (state : State) (entry : TenantEntry) (table : List ℕ) (base : ℕ) → length entry.tables ≡ length state.bases → table_number state.bases table ≡ Some base → (own : TenantTable) × (slice_get entry.tables base ≡ Some own)
own_table state entry table base each is = by (slice_get_cases entry.tables base).1
  where
    within : base < length state.bases
    within = place_within (λ (one : Table). bytes_eq one.name table) state.bases base is

    by : ((own : TenantTable) × (base < length entry.tables) × (slice_get entry.tables base ≡ Some own) × (get_or entry.tables base own ≡ own)) ⊎ ((length entry.tables ≤ base) × (slice_get entry.tables base ≡ None))
        → (own : TenantTable) × (slice_get entry.tables base ≡ Some own)
    by (inl there) = (there.0, there.2)
    by (inr past) = let behind = past.0 in absurd (omega (arith, within, behind, each))

-- a visible row of these values
abbrev row_of : List Value → MarkedRow
row_of values = record { visible = true; values = values }

-- the tables that get a row more, and those that do not
module _ (entries left : TableRows) (tenant base : ℕ) (values : List Value) (adds : AddsRow tenant base values entries left) where
  abbrev chosen : Bool → Bool → ℕ → ℕ → List MarkedRow
  chosen a b number other = cond (a && b) (rows_in entries number other ++ row_of values ∷ []) (rows_in entries number other)

  added_there : rows_in left tenant base ≡ rows_in entries tenant base ++ row_of values ∷ []
  added_there =
      adds tenant base ∙ ap (λ b. chosen b (nat_eq base base) tenant base) (eq-eqb tenant tenant refl)
      ∙ ap (λ b. chosen true b tenant base) (eq-eqb base base refl)

  added_elsewhere : (number other : ℕ) → number ≢ tenant → rows_in left number other ≡ rows_in entries number other
  added_elsewhere number other apart = adds number other ∙ ap (λ b. chosen b (nat_eq other base) number other) (ne_eqb number tenant apart)

  added_beside : (number other : ℕ) → other ≢ base → rows_in left number other ≡ rows_in entries number other
  added_beside number other apart = adds number other ∙ ap (λ b. chosen (nat_eq number tenant) b number other) (ne_eqb other base apart) ∙ neither (nat_eq number tenant)
    where
      neither : (b : Bool) → chosen b false number other ≡ rows_in entries number other
      neither true = refl
      neither false = refl

-- the number of the row is within what a table may have
pub has_number : (state : State) (entry : TenantEntry) (lists : List (List MarkedRow)) (base : ℕ) (own : TenantTable) → slice_get entry.tables base ≡ Some own → (table : List ℕ) (literals : List Literal) → table_number state.bases table ≡ Some base
    → first_refusal (view_in state entry lists) (database_in entry lists) (Insert table literals) ≡ None → own.made + 1 ≤ 2 ^ 63
has_number state entry lists base own got table literals is none = ltb-false (2 ^ 63) (own.made + 1) (passed state entry lists base own got table literals is none).1.1.1.1.1.0

module _ (tells : TellsDatabases) (inserts : InsertsParts) (state : State) (entries left : TableRows) (tenant base : ℕ) (entry : TenantEntry) (there : finite.get state.tenants tenant ≡ Some entry)
    (own : TenantTable) (got : slice_get entry.tables base ≡ Some own) (table : List ℕ) (literals : List Literal) (is : table_number state.bases table ≡ Some base)
    (none : first_refusal (view_in state entry (lists_of entries tenant)) (database_in entry (lists_of entries tenant)) (Insert table literals) ≡ None)
    (adds : AddsRow tenant base (map value_of literals) entries left) where
  abbrev values : List Value
  values = map value_of literals

  abbrev lists : List (List MarkedRow)
  lists = lists_of entries tenant

  abbrev columns : List Column
  columns = extended_columns state base own.extended

  abbrev database : PrivateDatabase
  database = database_in entry lists

  abbrev changed_database : PrivateDatabase
  changed_database = with_content database base (with_row (content own (list_at lists base)) values)

  abbrev counted : State
  counted = put_tenant state tenant (record { quota = entry.quota; tables = slice_set entry.tables base (one_more_made own) })

  tested : Each (λ test. test.1 ≡ false) (parts_tests state entry lists base own got literals columns (content own (list_at lists base)) (kept_in lists (length entry.tables)))
  tested = passed state entry lists base own got table literals is none

  sound : AreSound columns (list_at lists base ++ row_of values ∷ [])
  sound = record { no_long_text = tested.1.0; no_null = tested.1.1.0; no_duplicate_key = tested.1.1.1.0 }

  wider : IsKeptTable columns (list_at lists base) → IsKeptTable columns (rows_in left tenant base)
  wider kept =
      let fit = length-map literals value_of ∙ fit_length columns literals (not-false _ tested.0) in
      subst (IsKeptTable columns) (sym (added_there entries left tenant base values adds)) (record {
        whole = All-push (λ (row : MarkedRow). length row.values ≡ length columns) (list_at lists base) (row_of values) kept.whole fit;
        sound = sound;
      })

  module _ (service : Service) (kept : AreKept state entries service) where
    tables : (number other : ℕ) (one : TenantTable) → tenant_table counted number other ≡ Some one → IsKeptTable (extended_columns state other one.extended) (rows_in left number other)
    tables number other one found = ⊎_elim
        (λ same. ⊎_elim (at_own same) (λ apart. as_before (added_beside entries left tenant base values adds number other apart)) (cases_eq other base))
        (λ apart. as_before (added_elsewhere entries left tenant base values adds number other apart)) (cases_eq number tenant)
      where
        before : (was : TenantTable) × (tenant_table state number other ≡ Some was) × (one.extended ≡ was.extended)
        before = table_before state kept.rules tenant base entry there own got number other one found

        as_before : rows_in left number other ≡ rows_in entries number other → IsKeptTable (extended_columns state other one.extended) (rows_in left number other)
        as_before same =
            subst (IsKeptTable (extended_columns state other one.extended)) (sym same)
            (subst (λ numbers. IsKeptTable (extended_columns state other numbers) (rows_in entries number other)) (sym before.2) (kept.tables number other before.0 before.1))

        at_own : number ≡ tenant → other ≡ base → IsKeptTable (extended_columns state other one.extended) (rows_in left number other)
        at_own same_tenant same_base =
            let own_there : tenant_table state tenant base ≡ Some own = ap (table_in base) there ∙ got in
            let same : own ≡ before.0 = the_same own before.0 (sym own_there ∙ ap (λ n. tenant_table state n base) (sym same_tenant) ∙ ap (tenant_table state number) (sym same_base) ∙ before.1) in
            let columns_same : columns ≡ extended_columns state other one.extended =
            ap (λ n. extended_columns state n own.extended) (sym same_base) ∙ ap (λ (of : TenantTable). extended_columns state other of.extended) same ∙ ap (extended_columns state other) (sym before.2) in
            subst (IsKeptTable (extended_columns state other one.extended)) (ap (λ n. rows_in left n base) (sym same_tenant) ∙ ap (rows_in left number) (sym same_base))
            (subst (λ of. IsKeptTable of (rows_in left tenant base)) columns_same (wider (kept.tables tenant base own own_there)))

    abbrev sizes : ℕ → TableRows → ℕ → ℕ
    sizes number of other = length (rows_in of number other)

    own_quota : sum_by (sizes tenant left) (range_with_len 0 (length state.bases)) ≤ entry.quota
    own_quota =
        let more = ap length (added_there entries left tenant base values adds) ∙ length-append (rows_in entries tenant base) (row_of values ∷ []) in
        let sum = sum_one_more (sizes tenant entries) (sizes tenant left) base 0 (length state.bases) (omega (arith, more)) (λ other apart. ap length (added_beside entries left tenant base values adds tenant other apart)) in
        let each = ap (λ n. sum_by (sizes tenant entries) (range_with_len 0 n)) (kept.rules.tenants tenant entry there).each_base in
        let fits = ltb-false entry.quota _ tested.1.1.1.1.0 in
        omega (arith, sum, each, fits)

    quotas : (number : ℕ) (one : TenantEntry) → finite.get counted.tenants number ≡ Some one → sum_by (sizes number left) (range_with_len 0 (length state.bases)) ≤ one.quota
    quotas number one found = ⊎_elim at_own elsewhere (cases_eq number tenant)
      where
        before : (was : TenantEntry) × (finite.get state.tenants number ≡ Some was) × (one.quota ≡ was.quota)
        before = entry_before state kept.rules tenant base entry there own got number one found

        elsewhere : number ≢ tenant → sum_by (sizes number left) (range_with_len 0 (length state.bases)) ≤ one.quota
        elsewhere apart =
            let same = sum_same (sizes number left) (sizes number entries) 0 (length state.bases) (λ other above. ap length (added_elsewhere entries left tenant base values adds number other apart)) in
            let within = kept.quotas number before.0 before.1 in
            let quota = before.2 in
            omega (arith, same, within, quota)

        at_own : number ≡ tenant → sum_by (sizes number left) (range_with_len 0 (length state.bases)) ≤ one.quota
        at_own same =
            let entry_is = ap (λ (of : TenantEntry). of.quota) (the_same entry before.0 (sym there ∙ ap (finite.get state.tenants) (sym same) ∙ before.1)) in
            let sum = ap (λ n. sum_by (sizes n left) (range_with_len 0 (length state.bases))) same in
            let quota = before.2 in
            let within = own_quota in
            omega (arith, entry_is, sum, quota, within)

    consists : ConsistsOf (put_database service tenant (Some changed_database)) (made_one state tenant base) (rows_in left)
    consists =
        let held = tenant_is tells state entries tenant entry there service kept in
        let rows = content own (list_at lists base) in
        let there_too = ap (λ (of : PrivateDatabase). slice_get of.current base) held.2 ∙ content_got state entry lists base own got in
        let whole = inserts service state (rows_in entries) tenant base held.0 rows values kept.consists held.1 there_too in
        consists_same (put_database service tenant (Some changed_database)) (made_one state tenant base) (rows_inserted (rows_in entries) tenant base values) (rows_in left) adds
        (subst (λ (of : PrivateDatabase). ConsistsOf (put_database service tenant (Some (with_content of base (with_row rows values)))) (made_one state tenant base) (rows_inserted (rows_in entries) tenant base values)) held.2 whole)

    kept_after : AreKept (made_one state tenant base) left (put_database service tenant (Some changed_database))
    kept_after =
        let same = made_is state kept.rules tenant base entry there own got in
        subst (λ (of : State). AreKept of left (put_database service tenant (Some changed_database))) (sym same) (record {
          rules = made_keeps state kept.rules tenant base entry there own got (has_number state entry lists base own got table literals is none);
          consists = subst (λ (of : State). ConsistsOf (put_database service tenant (Some changed_database)) of (rows_in left)) same consists;
          tables = tables;
          quotas = quotas;
        })

  pub added : (text : List ℕ) → text ≡ codes "ok 1\n" → IsAnswered state (made_one state tenant base) entries left (Statement tenant (Says (Insert table literals))) (Text text)
  added text ok service kept =
      let statement : SimpleStmt = Insert table literals in
      let seen : View = view_in state entry lists in
      let view = view_is tells state entries tenant entry there service kept in (
        put_database service tenant (Some changed_database),
        inl (record {
          reply_is = ap Text ok ∙ sym (ap (λ (v : View). answer v (Says statement)) view ∙ within_done seen database statement none);
          next_is =
              sym (ap (λ (v : View). put_database service tenant (next_database v (Says statement))) view
              ∙ ap (λ (of : PrivateDatabase). put_database service tenant (Some of)) (next_done seen database statement none ∙ changed_is state entry lists base own got table literals is));
        }),
        kept_after service kept,
      )
