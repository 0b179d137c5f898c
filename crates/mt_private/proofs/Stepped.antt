-- What is kept of the tables once a schema step was made.
use Rattle.std.proofs.Common.{◌≡◌, ◌≢◌, ⊎_elim, ℕ, zero, suc, ◌+◌, ◌≤◌, Bool, true, false, cond, ◌&&◌, List, [], ◌∷◌, ◌++◌, length, map, sum_by, Option, None, Some, refl, sym, ap, ◌∙◌, subst, arith, append_assoc, eq-eqb, ne_eqb}
use Rattle.std.specs.Prelude.{All, flat_map, is_some, nat_eq, not, option_map, replicate, slice_get}
use Rattle.std.specs.List.{range_with_len}
use Rattle.std.specs.FinMap as finite
use Rattle.std.proofs.lemmas.Bool.{cases_eq, ltb-false}
use Rattle.std.proofs.lemmas.List.{flat_map_more, length_push, length-append, length-map, length-replicate}
use Rattle.std.proofs.lemmas.List.Elements.{All-map, All-nil, All-weaker}
use Rattle.std.proofs.lemmas.List.Sums.{sum_by-cons}
use Rattle.std.proofs.lemmas.Option.{slice_get_past}
use Rattle.mt_value.specs.declared.value.Value.{Value}
use Rattle.mt_value.specs.declared.value.Value.TheVariants.{Null}
use Rattle.mt_tree.specs.declared.command.AdminCmd.{AdminCmd}
use Rattle.mt_tree.specs.declared.command.AdminCmd.TheVariants.{CreateTable, CreateExtension, CreateTenant, Extend, SetQuota}
use Rattle.mt_tree.specs.declared.command.Def.{Def}
use Rattle.mt_tree.specs.declared.row.MarkedRow.{MarkedRow}
use Rattle.mt_tree.specs.declared.schema.Column.{Column}
use Rattle.mt_tree.specs.declared.schema.Table.{Table}
use Rattle.mt_fold.proofs.Members.{Side, in_first, side}
use Rattle.mt_fold.proofs.Members.Side.{stands_in_first, stands_in_second}
use Rattle.mt_catalog.specs.declared.state.Extension.{Extension}
use Rattle.mt_catalog.specs.declared.state.TenantEntry.{TenantEntry}
use Rattle.mt_catalog.specs.declared.state.TenantTable.{TenantTable}
use Rattle.mt_catalog.specs.Rules.{IsCatalogue, IsExtension, IsPlain}
use Rattle.mt_catalog.specs.State.{State, base_columns, extended_columns, extension_columns, table_in, tenant_table}
use Rattle.mt_catalog.proofs.Limits.{member_keeps}
use Rattle.mt_schema.specs.Refusals.{first_holding, quota_tests, step_refusal, tenant_tests}
use Rattle.mt_schema.specs.Steps.{IsWellFormed, defined_extension, defined_table, new_table, stepped, with_new_table}
use Rattle.mt_schema.proofs.CanExtend.{CanExtend, can_extend, entry_after, stepped_is, table_after}
use Rattle.mt_schema.proofs.Maps.{get-in_each}
use Rattle.mt_schema.proofs.Numbered.{changed_elsewhere, changed_there, joined_front}
use Rattle.mt_schema.proofs.Put.{new_tenant, put_tenant, table_at, tenant_at, with_tenant_there}
use Rattle.mt_schema.proofs.Refused.{none_holds}
use Rattle.mt_schema.proofs.Stays.{columns_stay}
use Rattle.mt_model.specs.Command.{numbered_extension}
use Rattle.mt_model.specs.Database.{with_nulls}
use Rattle.mt_model.specs.Parts.{KeptRows, named_tenant, rows_after, rows_extended, rows_with}
use Rattle.mt_model.proofs.Widened.{sound-widened}
use Rattle.mt_private.specs.Kept.{IsKeptTable}
use Rattle.mt_private.proofs.Counted.{sum_more, sum_same}

-- how many rows are kept of a tenant
abbrev pub rows_of_tenant : State → KeptRows → ℕ → ℕ
rows_of_tenant state rows tenant = sum_by (λ base. length (rows tenant base)) (range_with_len 0 (length state.bases))

-- The rows of each table are such that may be kept, and no more than the quota; none are elsewhere.
pub record AreTables (state : State) (rows : KeptRows) : Type 0 where
  pub tables : (tenant base : ℕ) (table : TenantTable) → tenant_table state tenant base ≡ Some table → IsKeptTable (extended_columns state base table.extended) (rows tenant base)
  pub quotas : (tenant : ℕ) (entry : TenantEntry) → finite.get state.tenants tenant ≡ Some entry → rows_of_tenant state rows tenant ≤ entry.quota
  pub elsewhere : (tenant base : ℕ) → tenant_table state tenant base ≡ None → rows tenant base ≡ []

and_false : (b : Bool) → (b && false) ≡ false
and_false true = refl
and_false false = refl

-- a table without rows
empty_table : (columns : List Column) (rows : List MarkedRow) → rows ≡ [] → IsKeptTable columns rows
empty_table columns rows none = subst (IsKeptTable columns) (sym none) (record {
  whole = All-nil (λ (row : MarkedRow). length row.values ≡ length columns);
  sound = record { no_long_text = refl; no_null = refl; no_duplicate_key = and_false _ };
})

-- a tenant without tables keeps none
no_rows_kept : (rows : KeptRows) (tenant from count : ℕ) → ((base : ℕ) → rows tenant base ≡ []) → sum_by (λ base. length (rows tenant base)) (range_with_len from count) ≡ 0
no_rows_kept rows tenant from zero none = refl
no_rows_kept rows tenant from (suc count) none =
    let first : length (rows tenant from) ≡ 0 = ap length (none from) in
    let others = no_rows_kept rows tenant (from + 1) count none in
    sum_by-cons (λ base. length (rows tenant base)) from (range_with_len (from + 1) count) ∙ omega (arith, first, others)

-- a table that a tenant has
table_of : (state : State) (tenant base : ℕ) (entry : TenantEntry) (table : TenantTable) → finite.get state.tenants tenant ≡ Some entry → slice_get entry.tables base ≡ Some table → tenant_table state tenant base ≡ Some table
table_of state tenant base entry table there got = ap (table_in base) there ∙ got

past_tables : (state : State) (tenant base : ℕ) (entry : TenantEntry) → finite.get state.tenants tenant ≡ Some entry → length entry.tables ≤ base → tenant_table state tenant base ≡ None
past_tables state tenant base entry there past = ap (table_in base) there ∙ slice_get_past entry.tables base past

-- the table and the entry that the same tables have in another catalogue
module _ (state : State) (rows : KeptRows) (is : AreTables state rows) (rules : IsCatalogue state) where
  module _ (name : List ℕ) (defs : List Def) (key : List (List ℕ)) where
    abbrev made : Table
    made = defined_table name defs key

    abbrev with_made : State
    with_made = stepped state (CreateTable name defs key)

    made_side : (tenant : ℕ) (entry : TenantEntry) → finite.get state.tenants tenant ≡ Some entry → (base : ℕ) (one : TenantTable) → Side entry.tables (new_table made ∷ []) base one → IsKeptTable (extended_columns with_made base one.extended) (rows tenant base)
    made_side tenant entry there base one (stands_in_first low got) =
        let own = rules.tenants tenant entry there in
        let each = own.each_base in
        let same = columns_stay state with_made base (joined_front state.bases (made ∷ []) base (omega (arith, low, each))) (λ n extension e. e) one.extended (own.tables base one got).extended in
        subst (λ columns. IsKeptTable columns (rows tenant base)) (sym same) (is.tables tenant base one (table_of state tenant base entry one there got))
    made_side tenant entry there base one (stands_in_second j sum got) =
        empty_table (extended_columns with_made base one.extended) (rows tenant base) (is.elsewhere tenant base (past_tables state tenant base entry there (omega (arith, sum))))

    made_table : (tenant base : ℕ) (one : TenantTable) → tenant_table with_made tenant base ≡ Some one → IsKeptTable (extended_columns with_made base one.extended) (rows tenant base)
    made_table tenant base one got = by (finite.get state.tenants tenant) refl (sym (ap (table_in base) (get-in_each (with_new_table made) state.tenants tenant)) ∙ got)
      where
        by : (o : Option TenantEntry) → finite.get state.tenants tenant ≡ o → table_in base (option_map (with_new_table made) o) ≡ Some one → IsKeptTable (extended_columns with_made base one.extended) (rows tenant base)
        by None e f = absurd (cc)
        by (Some entry) e f = made_side tenant entry e base one (side entry.tables (new_table made ∷ []) base one f)

    made_quota : (tenant : ℕ) (entry : TenantEntry) → finite.get with_made.tenants tenant ≡ Some entry → rows_of_tenant with_made rows tenant ≤ entry.quota
    made_quota tenant entry got = by (finite.get state.tenants tenant) refl (sym (get-in_each (with_new_table made) state.tenants tenant) ∙ got)
      where
        by : (o : Option TenantEntry) → finite.get state.tenants tenant ≡ o → option_map (with_new_table made) o ≡ Some entry → rows_of_tenant with_made rows tenant ≤ entry.quota
        by None e f = absurd (cc)
        by (Some one) e f =
            let same : with_new_table made one ≡ entry = cc in
            let quota = ap (λ (of : TenantEntry). of.quota) same in
            let each = (rules.tenants tenant one e).each_base in
            let size = ap (λ n. sum_by (λ base. length (rows tenant base)) (range_with_len 0 n)) (length_push state.bases made) in
            let more = sum_more (λ base. length (rows tenant base)) (length state.bases) in
            let last = ap length (is.elsewhere tenant (length state.bases) (past_tables state tenant (length state.bases) one e (omega (arith, each)))) in
            let within = is.quotas tenant one e in
            omega (arith, quota, size, more, last, within)

  -- an extension more
  module _ (name base : List ℕ) (defs : List Def) where
    abbrev with_extension : State
    with_extension = stepped state (CreateExtension name base defs)

    extension_table : (tenant number : ℕ) (one : TenantTable) → tenant_table state tenant number ≡ Some one → IsKeptTable (extended_columns with_extension number one.extended) (rows tenant number)
    extension_table tenant number one got = by (finite.get state.tenants tenant) refl got
      where
        by : (o : Option TenantEntry) → finite.get state.tenants tenant ≡ o → table_in number o ≡ Some one → IsKeptTable (extended_columns with_extension number one.extended) (rows tenant number)
        by None e f = absurd (cc)
        by (Some entry) e f =
            let own = (rules.tenants tenant entry e).tables number one f in
            let same = columns_stay state with_extension number refl (λ n extension g. in_first state.extensions (defined_extension state.bases name base defs ∷ []) n extension g) one.extended own.extended in
            subst (λ columns. IsKeptTable columns (rows tenant number)) (sym same) (is.tables tenant number one got)

  -- a tenant that is put anew with the tables that it had, or with none before
  module _ (tenant : ℕ) (entry : TenantEntry) where
    abbrev put : State
    put = put_tenant state tenant entry

    put_table : ((base : ℕ) (one : TenantTable) → slice_get entry.tables base ≡ Some one → IsKeptTable (extended_columns state base one.extended) (rows tenant base))
        → (number base : ℕ) (one : TenantTable) → tenant_table put number base ≡ Some one → IsKeptTable (extended_columns put base one.extended) (rows number base)
    put_table own number base one got = ⊎_elim here (λ apart. is.tables number base one (sym (table_at state tenant entry number base apart) ∙ got)) (cases_eq number tenant)
      where
        here : number ≡ tenant → IsKeptTable (extended_columns put base one.extended) (rows number base)
        here same =
            subst (λ n. IsKeptTable (extended_columns put base one.extended) (rows n base)) (sym same)
            (own base one (sym (ap (table_in base) (ap (finite.get put.tenants) same ∙ new_tenant state tenant entry)) ∙ got))

    put_quota : rows_of_tenant state rows tenant ≤ entry.quota → (number : ℕ) (one : TenantEntry) → finite.get put.tenants number ≡ Some one → rows_of_tenant put rows number ≤ one.quota
    put_quota within number one got = ⊎_elim here (λ apart. is.quotas number one (sym (tenant_at state tenant entry number apart) ∙ got)) (cases_eq number tenant)
      where
        here : number ≡ tenant → rows_of_tenant put rows number ≤ one.quota
        here same =
            let both : Some entry ≡ Some one = sym (ap (finite.get put.tenants) same ∙ new_tenant state tenant entry) ∙ got in
            let own : entry ≡ one = cc in
            subst (λ n. rows_of_tenant put rows n ≤ one.quota) (sym same) (subst (λ (of : TenantEntry). rows_of_tenant put rows tenant ≤ of.quota) own within)

-- a row with NULLs behind it
length_nulls : (values : List Value) (count : ℕ) → length (values ++ replicate count Null) ≡ length values + count
length_nulls values count =
    let size = length-append values (replicate count Null) in
    let more = length-replicate count Null in
    omega (arith, size, more)

-- NULLs behind the rows of one table
module _ (rows : KeptRows) (tenant base count : ℕ) where
  abbrev wide : KeptRows
  wide = rows_with rows tenant base (map (with_nulls count))

  wide_there : wide tenant base ≡ map (with_nulls count) (rows tenant base)
  wide_there =
      ap (λ here. cond (here && nat_eq base base) (map (with_nulls count) (rows tenant base)) (rows tenant base)) (eq-eqb tenant tenant refl)
      ∙ ap (λ here. cond here (map (with_nulls count) (rows tenant base)) (rows tenant base)) (eq-eqb base base refl)

  wide_other : (number other : ℕ) → number ≢ tenant → wide number other ≡ rows number other
  wide_other number other apart = ap (λ here. cond (here && nat_eq other base) (map (with_nulls count) (rows number other)) (rows number other)) (ne_eqb number tenant apart)

  wide_apart : (number other : ℕ) → other ≢ base → wide number other ≡ rows number other
  wide_apart number other apart =
      ap (λ here. cond (nat_eq number tenant && here) (map (with_nulls count) (rows number other)) (rows number other)) (ne_eqb other base apart)
      ∙ ap (λ here. cond here (map (with_nulls count) (rows number other)) (rows number other)) (and_false (nat_eq number tenant))

  wide_length : (number other : ℕ) → length (wide number other) ≡ length (rows number other)
  wide_length number other = by (nat_eq number tenant && nat_eq other base)
    where
      by : (here : Bool) → length (cond here (map (with_nulls count) (rows number other)) (rows number other)) ≡ length (rows number other)
      by true = length-map (rows number other) (with_nulls count)
      by false = refl

-- The tables and the quotas of a catalogue and rows.
pub record StandSo (state : State) (rows : KeptRows) : Type 0 where
  pub tables : (tenant base : ℕ) (table : TenantTable) → tenant_table state tenant base ≡ Some table → IsKeptTable (extended_columns state base table.extended) (rows tenant base)
  pub quotas : (tenant : ℕ) (entry : TenantEntry) → finite.get state.tenants tenant ≡ Some entry → rows_of_tenant state rows tenant ≤ entry.quota

none_there : {A : Type 0} (o : Option A) → is_some o ≡ false → o ≡ None
none_there None e = refl
none_there (Some x) e = absurd (cc)

some_there : {A : Type 0} (o : Option A) → is_some o ≡ true → (x : A) × (o ≡ Some x)
some_there None e = absurd (cc)
some_there (Some x) e = (x, refl)

not_false : (b : Bool) → not b ≡ false → b ≡ true
not_false true e = refl
not_false false e = absurd (cc)

module _ (state : State) (rows : KeptRows) (is : AreTables state rows) (rules : IsCatalogue state) where
  -- a new tenant
  stand_tenant : (tenant quota : ℕ) → first_holding (tenant_tests state tenant quota) ≡ None → StandSo (stepped state (CreateTenant tenant quota)) rows
  stand_tenant tenant quota accepted =
      let none = none_there (finite.get state.tenants tenant) (none_holds (tenant_tests state tenant quota) accepted).0 in
      let nothing : (base : ℕ) → rows tenant base ≡ [] = λ base. is.elsewhere tenant base (ap (table_in base) none) in
      let entry : TenantEntry = record { quota = quota; tables = map new_table state.bases } in
      let zero_rows = no_rows_kept rows tenant 0 (length state.bases) nothing in
      record {
        tables = put_table state rows is rules tenant entry (λ base one got. empty_table (extended_columns state base one.extended) (rows tenant base) (nothing base));
        quotas = put_quota state rows is rules tenant entry (omega (arith, zero_rows));
      }

  -- another quota
  stand_quota : (kept tenant quota : ℕ) → first_holding (quota_tests state kept tenant quota) ≡ None → kept ≡ rows_of_tenant state rows tenant → StandSo (stepped state (SetQuota tenant quota)) rows
  stand_quota kept tenant quota accepted count =
      let fails = none_holds (quota_tests state kept tenant quota) accepted in
      let there = some_there (finite.get state.tenants tenant) (not_false _ fails.0) in
      let within = ltb-false quota kept fails.1.1.0 in
      let entry : TenantEntry = record { quota = quota; tables = there.0.tables } in
      subst (λ s. StandSo s rows) (sym (with_tenant_there state tenant (λ e. record { quota = quota; tables = e.tables }) there.0 there.1))
      (record {
        tables = put_table state rows is rules tenant entry (λ base one got. is.tables tenant base one (table_of state tenant base there.0 one there.1 got));
        quotas = put_quota state rows is rules tenant entry (omega (arith, within, count));
      })

  -- an extension of a tenant's table
  module _ (tenant : ℕ) (name : List ℕ) (can : CanExtend state tenant name) where
    abbrev base : ℕ
    base = can.extension.base

    abbrev added : List Column
    added = can.extension.columns

    abbrev entry : TenantEntry
    entry = entry_after state rules tenant name can

    abbrev wider : TenantTable
    wider = table_after state rules tenant name can

    abbrev after : State
    after = put_tenant state tenant entry

    abbrev wide_rows : KeptRows
    wide_rows = wide rows tenant base (length added)

    abbrev columns : List Column
    columns = extended_columns state base can.table.extended

    columns_are : extended_columns after base wider.extended ≡ columns ++ added
    columns_are =
        let own : List Column = base_columns (slice_get state.bases base) in
        let behind : List Column = flat_map (λ number. extension_columns (slice_get state.extensions number)) can.table.extended in
        ap (λ some. own ++ some) (sym (flat_map_more (λ number. extension_columns (slice_get state.extensions number)) [] can.table.extended can.number))
        ∙ sym (append_assoc own behind (extension_columns (slice_get state.extensions can.number)))
        ∙ ap (λ of. columns ++ extension_columns of) can.extension_is

    plain : All IsPlain added
    plain = (member_keeps (IsExtension state) state.extensions can.number can.extension rules.extensions can.extension_is).plain

    wide_table : IsKeptTable (columns ++ added) (map (with_nulls (length added)) (rows tenant base))
    wide_table =
        let kept = is.tables tenant base can.table (table_of state tenant base can.entry can.table can.entry_is can.table_is) in
        let longer : (row : MarkedRow) → length row.values ≡ length columns → length (with_nulls (length added) row).values ≡ length (columns ++ added) =
        λ row same. length_nulls row.values (length added) ∙ (let size = length-append columns added in omega (arith, size, same)) in
        record {
          whole = All-map (λ (row : MarkedRow). length row.values ≡ length (columns ++ added)) (with_nulls (length added)) (rows tenant base)
              (All-weaker (λ (row : MarkedRow). length row.values ≡ length columns) (λ row. length (with_nulls (length added) row).values ≡ length (columns ++ added)) longer (rows tenant base) kept.whole);
          sound = sound-widened columns added (rows tenant base) kept.whole plain kept.sound;
        }

    own_table : (number : ℕ) (one : TenantTable) → slice_get entry.tables number ≡ Some one → IsKeptTable (extended_columns after number one.extended) (wide_rows tenant number)
    own_table number one got = ⊎_elim at_base
        (λ apart. subst (IsKeptTable (extended_columns after number one.extended)) (sym (wide_apart rows tenant base (length added) tenant number apart))
        (is.tables tenant number one (table_of state tenant number can.entry one can.entry_is (sym (changed_elsewhere can.entry.tables base wider number apart) ∙ got))))
        (cases_eq number base)
      where
        at_base : number ≡ base → IsKeptTable (extended_columns after number one.extended) (wide_rows tenant number)
        at_base same =
            let both : Some wider ≡ Some one = sym (changed_there can.entry.tables base wider can.table can.table_is) ∙ sym (ap (slice_get entry.tables) same) ∙ got in
            let own : wider ≡ one = cc in
            subst (λ n. IsKeptTable (extended_columns after n one.extended) (wide_rows tenant n)) (sym same)
            (subst (λ (of : TenantTable). IsKeptTable (extended_columns after base of.extended) (wide_rows tenant base)) own
            (subst (λ of. IsKeptTable of (wide_rows tenant base)) (sym columns_are)
            (subst (IsKeptTable (columns ++ added)) (sym (wide_there rows tenant base (length added))) wide_table)))

    stand_wide : StandSo after wide_rows
    stand_wide = record {
      tables = λ number at one got. ⊎_elim
          (λ same. subst (λ n. IsKeptTable (extended_columns after at one.extended) (wide_rows n at)) (sym same)
          (own_table at one (sym (ap (table_in at) (ap (finite.get after.tenants) same ∙ new_tenant state tenant entry)) ∙ got)))
          (λ apart. subst (IsKeptTable (extended_columns after at one.extended)) (sym (wide_other rows tenant base (length added) number at apart))
          (is.tables number at one (sym (table_at state tenant entry number at apart) ∙ got)))
          (cases_eq number tenant);
      quotas = λ number one got.
          subst (λ n. n ≤ one.quota) (sum_same (λ b. length (rows number b)) (λ b. length (wide_rows number b)) 0 (length state.bases) (λ b above. sym (wide_length rows tenant base (length added) number b)))
          (put_quota state rows is rules tenant entry (is.quotas tenant can.entry can.entry_is) number one got);
    }

    named_there : numbered_extension state.extensions name ≡ Some (can.number, can.extension)
    named_there =
        ap (λ (o : Option ℕ). elim o as (λ _. Option (ℕ × Extension)) [ None ↦ None | Some number ↦ option_map (λ (extension : Extension). (number, extension)) (slice_get state.extensions number) ]) can.number_is
        ∙ ap (option_map (λ (extension : Extension). (can.number, extension))) can.extension_is

    stand_extended : StandSo (stepped state (Extend tenant name)) (rows_after state (Extend tenant name) rows)
    stand_extended =
        subst (λ s. StandSo s (rows_after state (Extend tenant name) rows)) (sym (stepped_is state rules tenant name can))
        (subst (λ found. StandSo after (rows_extended rows tenant found)) (sym named_there) stand_wide)

  -- any step that is not refused
  pub stand_after : (kept : ℕ) (step : AdminCmd) → IsWellFormed step → step_refusal state (λ tenant. kept) step ≡ None → kept ≡ rows_of_tenant state rows (named_tenant step) → StandSo (stepped state step) (rows_after state step rows)
  stand_after kept (CreateTable name defs key) formed accepted count = record { tables = made_table state rows is rules name defs key; quotas = made_quota state rows is rules name defs key }
  stand_after kept (CreateExtension name base defs) formed accepted count = record { tables = extension_table state rows is rules name base defs; quotas = is.quotas }
  stand_after kept (CreateTenant tenant quota) formed accepted count = stand_tenant tenant quota accepted
  stand_after kept (Extend tenant name) formed accepted count = stand_extended tenant name (can_extend state tenant name accepted)
  stand_after kept (SetQuota tenant quota) formed accepted count = stand_quota kept tenant quota accepted count
  stand_after kept command formed accepted count = absurd formed
