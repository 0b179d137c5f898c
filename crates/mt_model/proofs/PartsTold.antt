-- What a service consists of tells its databases, its counts and its refusals.
use Rattle.std.proofs.Common.{◌≡◌, ℕ, zero, suc, ◌+◌, List, [], ◌∷◌, length, map, Option, Some, None, refl, sym, ap, ◌∙◌, arith, sum_by}
use Rattle.std.specs.Prelude.{option_map, slice_get}
use Rattle.std.specs.List.{range_with_len}
use Rattle.std.specs.FinMap as finite
use Rattle.std.proofs.lemmas.List.Sums.{sum_by-cons}
use Rattle.mt_tree.specs.declared.command.AdminCmd.{AdminCmd}
use Rattle.mt_tree.specs.declared.command.AdminCmd.TheVariants.{SetQuota}
use Rattle.mt_fold.specs.declared.fold.Placement.{Placement}
use Rattle.mt_catalog.specs.State.{State, table_in}
use Rattle.mt_schema.specs.Refusals.{first_holding, quota_tests, step_refusal}
use Rattle.mt_schema.proofs.Maps.{get-in_each}
use Rattle.mt_model.specs.Command.{command_refusal}
use Rattle.mt_model.specs.Database.{Content, MarkedRow, PrivateDatabase, SavedContent, TableContent}
use Rattle.mt_model.specs.Parts.{ConsistsOf, HoldsRows, KeptRows, contents_from, database_of, named_tenant}
use Rattle.mt_model.specs.Service.{HasEach, Service, Tenant, catalogue_of, entry_of, entry_tables, kept_of}

-- The contents of tables hold these rows, from that number on.
abbrev pub HoldFrom : (ℕ → List MarkedRow) → ℕ → Content → Type 0
HoldFrom rows from contents = (base : ℕ) (content : TableContent) → slice_get contents base ≡ Some content → content.rows ≡ rows (from + base)

-- so do those behind the first
hold-behind : (rows : ℕ → List MarkedRow) (from : ℕ) (content : TableContent) (contents : Content) → HoldFrom rows from (content ∷ contents) → HoldFrom rows (from + 1) contents
hold-behind rows from content contents hold base other there =
    let same : from + suc base ≡ from + 1 + base = omega arith in
    hold (suc base) other there ∙ ap rows same

hold-first : (rows : ℕ → List MarkedRow) (from : ℕ) (content : TableContent) (contents : Content) → HoldFrom rows from (content ∷ contents) → content.rows ≡ rows from
hold-first rows from content contents hold =
    let same : from + 0 ≡ from = omega arith in
    hold zero content refl ∙ ap rows same

hold-all : (rows : ℕ → List MarkedRow) (database : PrivateDatabase) → HoldsRows rows database → HoldFrom rows 0 database.current
hold-all rows database holds base content there =
    let same : base ≡ 0 + base = omega arith in
    holds.rows_are base content there ∙ ap rows same

-- the extensions of each table, as the catalogue keeps them
extended-told : (contents : Content) (extended : List (List ℕ)) (placements : List Placement) → length extended ≡ length contents → length placements ≡ length contents → map (λ table. table.extended) (entry_tables contents extended placements) ≡ extended
extended-told [] [] placements e f = refl
extended-told [] (n ∷ ns) placements e f = absurd (omega (arith, e))
extended-told (c ∷ cs) [] placements e f = absurd (omega (arith, e))
extended-told (c ∷ cs) (n ∷ ns) [] e f = absurd (omega (arith, f))
extended-told (c ∷ cs) (n ∷ ns) (p ∷ ps) e f = ap (λ (others : List (List ℕ)). n ∷ others) (extended-told cs ns ps (omega (arith, e)) (omega (arith, f)))

-- what a table holds of which so many rows were made
abbrev content_with : ℕ → List MarkedRow → TableContent
content_with made rows = record { made = made; rows = rows }

-- what each table holds, by the catalogue's count and the rows
contents-told : (rows : ℕ → List MarkedRow) (from : ℕ) (contents : Content) (extended : List (List ℕ)) (placements : List Placement) → length extended ≡ length contents → length placements ≡ length contents →
    HoldFrom rows from contents → contents_from rows from (entry_tables contents extended placements) ≡ contents
contents-told rows from [] extended placements e f hold = refl
contents-told rows from (c ∷ cs) [] placements e f hold = absurd (omega (arith, e))
contents-told rows from (c ∷ cs) (n ∷ ns) [] e f hold = absurd (omega (arith, f))
contents-told rows from (c ∷ cs) (n ∷ ns) (p ∷ ps) e f hold =
    ap (λ (others : Content). content_with c.made (rows from) ∷ others)
    (contents-told rows (from + 1) cs ns ps (omega (arith, e)) (omega (arith, f)) (hold-behind rows from c cs hold))
    ∙ ap (λ (first : List MarkedRow). content_with c.made first ∷ cs) (sym (hold-first rows from c cs hold))

abbrev database_with : ℕ → List (List ℕ) → Content → Option SavedContent → PrivateDatabase
database_with quota extended current saved = record { quota = quota; extended = extended; current = current; saved = saved }

-- a tenant's database
database-told : (rows : ℕ → List MarkedRow) (count : ℕ) (tenant : Tenant) → HasEach count tenant → HoldsRows rows tenant.database → tenant.database ≡ database_of rows (entry_of tenant)
database-told rows count tenant each holds =
    let database : PrivateDatabase = tenant.database in
    let numbers : length database.extended ≡ length database.current = each.extended ∙ sym each.current in
    let placed : length tenant.placements ≡ length database.current = each.placements ∙ sym each.current in
    ap (database_with database.quota database.extended database.current) holds.none_open
    ∙ ap (λ (extended : List (List ℕ)). database_with database.quota extended database.current None) (sym (extended-told database.current database.extended tenant.placements numbers placed))
    ∙ ap (λ (current : Content). database_with database.quota (map (λ table. table.extended) (entry_of tenant).tables) current None)
    (sym (contents-told rows 0 database.current database.extended tenant.placements numbers placed (hold-all rows database holds)))

-- what the catalogue keeps of a tenant of the service
pub entry-told : (service : Service) (state : State) (number : ℕ) → catalogue_of service ≡ state → finite.get state.tenants number ≡ option_map entry_of (finite.get service.tenants number)
entry-told service state number catalogue = sym (ap (λ (state : State). finite.get state.tenants number) catalogue) ∙ get-in_each entry_of service.tenants number

-- each tenant's database
pub databases-told : (service : Service) (state : State) (rows : KeptRows) (number : ℕ) → ConsistsOf service state rows →
    option_map (λ tenant. tenant.database) (finite.get service.tenants number) ≡ option_map (database_of (rows number)) (finite.get state.tenants number)
databases-told service state rows number parts = by (finite.get service.tenants number) refl ∙ sym (ap (option_map (database_of (rows number))) (entry-told service state number parts.catalogue))
  where
    by : (kept : Option Tenant) → finite.get service.tenants number ≡ kept → option_map (λ tenant. tenant.database) kept ≡ option_map (database_of (rows number)) (option_map entry_of kept)
    by None e = refl
    by (Some kept) e = ap Some (database-told (rows number) (length service.tables) kept (parts.in_step number kept e) (parts.databases number kept e))

-- how many rows the tables hold together
rows-told : (rows : ℕ → List MarkedRow) (from : ℕ) (contents : Content) → HoldFrom rows from contents → sum_by (λ table. length table.rows) contents ≡ sum_by (λ base. length (rows base)) (range_with_len from (length contents))
rows-told rows from [] hold = refl
rows-told rows from (c ∷ cs) hold =
    let first : length c.rows ≡ length (rows from) = ap length (hold-first rows from c cs hold) in
    let others = rows-told rows (from + 1) cs (hold-behind rows from c cs hold) in
    sum_by-cons (λ (table : TableContent). length table.rows) c cs
    ∙ omega (arith, first, others)
    ∙ sym (sum_by-cons (λ (base : ℕ). length (rows base)) from (range_with_len (from + 1) (length cs)))

-- no table has a row
none-kept : (rows : ℕ → List MarkedRow) (from count : ℕ) → ((base : ℕ) → rows base ≡ []) → 0 ≡ sum_by (λ base. length (rows base)) (range_with_len from count)
none-kept rows from zero none = refl
none-kept rows from (suc count) none =
    let first : length (rows from) ≡ 0 = ap length (none from) in
    let others = none-kept rows (from + 1) count none in
    omega (arith, first, others) ∙ sym (sum_by-cons (λ (base : ℕ). length (rows base)) from (range_with_len (from + 1) count))

-- how many rows are kept of a tenant
pub kept-told : (service : Service) (state : State) (rows : KeptRows) (number : ℕ) → ConsistsOf service state rows → kept_of service number ≡ sum_by (λ base. length (rows number base)) (range_with_len 0 (length state.bases))
kept-told service state rows number parts = by (finite.get service.tenants number) refl
  where
    kept_in : Option Tenant → ℕ
    kept_in found = elim found [ None ↦ 0 | Some kept ↦ sum_by (λ table. length table.rows) kept.database.current ]

    bases : length service.tables ≡ length state.bases
    bases = ap (λ (state : State). length state.bases) parts.catalogue

    by : (kept : Option Tenant) → finite.get service.tenants number ≡ kept → kept_in kept ≡ sum_by (λ base. length (rows number base)) (range_with_len 0 (length state.bases))
    by None e = none-kept (rows number) 0 (length state.bases) (λ base. parts.elsewhere number base (ap (table_in base) (entry-told service state number parts.catalogue ∙ ap (option_map entry_of) e)))
    by (Some kept) e =
        rows-told (rows number) 0 kept.database.current (hold-all (rows number) kept.database (parts.databases number kept e))
        ∙ ap (λ (count : ℕ). sum_by (λ base. length (rows number base)) (range_with_len 0 count)) ((parts.in_step number kept e).current ∙ bases)

-- why a command is refused
pub refusals-told : (service : Service) (state : State) (rows : KeptRows) (command : AdminCmd) (kept : ℕ) → ConsistsOf service state rows → kept ≡ kept_of service (named_tenant command) →
    command_refusal service command ≡ step_refusal state (λ tenant. kept) command
refusals-told service state rows command kept parts e = ap (λ (state : State). step_refusal state (kept_of service) command) parts.catalogue ∙ by command e
  where
    by : (command : AdminCmd) → kept ≡ kept_of service (named_tenant command) → step_refusal state (kept_of service) command ≡ step_refusal state (λ tenant. kept) command
    by (SetQuota tenant quota) same = ap (λ (kept : ℕ). first_holding (quota_tests state kept tenant quota)) (sym same)
    by command same = refl
