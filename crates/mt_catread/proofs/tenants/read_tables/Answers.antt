-- One table more was found.
use Rattle.std.proofs.Common.{◌≡◌, ℕ, ◌∙◌, List, [], ◌∷◌, ◌++◌, length, Some, sym, ap, subst, arith}
use Rattle.std.specs.Prelude.{slice_get}
use Rattle.std.proofs.lemmas.List.{length-append}
use Rattle.mt_catalog.specs.declared.state.TenantTable.{TenantTable}
use Rattle.mt_catalog.specs.Found.{IsFoundTable}
use Rattle.mt_catalog.specs.Keyed.{slot_in}
use Rattle.mt_catalog.proofs.Runs.{run_pushed}
use Rattle.mt_catread.proofs.tenants.read_tables.Goals as goal

pub loop-base-preserved : goal.loop-base-preserved
loop-base-preserved c =
    let tables : List TenantTable = c.loop-base.tables in
    let made : TenantTable = c.in_ok-table.table in
    let pushed : c.push.new.self ≡ tables ++ made ∷ [] = c.in_ok-push.ensures.ok in
    let stands : ℕ → TenantTable → Type 0 = IsFoundTable (slot_in c.args.slots.now.entries) c.args.bases.now c.args.extensions.now c.args.tenant in
    record {
      size = ap length pushed ∙ omega (arith, length-append tables (made ∷ []), c.loop-base.invariant.size);
      each = λ n table is. run_pushed stands tables made c.loop-base.invariant.each
          (subst (λ (n : ℕ). stands n made) (sym c.loop-base.invariant.size) c.in_ok-table.ensures.ok) n table (subst (λ (of : List TenantTable). slice_get of n ≡ Some table) pushed is);
    }
