-- What the text says is answered by the tenant's database, if there is one.
use Rattle.std.proofs.Common.{◌≡◌, Bor, true, false, not, Option, None, Some, Result, Ok, Err, List, ℕ, refl, sym, ap, ◌∙◌, subst}
use Rattle.std.specs.Prelude.{is_some}
use Rattle.std.specs.FinMap as finite
use Rattle.std.specs.Option.{option_copied}
use Rattle.mt_tree.specs.declared.code.Code.TheVariants as code
use Rattle.mt_tree.specs.declared.reply.Reply.TheVariants.{Refused}
use Rattle.mt_tree.specs.declared.simple.SimpleStmt.{SimpleStmt}
use Rattle.mt_tree.specs.declared.simple.SimpleStmt.TheVariants.{Insert, Select}
use Rattle.mt_catalog.specs.declared.state.TenantEntry.{TenantEntry}
use Rattle.mt_model.specs.Said.{IsStatementSaid, Outside, Says, Unread, Unserved}
use Rattle.mt_private.specs.declared.said.ServeFault.{ServeFault}
use Rattle.mt_private.specs.declared.said.ServeFault.TheVariants as fault
use Rattle.mt_private.specs.Serving.{ServesAs}
use Rattle.mt_private.proofs.Keeping.{forgone, unchanged, unknown}
use Rattle.mt_private.proofs.statement.statement.Goals as goal

-- an entry that was found
entry_of : (found : Option (Bor TenantEntry)) (kept : Option TenantEntry) → option_copied found ≡ kept → is_some found ≡ true → (entry : TenantEntry) × (kept ≡ Some entry)
entry_of None kept same some = absurd (cc)
entry_of (Some entry) kept same some = (entry.now, sym same)

none_of : (found : Option (Bor TenantEntry)) (kept : Option TenantEntry) → option_copied found ≡ kept → is_some found ≡ false → kept ≡ None
none_of None kept same none = sym same
none_of (Some entry) kept same none = absurd (cc)

-- what was said, of the case that was met
said_by : (text : List ℕ) (found result : Result SimpleStmt ServeFault) → found ≡ result → ServesAs (λ said. IsStatementSaid text said) found → ServesAs (λ said. IsStatementSaid text said) result
said_by text found result is says = subst (ServesAs (λ said. IsStatementSaid text said)) is says

pub returns-then-is_none : goal.returns-then-is_none
returns-then-is_none c =
    let said = c.each_text_says_something.ensures.statement c.args.text.now in (
      said.0,
      said.1,
      unknown c.parts_tell_the_service.ensures.databases c.args.catalog.now c.args.rows.now.entries c.args.tenant
          (none_of c.tenant_of.result (finite.get c.args.catalog.now.tenants c.args.tenant) c.tenant_of.ensures (c.is_none.ensures ∙ ap not c.if-is_none.true)) said.0,
    )

pub returns-in-Ok-Insert : goal.returns-in-Ok-Insert
returns-in-Ok-Insert c = (
  Says (Insert c.in-Ok-Insert.table c.in-Ok-Insert.values),
  said_by c.args.text.now (Ok c.in-Ok-Insert.field-0) (Ok (Insert c.in-Ok-Insert.table c.in-Ok-Insert.values)) (ap Ok c.in-Ok-Insert.field-0-is) c.in-Ok-Insert.ensures,
  c.insert.ensures,
)

pub returns-in-Ok-Select : goal.returns-in-Ok-Select
returns-in-Ok-Select c = (
  Says (Select c.in-Ok-Select.table c.in-Ok-Select.columns),
  said_by c.args.text.now (Ok c.in-Ok-Select.field-0) (Ok (Select c.in-Ok-Select.table c.in-Ok-Select.columns)) (ap Ok c.in-Ok-Select.field-0-is) c.in-Ok-Select.ensures,
  c.select.ensures,
)

pub returns-in-Err-Unread : goal.returns-in-Err-Unread
returns-in-Err-Unread c =
    let kept = entry_of c.tenant_of.result (finite.get c.args.catalog.now.tenants c.args.tenant) c.tenant_of.ensures (c.is_none.ensures ∙ ap not c.if-is_none.false) in (
      Unread,
      said_by c.args.text.now (Err c.in-Err-Unread.field-0) (Err fault.Unread) (ap Err c.in-Err-Unread.field-0-is) c.in-Err-Unread.ensures,
      unchanged c.parts_tell_the_service.ensures.databases c.args.catalog.now c.args.rows.now.entries c.args.tenant kept.0 kept.1 Unread (Refused code.Syntax) refl refl,
    )

pub returns-in-Err-Outside : goal.returns-in-Err-Outside
returns-in-Err-Outside c =
    let kept = entry_of c.tenant_of.result (finite.get c.args.catalog.now.tenants c.args.tenant) c.tenant_of.ensures (c.is_none.ensures ∙ ap not c.if-is_none.false) in (
      Outside,
      said_by c.args.text.now (Err c.in-Err-Outside.field-0) (Err fault.Outside) (ap Err c.in-Err-Outside.field-0-is) c.in-Err-Outside.ensures,
      unchanged c.parts_tell_the_service.ensures.databases c.args.catalog.now c.args.rows.now.entries c.args.tenant kept.0 kept.1 Outside (Refused code.NumberOutside64Bits) refl refl,
    )

pub returns-in-Err-Unserved : goal.returns-in-Err-Unserved
returns-in-Err-Unserved c =
    let kept = entry_of c.tenant_of.result (finite.get c.args.catalog.now.tenants c.args.tenant) c.tenant_of.ensures (c.is_none.ensures ∙ ap not c.if-is_none.false) in (
      Unserved,
      said_by c.args.text.now (Err c.in-Err-Unserved.field-0) (Err fault.Unserved) (ap Err c.in-Err-Unserved.field-0-is) c.in-Err-Unserved.ensures,
      unchanged c.parts_tell_the_service.ensures.databases c.args.catalog.now c.args.rows.now.entries c.args.tenant kept.0 kept.1 Unserved (Refused code.NotServed) refl refl,
    )

pub returns-in-Err-Memory : goal.returns-in-Err-Memory
returns-in-Err-Memory c =
    let said = c.each_text_says_something.ensures.statement c.args.text.now in
    let kept = entry_of c.tenant_of.result (finite.get c.args.catalog.now.tenants c.args.tenant) c.tenant_of.ensures (c.is_none.ensures ∙ ap not c.if-is_none.false) in
    (said.0, said.1, forgone c.parts_tell_the_service.ensures.databases c.args.catalog.now c.args.rows.now.entries c.args.tenant kept.0 kept.1 c.args.rows.now.entries said.0 (λ tenant base. refl))
