-- What a schema step is answered, and what is kept then.
use Rattle.std.proofs.Common.{◌≡◌, inl, inr, ℕ, ◌≤◌, Bool, true, Option, None, Some, List, [], ◌∷◌, length, codes, refl, sym, ap, ◌∙◌, subst}
use Rattle.mt_tree.specs.declared.code.Code.{Code}
use Rattle.mt_tree.specs.declared.code.Code.TheVariants.{UnknownName}
use Rattle.mt_tree.specs.declared.command.AdminCmd.{AdminCmd}
use Rattle.mt_tree.specs.declared.command.AdminCmd.TheVariants.{CreateTable, CreateExtension, CreateTenant, Extend, SetQuota}
use Rattle.mt_tree.specs.declared.reply.Reply.TheVariants.{Memory, Refused, Text}
use Rattle.mt_catalog.specs.declared.state.Extension.{Extension}
use Rattle.mt_catalog.specs.State.{State, extended_columns, tenant_table}
use Rattle.mt_schema.specs.Refusals.{extend_tests, extended_tests, extension_named, step_refusal, step_tests}
use Rattle.mt_schema.specs.Steps.{IsWellFormed, stepped}
use Rattle.mt_model.specs.Command.{applied, command_refusal}
use Rattle.mt_model.specs.Parts.{ConsistsOf, KeptRows, named_tenant, rows_after}
use Rattle.mt_model.specs.Request.{Command}
use Rattle.mt_model.specs.Run.{YieldsToMemory}
use Rattle.mt_model.specs.Said.{Outside, Said, Says, Unread, Unserved}
use Rattle.mt_model.specs.Service.{Service, catalogue_of, kept_of}
use Rattle.mt_model.specs.Step.{Stepped, command_said, command_step, refused}
use Rattle.mt_private.specs.Kept.{AreKept, IsKeptTable, TableRows, rows_in}
use Rattle.mt_private.specs.Outcome.{ComesTo, IsAnswered}
use Rattle.mt_private.specs.Seen.{KeepsRows}
use Rattle.mt_private.specs.Stepped.{IsMade}
use Rattle.mt_private.proofs.Commands.{TellsKept}
use Rattle.mt_private.proofs.Counted.{sum_same}
use Rattle.mt_private.proofs.Forgone.{EachYields, reply_of, tests_yield}
use Rattle.mt_private.proofs.Keeping.{consists_same, kept_same}
use Rattle.mt_private.proofs.Stepped.{AreTables, StandSo, stand_after}

-- the parts of a service tell why a command is refused
abbrev pub TellsRefusals : Type 0
TellsRefusals = (service : Service) (state : State) (rows : KeptRows) (command : AdminCmd) (kept : ℕ) → ConsistsOf service state rows → kept ≡ kept_of service (named_tenant command) → command_refusal service command ≡ step_refusal state (λ tenant. kept) command

-- and a step that is not refused makes of them what it makes of them alone
abbrev pub KeepsParts : Type 0
KeepsParts = (service : Service) (state : State) (rows : KeptRows) (command : AdminCmd) → ConsistsOf service state rows → command_refusal service command ≡ None → ConsistsOf (applied service command) (stepped state command) (rows_after state command rows)

-- want of memory may be answered in the place of each reply to a command
extended_yield : (state : State) (tenant : ℕ) (extension : Extension) → EachYields (extend_tests state tenant (Some extension))
extended_yield state tenant extension =
    elim (tenant_table state tenant extension.base) as (λ found. EachYields (elim found as (λ _. List (Code × Bool)) [ None ↦ (UnknownName, true) ∷ [] | Some table ↦ extended_tests state extension.base extension.columns table ])) [
      | None ↦ (tt, tt)
      | Some table ↦ (tt, (tt, (tt, (tt, tt))))
    ]

extend_yield : (state : State) (tenant : ℕ) (found : Option Extension) → EachYields (extend_tests state tenant found)
extend_yield state tenant None = (tt, tt)
extend_yield state tenant (Some extension) = extended_yield state tenant extension

step_tests_yield : (state : State) (kept : ℕ → ℕ) (command : AdminCmd) → EachYields (step_tests state kept command)
step_tests_yield state kept (CreateTable name defs key) = (tt, (tt, (tt, (tt, tt))))
step_tests_yield state kept (CreateExtension name base defs) = (tt, (tt, (tt, (tt, tt))))
step_tests_yield state kept (CreateTenant tenant quota) = (tt, (tt, (tt, tt)))
step_tests_yield state kept (Extend tenant name) = extend_yield state tenant (extension_named state name)
step_tests_yield state kept (SetQuota tenant quota) = (tt, (tt, (tt, (tt, tt))))
step_tests_yield state kept command = tt

-- the step of a command by its refusal
abbrev by_refusal : Service → AdminCmd → Option Code → Stepped
by_refusal service command refusal = elim refusal as (λ _. Stepped) [ None ↦ record { reply = Text (codes "ok\n"); next = applied service command } | Some code ↦ refused service code ]

step_yields : (service : Service) (command : AdminCmd) → YieldsToMemory (command_step service command).reply
step_yields service command = by (command_refusal service command) (tests_yield (step_tests (catalogue_of service) (kept_of service) command) (codes "ok\n") (step_tests_yield (catalogue_of service) (kept_of service) command))
  where
    by : (refusal : Option Code) → YieldsToMemory (reply_of (codes "ok\n") refusal) → YieldsToMemory (by_refusal service command refusal).reply
    by None yields = yields
    by (Some code) yields = yields

-- want of memory changes nothing
pub step_forgone : (state : State) (entries left : TableRows) (step : AdminCmd) → KeepsRows entries left → IsAnswered state state entries left (Command (Says step)) Memory
step_forgone state entries left step same service kept =
    (service, inr (record { reply_is = refl; next_is = refl; yields = step_yields service step }), kept_same state entries left service same kept)

module _ (tells_kept : TellsKept) (tells : TellsRefusals) (state : State) (entries : TableRows) (step : AdminCmd) (count : ℕ) (counts : (service : Service) → AreKept state entries service → count ≡ kept_of service (named_tenant step)) where
  refusal_is : (service : Service) → AreKept state entries service → command_refusal service step ≡ step_refusal state (λ tenant. count) step
  refusal_is service kept = tells service state (rows_in entries) step count kept.consists (counts service kept)

  -- a step that is refused
  pub step_refused : (left : TableRows) (code : Code) → step_refusal state (λ tenant. count) step ≡ Some code → KeepsRows entries left → IsAnswered state state entries left (Command (Says step)) (Refused code)
  step_refused left code is same service kept =
      let refusal = refusal_is service kept ∙ is in (
        service,
        inl (record {
          reply_is = sym (ap (λ found. (by_refusal service step found).reply) refusal);
          next_is = sym (ap (λ found. (by_refusal service step found).next) refusal);
        }),
        kept_same state entries left service same kept,
      )

  -- and one that is made
  module _ (keeps : KeepsParts) (formed : IsWellFormed step) (after : State) (left : TableRows) (made : IsMade state count step after entries left) (service : Service) (kept : AreKept state entries service) where
    accepted : command_refusal service step ≡ None
    accepted = refusal_is service kept ∙ made.accepted

    tables : AreTables state (rows_in entries)
    tables = record { tables = kept.tables; quotas = kept.quotas; elsewhere = kept.consists.elsewhere }

    stands : StandSo after (rows_after state step (rows_in entries))
    stands =
        subst (λ s. StandSo s (rows_after state step (rows_in entries))) (sym made.next_is)
        (stand_after state (rows_in entries) tables kept.rules count step formed made.accepted (counts service kept ∙ tells_kept service state (rows_in entries) (named_tenant step) kept.consists))

    kept_after : AreKept after left (applied service step)
    kept_after = record {
      rules = made.rules;
      consists = consists_same (applied service step) after (rows_after state step (rows_in entries)) (rows_in left) made.rows
          (subst (λ s. ConsistsOf (applied service step) s (rows_after state step (rows_in entries))) (sym made.next_is) (keeps service state (rows_in entries) step kept.consists accepted));
      tables = λ tenant base table there. subst (IsKeptTable (extended_columns after base table.extended)) (sym (made.rows tenant base)) (stands.tables tenant base table there);
      quotas = λ tenant entry there.
          subst (λ n. n ≤ entry.quota) (sum_same (λ base. length (rows_after state step (rows_in entries) tenant base)) (λ base. length (rows_in left tenant base)) 0 (length after.bases) (λ base above. ap length (sym (made.rows tenant base))))
          (stands.quotas tenant entry there);
    }

    pub step_made : (next : Service) × ComesTo service (Command (Says step)) (Text (codes "ok\n")) next × AreKept after left next
    step_made = (
      applied service step,
      inl (record {
        reply_is = sym (ap (λ found. (by_refusal service step found).reply) accepted);
        next_is = sym (ap (λ found. (by_refusal service step found).next) accepted);
      }),
      kept_after,
    )

-- and in the place of each to the administrator's line
pub said_yields : (service : Service) (said : Said AdminCmd) → YieldsToMemory (command_said service said).reply
said_yields service Unread = tt
said_yields service Outside = tt
said_yields service Unserved = tt
said_yields service (Says command) = step_yields service command
