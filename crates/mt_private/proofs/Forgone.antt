-- Want of memory may be answered in the place of each reply to a tenant that is there.
use Rattle.std.proofs.Common.{ℕ, Bool, true, false, Option, Some, None, List, [], ◌∷◌}
use Rattle.mt_tree.specs.declared.code.Code.{Code}
use Rattle.mt_tree.specs.declared.code.Code.TheVariants.{UnknownTable}
use Rattle.mt_tree.specs.declared.reply.Reply.{Reply}
use Rattle.mt_tree.specs.declared.reply.Reply.TheVariants.{Text, Refused}
use Rattle.mt_tree.specs.declared.simple.SimpleStmt.{SimpleStmt}
use Rattle.mt_tree.specs.declared.simple.SimpleStmt.TheVariants.{Insert, Select}
use Rattle.mt_schema.specs.Refusals.{first_holding}
use Rattle.mt_schema.specs.Steps.{table_number}
use Rattle.mt_model.specs.Answer.{answer_said, first_refusal, reply_text, table_of, tests_at, tests_of}
use Rattle.mt_model.specs.Database.{PrivateDatabase}
use Rattle.mt_model.specs.Run.{YieldsToMemory}
use Rattle.mt_model.specs.Said.{Said, Unread, Outside, Unserved, Says}
use Rattle.mt_model.specs.Service.{View}

-- each code of the tests yields
abbrev pub EachYields : List (Code × Bool) → Type 0
EachYields [] = Unit {0}
EachYields (test ∷ tests) = YieldsToMemory (Refused test.0) × EachYields tests

-- what a refusal or none is answered
abbrev pub reply_of : List ℕ → Option Code → Reply
reply_of text None = Text text
reply_of text (Some code) = Refused code

-- so the first refusal does, or the reply where there is none
pub tests_yield : (tests : List (Code × Bool)) (text : List ℕ) → EachYields tests → YieldsToMemory (reply_of text (first_holding tests))
tests_yield [] text each = tt
tests_yield ((code, true) ∷ tests) text each = each.0
tests_yield ((code, false) ∷ tests) text each = tests_yield tests text each.1

tests_at_yield : (view : View) (database : PrivateDatabase) (statement : SimpleStmt) (number : ℕ) → EachYields (tests_at view database statement number)
tests_at_yield view database (Insert table values) number = (tt, (tt, (tt, (tt, (tt, (tt, tt))))))
tests_at_yield view database (Select table names) number = (tt, tt)

tests_of_yield : (view : View) (database : PrivateDatabase) (statement : SimpleStmt) → EachYields (tests_of view database statement)
tests_of_yield view database statement =
    elim (table_number view.tables (table_of statement)) as (λ found. EachYields (elim found as (λ _. List (Code × Bool)) [ None ↦ (UnknownTable, true) ∷ [] | Some number ↦ tests_at view database statement number ])) [
      | None ↦ (tt, tt)
      | Some number ↦ tests_at_yield view database statement number
    ]

pub said_yields : (view : View) (database : PrivateDatabase) (said : Said SimpleStmt) → YieldsToMemory (answer_said view database said)
said_yields view database Unread = tt
said_yields view database Unserved = tt
said_yields view database Outside = tt
said_yields view database (Says statement) =
    by (first_refusal view database statement) (tests_yield (tests_of view database statement) (reply_text view database statement) (tests_of_yield view database statement))
  where
    by : (refusal : Option Code) → YieldsToMemory (reply_of (reply_text view database statement) refusal) → YieldsToMemory (elim refusal as (λ _. Reply) [ None ↦ Text (reply_text view database statement) | Some code ↦ Refused code ])
    by None yields = yields
    by (Some code) yields = yields
