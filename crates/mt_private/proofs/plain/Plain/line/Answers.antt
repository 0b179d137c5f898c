-- The line says what the text behind its tag says.
use Rattle.std.proofs.Common.{◌≡◌, inl, ℕ, List, drop, refl, subst, ◌∙◌}
use Rattle.std.proofs.lemmas.List.{take_rest}
use Rattle.mt_tree.specs.declared.who.Who.{Who}
use Rattle.mt_script.specs.Tags.{HasTag}
use Rattle.mt_model.specs.Said.{IsStatementSaid, IsCommandSaid}
use Rattle.mt_model.specs.Request.{Command, Statement, Unreadable}
use Rattle.mt_private.proofs.plain.Plain.line.Goals as goal

pub returns-in_default : goal.returns-in_default
returns-in_default c = λ service kept. (Unreadable, service, record { said = c.in_default.ensures.none; outcome = inl (record { reply_is = refl; next_is = refl }) }, kept)

pub returns-in_default-from_utf8 : goal.returns-in_default-from_utf8
returns-in_default-from_utf8 c = absurd (c.in_default-from_utf8.ensures.cases.0 (rw take_rest c.in-Some.ensures.text))

pub returns-in-Admin : goal.returns-in-Admin
returns-in-Admin c = λ service kept.
    let says = c.command.ensures in
    let answered = says.2 service kept in
    let text : c.in-Ok.text.now ≡ drop c.in-Some.tagged.from c.args.line.now = c.in-Ok.ensures.cases.0 ∙ take_rest c.args.line.now c.in-Some.tagged.from in (
      Command says.0,
      answered.0,
      record {
        said = record {
          text = drop c.in-Some.tagged.from c.args.line.now;
          tagged = subst (λ (who : Who). HasTag c.args.line.now who (drop c.in-Some.tagged.from c.args.line.now)) c.in-Admin.is c.in-Some.ensures.found.1;
          says = subst (λ (text : List ℕ). IsCommandSaid text says.0) text says.1;
        };
        outcome = answered.1;
      },
      answered.2,
    )

pub returns-in-Tenant : goal.returns-in-Tenant
returns-in-Tenant c = λ service kept.
    let says = c.statement.ensures in
    let answered = says.2 service kept in
    let text : c.in-Ok.text.now ≡ drop c.in-Some.tagged.from c.args.line.now = c.in-Ok.ensures.cases.0 ∙ take_rest c.args.line.now c.in-Some.tagged.from in (
      Statement c.in-Tenant.tenant says.0,
      answered.0,
      record {
        said = record {
          text = drop c.in-Some.tagged.from c.args.line.now;
          tagged = subst (λ (who : Who). HasTag c.args.line.now who (drop c.in-Some.tagged.from c.args.line.now)) c.in-Tenant.is c.in-Some.ensures.found.1;
          says = subst (λ (text : List ℕ). IsStatementSaid text says.0) text says.1;
        };
        outcome = answered.1;
      },
      answered.2,
    )
