-- One body more.
use Rattle.std.proofs.Common.{ℕ, List, sym, subst}
use Rattle.std.specs.Prelude.{All}
use Rattle.std.proofs.lemmas.List.Elements.{All-push}
use Rattle.mt_rowfile.specs.Slots.{IsBody}
use Rattle.mt_prepare.proofs.tests.add_body.Goals as goal

pub returns-clause-readable : goal.returns-clause-readable
returns-clause-readable g c =
    let readable : ℕ × List ℕ → Type 0 = λ body. IsBody body.0 body.1 in
    let body : List ℕ = c.in_ok-body.body in
    let of_table : IsBody c.from.result body = subst (λ (table : ℕ). IsBody table body) (sym c.from.ensures) c.in_ok-body.ensures.readable in
    subst (All readable) {y = c.push.new.self} (sym c.in_ok-push.ensures.ok) (All-push readable c.args.bodies.now (c.from.result, body) c.requires.readable of_table)
