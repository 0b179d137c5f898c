-- What the bytes from the place on are read as stands there.
use Rattle.std.proofs.Common.{◌-◌, subst, drop, refl, arith}
use Rattle.std.proofs.lemmas.List.{take_rest}
use Rattle.mt_lexer.specs.FirstToken.{IsFirstToken}
use Rattle.mt_lexer.proofs.Tiling.{read_from_token, read_fits}
use Rattle.mt_lexer.proofs.scan.token_at.Goals as goal

pub returns-in_default-clause-none : goal.returns-in_default-clause-none
returns-in_default-clause-none c = λ t lexeme e h.
    let text = c.args.text.now in
    let r : IsFirstToken (drop c.args.at text) (t.upto - t.from) lexeme = subst (λ at. IsFirstToken (drop at text) (t.upto - t.from) lexeme) e (read_from_token text t lexeme h) in
    c.in_default.ensures.none (t.upto - t.from) lexeme (rw take_rest r)

pub returns-clause-place : goal.returns-clause-place
returns-clause-place c =
    let some = c.in-Some.ensures.some in
    let fits = read_fits c.args.text.now c.args.at c.in-Some.len some.0 c.requires (rw take_rest at some.2) in
    (refl, omega (arith, fits.0), fits.1)
