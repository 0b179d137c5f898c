-- The digits behind the words are the number's, where a number stands there.
use Rattle.std.proofs.Common.{◌<◌, ◌^◌, arith, None, Some}
use Rattle.std.specs.Char.{is_ascii_digit}
use Rattle.std.proofs.lemmas.Grind.{common_steps}
use Rattle.std.proofs.lemmas.Bool.Decides.{Decides-eqb}
use Rattle.std.proofs.lemmas.Slice.Eq.{strip_prefix_is}
use Rattle.foldsql.proofs.Spelled.{prefix_len-le, cut_number_behind}
use Rattle.foldsql.proofs.create_tenant.number_after.Goals as goal

pub split_at-requires : goal.split_at-requires
split_at-requires c = omega (arith, prefix_len-le is_ascii_digit c.in_ok-behind.behind.now)

pub returns-in_err-behind-clause-taken : goal.returns-in_err-behind-clause-taken
returns-in_err-behind-clause-taken c n rest small front e =
    let none = strip_prefix_is Decides-eqb c.args.bytes.now c.args.words.now None c.in_err-behind.ensures.cases in
    absurd (none _ e)

pub returns-clause-found : goal.returns-clause-found
returns-clause-found c =
    let some = strip_prefix_is Decides-eqb c.args.bytes.now c.args.words.now (Some c.in_ok-behind.behind) c.in_ok-behind.ensures.cases in
    grind (arith, common_steps)

pub returns-in_err-number-clause-taken : goal.returns-in_err-number-clause-taken
returns-in_err-number-clause-taken c n rest small front e =
    let some = strip_prefix_is Decides-eqb c.args.bytes.now c.args.words.now (Some c.in_ok-behind.behind) c.in_ok-behind.ensures.cases in
    let parts = cut_number_behind c.args.bytes.now c.args.words.now c.in_ok-behind.behind.now some n rest small front e in
    let fits : n < 2 ^ 64 = omega arith in
    absurd (grind (arith, common_steps, c.in_err-number.ensures.taken n fits))

pub returns-clause-taken : goal.returns-clause-taken
returns-clause-taken c n rest small front e =
    let some = strip_prefix_is Decides-eqb c.args.bytes.now c.args.words.now (Some c.in_ok-behind.behind) c.in_ok-behind.ensures.cases in
    let parts = cut_number_behind c.args.bytes.now c.args.words.now c.in_ok-behind.behind.now some n rest small front e in
    let fits : n < 2 ^ 64 = omega arith in
    grind (arith, common_steps, c.in_ok-number.ensures.taken n fits)
