-- A word is printed as its token.
use Rattle.std.proofs.Common.{◌≡◌, true, false, map, sym, ◌∙◌}
use Rattle.mt_lexer.specs.Reserved.{is_reserved_name}
use Rattle.mt_show.specs.Text.{upper}
use Rattle.mt_show.proofs.Joined.{spaced-name, spaced-reserved}
use Rattle.mt_show.proofs.Capitals.{map_upper}
use Rattle.mt_show.proofs.printer.Printer.word.Goals as goal

pub returns-then-not-is_reserved_name : goal.returns-then-not-is_reserved_name
returns-then-not-is_reserved_name c =
    let word = c.args.word.now in
    let test : is_reserved_name word ≡ false = sym c.is_reserved_name.ensures ∙ c.if-not-is_reserved_name.true in
    rw (spaced-name word test) c.token.ensures

pub returns : goal.returns
returns c =
    let word = c.args.word.now in
    let test : is_reserved_name word ≡ true = sym c.is_reserved_name.ensures ∙ c.if-not-is_reserved_name.false in
    let text : c.as_str.result.now ≡ map upper word = c.as_str.ensures.value ∙ c.in_ok-capitals.ensures.ok ∙ map_upper word in
    rw (spaced-reserved word test, ← text) c.token-2.ensures
