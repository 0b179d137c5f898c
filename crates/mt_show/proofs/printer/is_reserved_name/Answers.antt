-- A reserved word has no capital letter.
use Rattle.std.proofs.Common.{◌≡◌, true, false, ◌&&◌, not, sym, ap, ◌∙◌, map}
use Rattle.mt_lexer.specs.Tokens.{is_upper, lower}
use Rattle.mt_lexer.specs.Reserved.{is_reserved_name}
use Rattle.std.specs.List.{list_any}
use Rattle.mt_show.proofs.Capitals.{reserved_exactly}
use Rattle.mt_show.proofs.printer.is_reserved_name.Goals as goal

pub returns-then-is_reserved : goal.returns-then-is_reserved
returns-then-is_reserved c =
    let word = c.args.word.now in
    let listed : is_reserved_name (map lower word) ≡ true = ap (λ bytes. is_reserved_name (map lower bytes)) (sym c.as_bytes.ensures.value) ∙ sym c.is_reserved.ensures ∙ c.if-is_reserved.true in
    let capitals : c.has_capitals.result ≡ list_any is_upper word = c.has_capitals.ensures ∙ ap (list_any is_upper) c.as_bytes-then-is_reserved.ensures.value in
    ap not capitals ∙ sym (reserved_exactly word ∙ ap (λ test. test && not (list_any is_upper word)) listed)

pub returns-else-is_reserved : goal.returns-else-is_reserved
returns-else-is_reserved c =
    let word = c.args.word.now in
    let listed : is_reserved_name (map lower word) ≡ false = ap (λ bytes. is_reserved_name (map lower bytes)) (sym c.as_bytes.ensures.value) ∙ sym c.is_reserved.ensures ∙ c.if-is_reserved.false in
    c.if-is_reserved.false ∙ sym (reserved_exactly word ∙ ap (λ test. test && not (list_any is_upper word)) listed)
