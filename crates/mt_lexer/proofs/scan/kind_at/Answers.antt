-- The first byte tells the kind.
use Rattle.std.proofs.Common.{Option, Some, None, IfNone, sym, ap, ◌∙◌}
use Rattle.mt_lexer.specs.Tokens.{begins_word, is_digit}
use Rattle.mt_lexer.proofs.Reading.{none_for_word, none_for_number, none_for_quoted, none_for_sign}
use Rattle.mt_lexer.proofs.scan.kind_at.Goals as goal

-- what holds says so of any answer
none_of : {X P : Type 0} (answer : Option X) → P → IfNone answer P
none_of None p = p
none_of (Some x) p = tt

pub returns-in_err-len-clause-none : goal.returns-in_err-len-clause-none
returns-in_err-len-clause-none c =
    none_of c.from_residual.result (none_for_word c.args.rest.now (sym (c.begins_word.ensures ∙ ap begins_word c.byte_at-first.ensures) ∙ c.if-begins_word.true) c.in_err-len.ensures.none)

pub returns-in_err-len-2-clause-none : goal.returns-in_err-len-2-clause-none
returns-in_err-len-2-clause-none c =
    none_of c.from_residual-in_err-len-2.result (none_for_number c.args.rest.now (sym (c.is_digit.ensures ∙ ap is_digit c.byte_at-first.ensures) ∙ c.if-is_digit.true) c.in_err-len-2.ensures.none)

pub returns-in_err-len-3-clause-none : goal.returns-in_err-len-3-clause-none
returns-in_err-len-3-clause-none c =
    none_of c.from_residual-in_err-len-3.result (none_for_quoted c.args.rest.now (sym c.byte_at-first.ensures ∙ c.if-first-eq-QUOTE.true) c.in_err-len-3.ensures.none)

pub returns-in_err-symbol-clause-none : goal.returns-in_err-symbol-clause-none
returns-in_err-symbol-clause-none c =
    none_of c.from_residual-in_err-symbol.result (none_for_sign c.args.rest.now
    (sym (c.begins_word.ensures ∙ ap begins_word c.byte_at-first.ensures) ∙ c.if-begins_word.false)
    (sym (c.is_digit.ensures ∙ ap is_digit c.byte_at-first.ensures) ∙ c.if-is_digit.false)
    (λ e. c.if-first-eq-QUOTE.false (c.byte_at-first.ensures ∙ e))
    c.in_err-symbol.ensures.none)
