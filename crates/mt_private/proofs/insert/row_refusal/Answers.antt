-- The tests are those of the row alone.
use Rattle.std.proofs.Common.{false, true, refl, ap, ◌∙◌}
use Rattle.mt_schema.specs.Refusals.{first_holding}
use Rattle.mt_private.proofs.Sound.{tests_seen}
use Rattle.mt_private.proofs.insert.row_refusal.Goals as goal

pub returns-then-has_long_text : goal.returns-then-has_long_text
returns-then-has_long_text c = λ quota kept room.
    ap first_holding (tests_seen c.args.columns.now c.args.rows.now c.args.values.now c.requires.kept.sound true _ _ c.args.has_room quota kept c.args.made c.if-has_long_text.ensures refl refl room)

pub returns-then-has_null : goal.returns-then-has_null
returns-then-has_null c = λ quota kept room.
    ap first_holding (tests_seen c.args.columns.now c.args.rows.now c.args.values.now c.requires.kept.sound false true _ c.args.has_room quota kept c.args.made c.if-has_long_text.ensures c.if-has_null.ensures refl room)

pub returns-then-repeats_key : goal.returns-then-repeats_key
returns-then-repeats_key c = λ quota kept room.
    ap first_holding (tests_seen c.args.columns.now c.args.rows.now c.args.values.now c.requires.kept.sound false false true c.args.has_room quota kept c.args.made c.if-has_long_text.ensures c.if-has_null.ensures c.if-repeats_key.ensures room)

pub returns : goal.returns
returns c = λ quota kept room.
    c.count_refusal.ensures
    ∙ ap first_holding (tests_seen c.args.columns.now c.args.rows.now c.args.values.now c.requires.kept.sound false false false c.args.has_room quota kept c.args.made c.if-has_long_text.ensures c.if-has_null.ensures c.if-repeats_key.ensures room)
