-- The first lexeme decides.
use Rattle.std.proofs.Common.{◌∷◌, drop, refl, sym, ap, ◌∙◌, pos, neg_ℤ}
use Rattle.std.specs.Option.{option_and_then}
use Rattle.std.specs.Str.Parse.{digits_value}
use Rattle.std.proofs.lemmas.Result.{err_from_is_err_and}
use Rattle.mt_tree.specs.declared.expression.Literal.TheVariants.{Null, Int, Text}
use Rattle.mt_reader.specs.Pieces.{lexeme_of, undoubled}
use Rattle.mt_reader.proofs.Literals.{fails_bind, negative_behind, literal_of_end, literal_of_null, literal_of_other_word, literal_of_number, literal_of_quoted, literal_of_minus, literal_of_other_sign}
use Rattle.mt_reader.proofs.literal.literal.Goals as goal

pub returns-in-Some-Number : goal.returns-in-Some-Number
returns-in-Some-Number c = record {
  tree = Int (pos (digits_value 10 c.in-Some-Number.digits.now));
  reads = literal_of_number _ c.args.reader.now c.skip-in-Some-Number.new.self (c.in-Some-Number.ensures.first ∙ ap (λ p. lexeme_of p ∷ drop 1 c.args.reader.now) c.in-Some-Number.field-0-is) c.skip-in-Some-Number.ensures;
  keeps = c.integer.ensures;
}

pub returns-in_ok-literal_text-in-Some-Text : goal.returns-in_ok-literal_text-in-Some-Text
returns-in_ok-literal_text-in-Some-Text c = record {
  tree = Text (undoubled c.in-Some-Text.bytes.now);
  reads = literal_of_quoted _ c.args.reader.now c.skip-in-Some-Text.new.self (c.in-Some-Text.ensures.first ∙ ap (λ p. lexeme_of p ∷ drop 1 c.args.reader.now) c.in-Some-Text.field-0-is) c.skip-in-Some-Text.ensures;
  keeps = (c.in_ok-literal_text-in-Some-Text.ensures, tt);
}

pub returns-in-None : goal.returns-in-None
returns-in-None c = literal_of_end c.args.reader.now c.in-None.ensures.none

pub returns-then-not-is_same_word : goal.returns-then-not-is_same_word
returns-then-not-is_same_word c =
    literal_of_other_word _ c.args.reader.now (c.in-Some-Word.ensures.first ∙ ap (λ p. lexeme_of p ∷ drop 1 c.args.reader.now) c.in-Some-Word.field-0-is) (sym c.is_same_word.ensures ∙ c.if-not-is_same_word.true)

pub returns-else-not-is_same_word : goal.returns-else-not-is_same_word
returns-else-not-is_same_word c = record {
  tree = Null;
  reads = literal_of_null _ c.args.reader.now c.skip.new.self (c.in-Some-Word.ensures.first ∙ ap (λ p. lexeme_of p ∷ drop 1 c.args.reader.now) c.in-Some-Word.field-0-is) (sym c.is_same_word.ensures ∙ c.if-not-is_same_word.false) c.skip.ensures;
  keeps = (refl, tt);
}

pub returns-then-ne : goal.returns-then-ne
returns-then-ne c =
    literal_of_other_sign _ c.args.reader.now (c.in-Some-Symbol.ensures.first ∙ ap (λ p. lexeme_of p ∷ drop 1 c.args.reader.now) c.in-Some-Symbol.field-0-is) (sym c.ne.ensures ∙ c.if-ne.true)

pub returns-in_err-digits-in-Some-Symbol : goal.returns-in_err-digits-in-Some-Symbol
returns-in_err-digits-in-Some-Symbol c =
    let r = c.from_residual-in_err-digits-in-Some-Symbol in
    let p = err_from_is_err_and r.result r.ensures.1 in
    rw (p.1, p.2, literal_of_minus _ c.args.reader.now c.skip-in-Some-Symbol.new.self (c.in-Some-Symbol.ensures.first ∙ ap (λ p. lexeme_of p ∷ drop 1 c.args.reader.now) c.in-Some-Symbol.field-0-is) (sym c.ne.ensures ∙ c.if-ne.false) c.skip-in-Some-Symbol.ensures) (fails_bind c.in_err-digits-in-Some-Symbol.field-0.0 _ negative_behind c.in_err-digits-in-Some-Symbol.ensures.taken)

pub returns-in_ok-digits-in-Some-Symbol : goal.returns-in_ok-digits-in-Some-Symbol
returns-in_ok-digits-in-Some-Symbol c = record {
  tree = Int (neg_ℤ (pos (digits_value 10 c.in_ok-digits-in-Some-Symbol.digits.now)));
  reads =
      literal_of_minus _ c.args.reader.now c.skip-in-Some-Symbol.new.self (c.in-Some-Symbol.ensures.first ∙ ap (λ p. lexeme_of p ∷ drop 1 c.args.reader.now) c.in-Some-Symbol.field-0-is) (sym c.ne.ensures ∙ c.if-ne.false) c.skip-in-Some-Symbol.ensures
      ∙ ap (option_and_then negative_behind) c.in_ok-digits-in-Some-Symbol.ensures.taken;
  keeps = c.negative.ensures;
}
