-- Only the words of its length need be looked at.
use Rattle.std.proofs.Common.{◌∙◌, sym, length, inl, inr, arith}
use Rattle.std.proofs.lemmas.Bool.{cases_lt}
use Rattle.mt_lexer.specs.Reserved.{reserved}
use Rattle.mt_lexer.proofs.ReservedWords.{among_its_length, none_of_length}
use Rattle.mt_lexer.proofs.words.is_reserved.Goals as goal

pub returns-in-2 : goal.returns-in-2
unfolding reserved
returns-in-2 c = c.is_among.ensures ∙ among_its_length c.args.word.now 2 c.in-2.is

pub returns-in-3 : goal.returns-in-3
unfolding reserved
returns-in-3 c = c.is_among-in-3.ensures ∙ among_its_length c.args.word.now 3 c.in-3.is

pub returns-in-4 : goal.returns-in-4
unfolding reserved
returns-in-4 c = c.is_among-in-4.ensures ∙ among_its_length c.args.word.now 4 c.in-4.is

pub returns-in-5 : goal.returns-in-5
unfolding reserved
returns-in-5 c = c.is_among-in-5.ensures ∙ among_its_length c.args.word.now 5 c.in-5.is

pub returns-in-6 : goal.returns-in-6
unfolding reserved
returns-in-6 c = c.is_among-in-6.ensures ∙ among_its_length c.args.word.now 6 c.in-6.is

pub returns-in-7 : goal.returns-in-7
unfolding reserved
returns-in-7 c = c.is_among-in-7.ensures ∙ among_its_length c.args.word.now 7 c.in-7.is

pub returns-in-8 : goal.returns-in-8
unfolding reserved
returns-in-8 c = c.is_among-in-8.ensures ∙ among_its_length c.args.word.now 8 c.in-8.is

pub returns-in_default : goal.returns-in_default
returns-in_default c =
    let long = length c.args.word.now in
    sym (none_of_length c.args.word.now (elim (cases_lt long 2) [
      | inl few ↦ inl few
      | inr some ↦ elim (cases_lt 8 long) [ inl many ↦ inr many | inr most ↦ absurd (omega arith) ]
    ]))
