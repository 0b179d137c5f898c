-- Each NOT and each bracket takes one of the depth, and each iteration a lexeme.
use Rattle.std.proofs.Common.{◌+◌, ◌*◌, List, length}
use Rattle.std.specs.Prelude.{codes}
use Rattle.mt_lexer.specs.Tokens.{Lexeme, Word}
use Rattle.mt_tree.specs.declared.expression.Cond.TheVariants.{And, Or}
use Rattle.mt_reader.specs.Taken.{Took}
use Rattle.mt_reader.proofs.Joining.{JoinedSoFar}
use Rattle.mt_terms.specs.Descent.{and_of, neg_of}
use Rattle.mt_terms.specs.Inside.{IsCondInside}
use Rattle.mt_terms.proofs.Conditions.{neg_shrinks, and_shrinks}
use Rattle.mt_terms.proofs.logic.+condition.Given as goal

abbrev pub decreases-negation : goal.decreases-negation
decreases-negation l = 8 * l.depth

abbrev pub decreases-denial : goal.decreases-denial
decreases-denial l = 8 * l.depth + 1

abbrev pub decreases-add_nested : goal.decreases-add_nested
decreases-add_nested l = 8 * l.depth + 1

abbrev pub decreases-add_member : goal.decreases-add_member
decreases-add_member l = 8 * l.depth + 2

abbrev pub decreases-and_behind : goal.decreases-and_behind
decreases-and_behind l = 8 * l.depth + 3

abbrev pub decreases-conjunction : goal.decreases-conjunction
decreases-conjunction l = 8 * l.depth + 4

abbrev pub decreases-or_behind : goal.decreases-or_behind
decreases-or_behind l = 8 * l.depth + 5

abbrev pub decreases-disjunction : goal.decreases-disjunction
decreases-disjunction l = 8 * l.depth + 6

abbrev pub decreases-condition_in_brackets : goal.decreases-condition_in_brackets
decreases-condition_in_brackets l = 8 * l.depth + 7

abbrev pub invariant-and_behind-loop-alloc : goal.invariant-and_behind-loop-alloc
invariant-and_behind-loop-alloc l =
    (lexemes : List Lexeme) → Took IsCondInside l.fn.first l.fn.reader (neg_of l.depth lexemes) → JoinedSoFar (neg_of l.depth) (neg_shrinks l.depth) (Word (codes "and")) And IsCondInside lexemes l.reader l.members

abbrev pub decreases-and_behind-loop-alloc : goal.decreases-and_behind-loop-alloc
decreases-and_behind-loop-alloc l = length l.reader

abbrev pub invariant-or_behind-loop-alloc : goal.invariant-or_behind-loop-alloc
invariant-or_behind-loop-alloc l =
    (lexemes : List Lexeme) → Took IsCondInside l.fn.first l.fn.reader (and_of (neg_of l.depth) lexemes) → JoinedSoFar (and_of (neg_of l.depth)) (and_shrinks l.depth) (Word (codes "or")) Or IsCondInside lexemes l.reader l.members

abbrev pub decreases-or_behind-loop-alloc : goal.decreases-or_behind-loop-alloc
decreases-or_behind-loop-alloc l = length l.reader
