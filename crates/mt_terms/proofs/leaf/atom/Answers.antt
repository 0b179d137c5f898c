-- An atom by its first word.
use Rattle.std.proofs.Common.{sym, ◌∙◌}
use Rattle.mt_terms.proofs.Atoms.{literal_first, reserved_first, column_first}
use Rattle.mt_terms.proofs.leaf.atom.Goals as goal

pub returns-then-not-begins_with_word : goal.returns-then-not-begins_with_word
returns-then-not-begins_with_word c =
    rw (literal_first c.args.reader.now (sym c.begins_with_word.ensures ∙ c.if-not-begins_with_word.true)) c.literal_atom.ensures

pub returns-then-begins_reserved_atom : goal.returns-then-begins_reserved_atom
returns-then-begins_reserved_atom c =
    rw (reserved_first c.args.reader.now (sym c.if-begins_reserved_atom.ensures)) c.reserved_atom.ensures

pub returns : goal.returns
returns c =
    rw (column_first c.args.reader.now (sym c.begins_with_word.ensures ∙ c.if-not-begins_with_word.false) (sym c.if-begins_reserved_atom.ensures)) c.column_atom.ensures
