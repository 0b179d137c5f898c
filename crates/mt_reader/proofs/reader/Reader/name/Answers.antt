-- A word that is not reserved is a name, in lower case.
use Rattle.std.proofs.Common.{sym, ◌∙◌, map}
use Rattle.std.proofs.lemmas.Str.{IsUtf8-from_ascii}
use Rattle.std.proofs.lemmas.Str.Ascii.{IsAscii-map, lowercase_ascii}
use Rattle.std.specs.Char.{to_ascii_lowercase}
use Rattle.mt_reader.proofs.Steps.{word_ascii, name_of_end, name_of_other, name_of_reserved, name_of_word}
use Rattle.mt_reader.proofs.reader.Reader.name.Goals as goal

pub returns-in_default : goal.returns-in_default
returns-in_default c = name_of_end c.args.self.now c.in_default.ensures.none

pub returns-in_default-word : goal.returns-in_default-word
returns-in_default-word c = name_of_other c.in-Some.first c.args.self.now c.in-Some.ensures.first (sym c.in_default-word.ensures)

pub returns-then-is_reserved : goal.returns-then-is_reserved
returns-then-is_reserved c =
    name_of_reserved c.in-Some.first c.args.self.now c.in-Some-word.word c.in-Some.ensures.first (sym c.in-Some-word.ensures) (sym c.if-is_reserved.ensures)

pub text_of-requires : goal.text_of-requires
text_of-requires c =
    let word = c.in-Some-word.word.now in
    let ascii = word_ascii c.in-Some.first c.in-Some-word.word c.in-Some.ensures.is_piece (sym c.in-Some-word.ensures) in
    rw c.in_ok-name.ensures.ok (IsUtf8-from_ascii (map to_ascii_lowercase word) (IsAscii-map to_ascii_lowercase word lowercase_ascii ascii))

pub returns : goal.returns
returns c =
    name_of_word c.in-Some.first c.args.self.now c.skip.new.self c.in-Some-word.word c.text_of.result c.in-Some.ensures.first (sym c.in-Some-word.ensures) (sym c.if-is_reserved.ensures) c.skip.ensures
    (c.text_of.ensures ∙ c.in_ok-name.ensures.ok)
