-- The tokens that were found are tokens of the text.
use Rattle.mt_reader.proofs.Lexemes.{tokens_say}
use Rattle.mt_reader.proofs.tests.integer_first.Goals as goal

pub new-reader-requires : goal.new-reader-requires
new-reader-requires c =
    let says = c.in_ok-found.ensures.ok in
    rw c.as_slice.ensures (tokens_say c.args.text.now c.in_ok-found.found says.0 says.1).0
