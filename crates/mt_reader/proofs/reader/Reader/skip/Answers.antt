-- The tokens behind the first one are tokens of the text.
use Rattle.std.proofs.lemmas.List.Elements.{All-rest}
use Rattle.mt_lexer.specs.Tokens.{IsToken}
use Rattle.mt_reader.specs.Pieces.{lexeme_at}
use Rattle.mt_reader.proofs.reader.Reader.skip.Goals as goal

pub invariant_of-self : goal.invariant_of-self
invariant_of-self c =
    let text = c.self.inside.text.now in
    All-rest (λ token. IsToken text token (lexeme_at text token)) c.in-Some.field-0-0.now c.in-Some.rest.now c.self.inside.tokens.now c.in-Some.ensures.cases.0 c.self.invariant
