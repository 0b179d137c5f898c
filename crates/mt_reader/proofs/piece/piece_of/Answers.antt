-- A text is what stands between its quotes.
use Rattle.std.proofs.Common.{sym, ap, ◌∙◌}
use Rattle.std.specs.List.{slice_range}
use Rattle.mt_lexer.specs.declared.token.TokenKind.TheVariants as kind
use Rattle.mt_reader.specs.Pieces.{lexeme_at, said}
use Rattle.mt_reader.proofs.Lexemes.{text_utf8}
use Rattle.mt_reader.proofs.piece.piece_of.Goals as goal

pub returns-in-Text-clause-says : goal.returns-in-Text-clause-says
unfolding lexeme_at
returns-in-Text-clause-says c =
    let token = c.args.token in
    ap (λ bytes. said kind.Text (slice_range bytes token.from token.upto)) c.as_bytes-bytes.ensures.value
    ∙ ap (λ k. said k (slice_range c.args.text.now token.from token.upto)) (sym c.in-Text.is)

pub returns-in-Text-clause-is_piece : goal.returns-in-Text-clause-is_piece
returns-in-Text-clause-is_piece c = rw c.as_bytes-bytes.ensures.value (text_utf8 c.args.text.now c.args.token c.utf8.text c.in-Text.is c.requires)
