-- What is pushed so far, and the rest with its quotes doubled, is the quote and the whole text so.
use denote.Shadow.{shadow}
use denote.Text.{Utf8}
use Rattle.std.proofs.Common.{◌≡◌, ◌∷◌, ◌++◌, length}
use Rattle.std.specs.String.{string_bytes}
use Rattle.mt_lexer.specs.Tokens.{doubled}
use Rattle.mt_show.proofs.printer.Printer.quoted.Given as goal

abbrev pub invariant-loop-front : goal.invariant-loop-front
invariant-loop-front l = (string_bytes l.self-inside.text ++ doubled l.rest ≡ l.fn.self ++ 32 ∷ 39 ∷ doubled l.text) × shadow (Utf8 l.rest)

abbrev pub decreases-loop-front : goal.decreases-loop-front
decreases-loop-front l = length l.rest
