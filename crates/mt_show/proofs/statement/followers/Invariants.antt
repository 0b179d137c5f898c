-- The first references are printed.
use Rattle.std.proofs.Common.{◌≡◌, ◌++◌, take}
use Rattle.std.specs.List.{flat_map}
use Rattle.mt_show.specs.Spaced.{spaced}
use Rattle.mt_show.specs.Statements.{following_tokens}
use Rattle.mt_show.proofs.statement.followers.Given as goal

abbrev pub invariant-loop-reference : goal.invariant-loop-reference
invariant-loop-reference l = l.printer ≡ l.fn.printer ++ spaced (flat_map (λ reference. following_tokens reference reference.on) (take l.reference-index l.refs))
