-- The text is cut at its first quote, so that no quote stands in front of it.
use denote.Ref.{Bor}
use Rattle.std.proofs.Common.{◌≡◌, ◌≢◌, ℕ, ◌<◌, List, ◌∷◌, ◌++◌, Option, Some, None, length, get_or, lit<}
use Rattle.std.specs.Option.{MatchOption, IfNone, IfSome}
use Rattle.std.proofs.lemmas.Str.Pattern.{split_parts}
use Rattle.mt_value.specs.Printed.{doubled}
use Rattle.mt_value.proofs.Doubling.{doubled_nowhere}
use Rattle.mt_value.proofs.quotes.split_quote.Goals as goal

-- what a cut at the first quote tells
abbrev Cut : List ℕ → Option (Bor (List ℕ) × Bor (List ℕ)) → Type 0
Cut text r = MatchOption r ((i : ℕ) → i < length text → get_or text i 0 ≢ 39) (λ x. (text ≡ x.0.now ++ (39 ∷ x.1.now)) × ((i : ℕ) → i < length x.0.now → get_or x.0.now i 0 ≢ 39))

-- with no cut there is no quote
uncut : (text : List ℕ) (r : Option (Bor (List ℕ) × Bor (List ℕ))) → Cut text r → IfNone r (doubled text ≡ text)
uncut text None none = doubled_nowhere text none
uncut text (Some parts) cut = tt

-- in front of the cut there is none
front : (text : List ℕ) (r : Option (Bor (List ℕ) × Bor (List ℕ))) → Cut text r → IfSome r (λ parts. doubled parts.0.now ≡ parts.0.now)
front text None none = tt
front text (Some parts) cut = doubled_nowhere parts.0.now cut.1

pub returns-clause-none : goal.returns-clause-none
returns-clause-none c = uncut c.args.text.now c.split_once.result (split_parts 39 c.args.text.now c.split_once.result c.split_once.ensures.cases (lit< tt))

pub returns-clause-front : goal.returns-clause-front
returns-clause-front c = front c.args.text.now c.split_once.result (split_parts 39 c.args.text.now c.split_once.result c.split_once.ensures.cases (lit< tt))
