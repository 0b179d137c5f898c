-- The pieces that a statement is printed in: an expression or a condition where it stands, the brackets
-- that it needs there, and the separators of a list.
use Rattle.std.specs.Prelude.{ℕ, Bool, true, false, ◌==◌, if◌then◌else◌, List, [], ◌∷◌}
use Rattle.mt_lexer.specs.Tokens.{Lexeme}
use Rattle.mt_show.specs.Shown.{Places}
use Rattle.mt_show.specs.declared.place.Place.{Place}
use Rattle.mt_show.specs.declared.place.Place.TheVariants.{Whole, Outer, Inner}

-- the tokens at this place
abbrev pub placed : Place → Places → List Lexeme
placed Whole places = places.whole
placed Outer places = places.outer
placed Inner places = places.inner

-- whether a sum or an OR needs brackets there
abbrev pub is_member : Place → Bool
is_member Whole = false
is_member Outer = true
is_member Inner = true

-- whether a product or an AND does
abbrev pub is_inner : Place → Bool
is_inner Whole = false
is_inner Outer = false
is_inner Inner = true

-- this token, where it is needed
abbrev pub where_needed : Bool → Lexeme → List Lexeme
where_needed needed lexeme = if needed then lexeme ∷ [] else []

-- this token, in front of all members but the first
abbrev pub before_others : ℕ → Lexeme → List Lexeme
before_others index lexeme = if index == 0 then [] else lexeme ∷ []
