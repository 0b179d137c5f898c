-- Items: what is read is spelled so, and what is spelled so is read.
use Rattle.std.proofs.Common.{◌≡◌, ℕ, ◌<◌, Option, Some, None, List, [], ◌∷◌, ◌++◌, length, refl, sym, ap, ◌∙◌, subst, append_assoc, length-append, inl, inr, arith}
use Rattle.std.specs.Prelude.{codes}
use Rattle.mt_lexer.specs.declared.token.Symbol.TheVariants as symbol
use Rattle.mt_lexer.specs.Tokens.{Lexeme, Word, Sign}
use Rattle.mt_tree.specs.declared.statement.Item.{Item}
use Rattle.mt_reader.specs.Descent.{after, either, name_of, literal_of, separated_of, joined_of}
use Rattle.mt_reader.specs.Forms.{Commas}
use Rattle.mt_reader.specs.Fronts.{Begins}
use Rattle.mt_reader.specs.Names.{IsName}
use Rattle.mt_reader.proofs.Eithers.{either_some}
use Rattle.mt_reader.proofs.Fronts.{none_after}
use Rattle.mt_reader.proofs.Maybes.{MaybeBehind, maybe_sound, maybe_complete}
use Rattle.mt_reader.proofs.Parts.{name_sound, name_complete}
use Rattle.mt_reader.proofs.Shrinking.{same_tree, same_rest}
use Rattle.mt_reader.proofs.Spelling.{IsSound, IsCompleteBefore, Shrinks, after_is, sound_shrinks, separated_sound, separated_complete_before}
use Rattle.mt_terms.specs.Descent.{literal_atom_of, atom_of, alone_of, factor_of, term_of, terms_of, sum_of, expr_of}
use Rattle.mt_terms.specs.Expression.{SpellsExpr}
use Rattle.mt_terms.specs.Follow.{expr_goes_on}
use Rattle.mt_terms.proofs.Expressions.{expr_sound, expr_nonempty}
use Rattle.mt_terms.proofs.Follow.{expr_follows}
use Rattle.mt_statements.specs.QueryDescent.{as_name_of, item_of, select_items_of}
use Rattle.mt_statements.specs.Query.{SpellsItem, SpellsItems}
use Rattle.mt_statements.proofs.Pairs.{pair_sound}
use Rattle.mt_statements.proofs.Starts.{StartsAmong, among_none, among_begins_none, among_maybe}

-- perhaps AS and a name
abbrev pub SpellsAsName : List Lexeme → Option (List ℕ) → Type 0
SpellsAsName tokens name = MaybeBehind IsName (Word (codes "as")) tokens name

-- what is read as a name behind AS is one
pub as_name_sound : IsSound SpellsAsName as_name_of
unfolding as_name_of
as_name_sound = maybe_sound IsName name_of (Word (codes "as")) name_sound

-- a name behind AS is read
pub as_name_complete : (front more : List Lexeme) (name : Option (List ℕ)) → after (Word (codes "as")) more ≡ None → SpellsAsName front name → as_name_of (front ++ more) ≡ Some (name, more)
unfolding as_name_of
as_name_complete front more name none s = maybe_complete IsName name_of (Word (codes "as")) (λ _. Unit {0}) refl (λ front more tree _ s. name_complete front more tree s) front more name tt none s

-- items

-- what is read as an item is one
pub item_sound : IsSound SpellsItem item_of
unfolding item_of
item_sound = pair_sound SpellsExpr SpellsAsName SpellsItem expr_of as_name_of (λ expr name. record { expr = expr; name = name }) expr_sound as_name_sound (λ expr name tokens s. s)

-- an item has a lexeme at least
item_nonempty : (front : List Lexeme) (item : Item) → SpellsItem front item → 0 < length front
item_nonempty front item s = omega (arith, ap length s.split, length-append s.front s.back, expr_nonempty s.front item.expr s.is_left)

-- and so takes one
pub item_shrinks : Shrinks item_of
item_shrinks = sound_shrinks SpellsItem item_of item_sound item_nonempty

-- the starts of what may stand behind all items, and behind each
abbrev pub behind_items : List Lexeme
behind_items = Word (codes "from") ∷ []

-- a comma too
abbrev behind_item : List Lexeme
behind_item = Sign symbol.Comma ∷ behind_items

-- an item is read
item_complete : IsCompleteBefore SpellsItem (StartsAmong behind_item) item_of
unfolding item_of
item_complete front more item end s =
    let all : front ++ more ≡ s.front ++ (s.back ++ more) = ap (λ ls. ls ++ more) s.split ∙ append_assoc s.front s.back more in
    let starts = among_maybe IsName (Word (codes "as")) behind_item s.back more item.name s.is_right end in
    let expr = expr_follows s.front (s.back ++ more) item.expr (among_begins_none (Word (codes "as") ∷ behind_item) expr_goes_on (s.back ++ more) refl refl starts) s.is_left in
    let name = as_name_complete s.back more item.name (among_none (Word (codes "as")) behind_item more refl end) s.is_right in
    rw (all, expr, name) refl

-- what is read as items is the star or items
pub items_sound : IsSound SpellsItems select_items_of
unfolding select_items_of
items_sound lexemes rest items e = either_some (after (Sign symbol.Star) lexemes) (λ left. Some ([], left)) _ (items, rest) by_star by_items e where
  as_items : (front : List Lexeme) (items : List Item) → Commas SpellsItem front items → SpellsItems front items
  as_items front [] s = elim s [ ]
  as_items front (x ∷ xs) s = s

  by_star : (left : List Lexeme) → after (Sign symbol.Star) lexemes ≡ Some left → ◌≡◌ {A = Option (List Item × List Lexeme)} (Some ([], left)) (Some (items, rest)) → Begins SpellsItems lexemes rest items
  by_star left a e = record {
    front = Sign symbol.Star ∷ [];
    whole = after_is (Sign symbol.Star) lexemes left a ∙ ap (λ ls. Sign symbol.Star ∷ ls) (same_rest e);
    spelled = subst (SpellsItems (Sign symbol.Star ∷ [])) (same_tree e) refl;
  }

  by_items : separated_of item_of (Sign symbol.Comma) lexemes ≡ Some (items, rest) → Begins SpellsItems lexemes rest items
  by_items e =
      let s = separated_sound SpellsItem item_of (Sign symbol.Comma) item_sound lexemes rest items e in
      record { front = s.front; whole = s.whole; spelled = as_items s.front items s.spelled }

-- no item begins with a star
star_unread : (rest : List Lexeme) → separated_of item_of (Sign symbol.Comma) (Sign symbol.Star ∷ rest) ≡ None
unfolding separated_of item_of expr_of sum_of terms_of term_of joined_of factor_of alone_of atom_of literal_atom_of literal_of after
star_unread rest = refl

-- the star is read, and items are, where FROM follows
pub items_complete : IsCompleteBefore SpellsItems (StartsAmong behind_items) select_items_of
unfolding select_items_of after
items_complete front more [] end s = rw s refl
items_complete front more (x ∷ xs) end s =
    let read = separated_complete_before SpellsItem item_of (Sign symbol.Comma) (StartsAmong behind_item) refl (λ rest. inl (rest, refl)) item_complete item_shrinks front more (x ∷ xs) (inr end) (among_none (Sign symbol.Comma) behind_items more refl end) s in
    let star = none_after (Sign symbol.Star) (front ++ more) (λ rest e. let both : None ≡ Some (x ∷ xs, more) = sym (star_unread rest) ∙ ap (separated_of item_of (Sign symbol.Comma)) (sym e) ∙ read in cc) in
    ap (λ found. either found (λ rest. Some ([], rest)) (separated_of item_of (Sign symbol.Comma) (front ++ more))) star ∙ read
