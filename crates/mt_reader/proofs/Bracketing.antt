-- What stands in brackets: what is read is spelled so, and what is spelled so is read.
use Rattle.std.proofs.Common.{◌≡◌, ◌<◌, Option, Some, None, List, [], ◌∷◌, ◌++◌, length, refl, sym, ap, ◌∙◌, subst, append_assoc, arith}
use Rattle.std.specs.Option.{option_and_then}
use Rattle.mt_lexer.specs.declared.token.Symbol.TheVariants as symbol
use Rattle.mt_lexer.specs.Tokens.{Lexeme, Sign}
use Rattle.mt_reader.specs.Descent.{after, separated_of, closed_of, bracketed_of}
use Rattle.mt_reader.specs.Forms.{Form, Bracketed, Commas}
use Rattle.mt_reader.specs.Fronts.{Begins}
use Rattle.mt_reader.proofs.Shrinking.{bind_some, same_tree, same_rest}
use Rattle.mt_reader.proofs.Spelling.{IsSound, IsComplete, IsCompleteBefore, Shrinks, after_is, separated_sound, separated_complete_before, sound_shrinks}

-- no comma comes before a bracket that closes
pub no_comma_close : (more : List Lexeme) → after (Sign symbol.Comma) (Sign symbol.Close ∷ more) ≡ None
unfolding after
no_comma_close more = refl

-- what stands behind brackets stands behind the one that closes
pub brackets_append : (inner more : List Lexeme) → (Sign symbol.Open ∷ (inner ++ Sign symbol.Close ∷ [])) ++ more ≡ Sign symbol.Open ∷ (inner ++ Sign symbol.Close ∷ more)
brackets_append inner more = ap (λ ls. Sign symbol.Open ∷ ls) (append_assoc inner (Sign symbol.Close ∷ []) more)

module _ {T : Type 0} (form : Form T) (read : List Lexeme → Option (T × List Lexeme)) where
  -- what is read behind a bracket, up to the one that closes, is spelled so
  pub closed_sound : IsSound form read → (lexemes left rest : List Lexeme) (tree : T) → lexemes ≡ Sign symbol.Open ∷ left → closed_of read left ≡ Some (tree, rest) → Begins (Bracketed form) lexemes rest tree
  closed_sound sound lexemes left rest tree o e =
      let a = bind_some (read left) _ (tree, rest) e in
      let b = bind_some (after (Sign symbol.Close) a.0.1) _ (tree, rest) a.2 in
      let s = sound left a.0.1 a.0.0 a.1 in
      let front = Sign symbol.Open ∷ (s.front ++ Sign symbol.Close ∷ []) in
      record {
        front = front;
        whole =
            o
            ∙ ap (λ ls. Sign symbol.Open ∷ ls) (s.whole ∙ ap (λ ls. s.front ++ ls) (after_is _ a.0.1 b.0 b.1 ∙ ap (λ ls. Sign symbol.Close ∷ ls) (same_rest b.2)))
            ∙ sym (brackets_append s.front rest);
        spelled = subst (Bracketed form front) (same_tree b.2) (record { inner = s.front; brackets = refl; body = s.spelled });
      }

  -- what is read in brackets is spelled so
  pub bracketed_sound : IsSound form read → IsSound (Bracketed form) (bracketed_of read)
  unfolding bracketed_of
  bracketed_sound sound lexemes rest tree e =
      let a = bind_some (after (Sign symbol.Open) lexemes) _ (tree, rest) e in
      closed_sound sound lexemes a.0 rest tree (after_is _ lexemes a.0 a.1) a.2

  -- brackets have a lexeme at least
  bracketed_nonempty : (front : List Lexeme) (tree : T) → Bracketed form front tree → 0 < length front
  bracketed_nonempty front tree s = omega (arith, ap length s.brackets)

  -- and so one is taken
  pub bracketed_shrinks : IsSound form read → Shrinks (bracketed_of read)
  bracketed_shrinks sound = sound_shrinks (Bracketed form) (bracketed_of read) (bracketed_sound sound) bracketed_nonempty

  -- what is read in front of the bracket that closes
  pub closed_read : (left more : List Lexeme) (tree : T) → read left ≡ Some (tree, Sign symbol.Close ∷ more) → closed_of read left ≡ Some (tree, more)
  unfolding after
  closed_read left more tree e = ap (option_and_then (λ (inner : T × List Lexeme). option_and_then (λ close. Some (inner.0, close)) (after (Sign symbol.Close) inner.1))) e

  -- what is spelled in brackets is read, where it ends before the one that closes
  pub bracketed_complete : (ends : List Lexeme → Type 0) → ((rest : List Lexeme) → ends (Sign symbol.Close ∷ rest)) → IsCompleteBefore form ends read → IsComplete (Bracketed form) (bracketed_of read)
  unfolding bracketed_of after
  bracketed_complete ends closes complete front more tree s =
      ap (λ ls. bracketed_of read (ls ++ more)) s.brackets
      ∙ ap (bracketed_of read) (brackets_append s.inner more)
      ∙ closed_read (s.inner ++ Sign symbol.Close ∷ more) more tree (complete s.inner (Sign symbol.Close ∷ more) tree (closes more) s.body)

module _ {T : Type 0} (form : Form T) (item : List Lexeme → Option (T × List Lexeme)) where
  -- items that are read in brackets are spelled so
  pub items_in_brackets_sound : IsSound form item → IsSound (Bracketed (Commas form)) (bracketed_of (separated_of item (Sign symbol.Comma)))
  items_in_brackets_sound sound = bracketed_sound (Commas form) (separated_of item (Sign symbol.Comma)) (separated_sound form item (Sign symbol.Comma) sound)

  -- and take a lexeme at least
  pub items_in_brackets_shrink : IsSound form item → Shrinks (bracketed_of (separated_of item (Sign symbol.Comma)))
  items_in_brackets_shrink sound = bracketed_shrinks (Commas form) (separated_of item (Sign symbol.Comma)) (separated_sound form item (Sign symbol.Comma) sound)

  -- items that are spelled in brackets are read, where one ends before a comma and before the bracket that closes
  pub items_in_brackets_complete : (ends : List Lexeme → Type 0) → ((rest : List Lexeme) → ends (Sign symbol.Comma ∷ rest)) → ((rest : List Lexeme) → ends (Sign symbol.Close ∷ rest)) → IsCompleteBefore form ends item → Shrinks item → IsComplete (Bracketed (Commas form)) (bracketed_of (separated_of item (Sign symbol.Comma)))
  items_in_brackets_complete ends goes_on closes complete shrinks =
      bracketed_complete (Commas form) (separated_of item (Sign symbol.Comma)) (λ more. ends more × (after (Sign symbol.Comma) more ≡ None)) (λ rest. (closes rest, no_comma_close rest))
      (λ front more trees end s. separated_complete_before form item (Sign symbol.Comma) ends refl goes_on complete shrinks front more trees end.0 end.1 s)
