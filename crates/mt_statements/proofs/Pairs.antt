-- Two parts one behind the other, which make one tree: what is read is spelled so.
use Rattle.std.proofs.Common.{Option, Some, List, ◌++◌, refl, sym, ap, ◌∙◌, subst, append_assoc}
use Rattle.std.specs.Option.{option_and_then}
use Rattle.mt_lexer.specs.Tokens.{Lexeme}
use Rattle.mt_reader.specs.Forms.{Form, Parts}
use Rattle.mt_reader.proofs.Shrinking.{bind_some, same_tree, same_rest}
use Rattle.mt_reader.proofs.Spelling.{IsSound}

module _ {A B T : Type 0} (first : Form A) (second : Form B) (form : Form T) (read : List Lexeme → Option (A × List Lexeme)) (behind : List Lexeme → Option (B × List Lexeme)) (make : A → B → T) where
  -- what reads the one part, and the other behind it
  abbrev pub pair_of : List Lexeme → Option (T × List Lexeme)
  pair_of lexemes = option_and_then (λ (a : A × List Lexeme). option_and_then (λ (b : B × List Lexeme). Some (make a.0 b.0, b.1)) (behind a.1)) (read lexemes)

  -- what is read is spelled so
  pub pair_sound : IsSound first read → IsSound second behind → ((a : A) (b : B) (tokens : List Lexeme) → Parts (λ front. first front a) (λ back. second back b) tokens → form tokens (make a b)) → IsSound form pair_of
  pair_sound reads follows spelled lexemes rest tree e =
      let a = bind_some (read lexemes) _ (tree, rest) e in
      let b = bind_some (behind a.0.1) _ (tree, rest) a.2 in
      let s = reads lexemes a.0.1 a.0.0 a.1 in
      let t = follows a.0.1 b.0.1 b.0.0 b.1 in
      let front = s.front ++ t.front in
      record {
        front = front;
        whole = s.whole ∙ ap (λ ls. s.front ++ ls) (t.whole ∙ ap (λ ls. t.front ++ ls) (same_rest b.2)) ∙ sym (append_assoc s.front t.front rest);
        spelled = subst (form front) (same_tree b.2) (spelled a.0.0 b.0.0 front (record { front = s.front; back = t.front; split = refl; is_left = s.spelled; is_right = t.spelled }));
      }
