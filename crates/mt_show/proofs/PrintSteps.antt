-- Lists are printed member by member.
use Rattle.std.proofs.Common.{◌≡◌, ℕ, suc, ◌+◌, ◌<◌, ◌==◌, Bool, List, [], ◌∷◌, ◌++◌, length, map, take, get_or, refl, sym, ap, ◌∙◌, arith}
use Rattle.std.proofs.lemmas.Bool.{cond-false, ne_eqb}
use Rattle.std.proofs.lemmas.List.{append_assoc, append-nil, map_more, length-map, length-take-le}
use Rattle.std.proofs.lemmas.List.Concat.{flat_map-append}
use Rattle.std.specs.List.{flat_map}
use Rattle.mt_lexer.specs.Tokens.{Lexeme}
use Rattle.mt_terms.specs.Expression.{sign_of}
use Rattle.mt_show.specs.Spaced.{spaced}
use Rattle.mt_show.proofs.Joined.{spaced-append}
use Rattle.mt_show.specs.Shown.{Places, between, sum_tokens, signed_tokens}
use Rattle.mt_show.specs.Printing.{before_others}

-- a separator stands in front of each member but the first
before_suc : (n : ℕ) (by : Lexeme) → before_others (suc n) by ≡ by ∷ []
before_suc n by = cond-false (suc n == 0) [] (by ∷ []) (ne_eqb (suc n) 0 (λ e. omega arith))

-- a separator and one more member behind the others
between_push : (by : Lexeme) (lists : List (List Lexeme)) (last : List Lexeme) → between by (lists ++ last ∷ []) ≡ between by lists ++ (before_others (length lists) by ++ last)
between_push by [] last = refl
between_push by (x ∷ []) last = refl
between_push by (x ∷ y ∷ ys) last =
    ap (λ tokens. x ++ by ∷ tokens) (between_push by (y ∷ ys) last)
    ∙ ap (λ more. x ++ by ∷ (between by (y ∷ ys) ++ (more ++ last))) (before_suc (length ys) by ∙ sym (before_suc (suc (length ys)) by))
    ∙ sym (append_assoc x (by ∷ between by (y ∷ ys)) (before_others (length (x ∷ y ∷ ys)) by ++ last))

module _ {X : Type 0} (f : X → List Lexeme) where
  -- the same for the first members of a list
  between_more : (by : Lexeme) (xs : List X) (i : ℕ) (d : X) → i < length xs → between by (map f (take (i + 1) xs)) ≡ between by (map f (take i xs)) ++ (before_others i by ++ f (get_or xs i d))
  between_more by xs i d h =
      let n : length (map f (take i xs)) ≡ i = length-map (take i xs) f ∙ length-take-le i xs (omega arith) in
      ap (between by) (map_more f xs i d h) ∙ between_push by (map f (take i xs)) (f (get_or xs i d)) ∙ ap (λ k. between by (map f (take i xs)) ++ (before_others k by ++ f (get_or xs i d))) n

-- one more member of a sum behind the others
sum_push : (members : List (Bool × Places)) (last : Bool × Places) → sum_tokens (members ++ last ∷ []) ≡ sum_tokens members ++ (before_others (length members) (sign_of last.0) ++ last.1.outer)
sum_push [] last = append-nil last.1.outer
sum_push (first ∷ others) last =
    ap (λ more. first.1.outer ++ more) (flat_map-append signed_tokens others (last ∷ []) ∙ ap (λ more. flat_map signed_tokens others ++ more) (append-nil (signed_tokens last)))
    ∙ sym (append_assoc first.1.outer (flat_map signed_tokens others) (signed_tokens last))
    ∙ ap (λ more. (first.1.outer ++ flat_map signed_tokens others) ++ (more ++ last.1.outer)) (sym (before_suc (length others) (sign_of last.0)))

module _ {X : Type 0} (f : X → Bool × Places) where
  -- the same for the first members
  sum_more : (xs : List X) (i : ℕ) (d : X) → i < length xs → sum_tokens (map f (take (i + 1) xs)) ≡ sum_tokens (map f (take i xs)) ++ (before_others i (sign_of (f (get_or xs i d)).0) ++ (f (get_or xs i d)).1.outer)
  sum_more xs i d h =
      let n : length (map f (take i xs)) ≡ i = length-map (take i xs) f ∙ length-take-le i xs (omega arith) in
      ap sum_tokens (map_more f xs i d h) ∙ sum_push (map f (take i xs)) (f (get_or xs i d)) ∙ ap (λ k. sum_tokens (map f (take i xs)) ++ (before_others k (sign_of (f (get_or xs i d)).0) ++ (f (get_or xs i d)).1.outer)) n

-- three texts of tokens, one behind the other
printed_three : (s0 s1 s2 s3 : List ℕ) (a b c : List Lexeme) → s1 ≡ s0 ++ spaced a → s2 ≡ s1 ++ spaced b → s3 ≡ s2 ++ spaced c → s3 ≡ s0 ++ spaced (a ++ (b ++ c))
printed_three s0 s1 s2 s3 a b c first second third =
    third
    ∙ ap (λ text. text ++ spaced c) (second ∙ ap (λ text. text ++ spaced b) first)
    ∙ append_assoc (s0 ++ spaced a) (spaced b) (spaced c)
    ∙ append_assoc s0 (spaced a) (spaced b ++ spaced c)
    ∙ ap (λ text. s0 ++ (spaced a ++ text)) (sym (spaced-append b c))
    ∙ ap (λ text. s0 ++ text) (sym (spaced-append a (b ++ c)))

-- what is printed of the first members, and of one more
pub member_printed : {X : Type 0} (f : X → List Lexeme) (by : Lexeme) (xs : List X) (i : ℕ) (x : X) (old so_far behind new : List ℕ) → i < length xs → x ≡ get_or xs i x → so_far ≡ old ++ spaced (between by (map f (take i xs))) → behind ≡ so_far ++ spaced (before_others i by) → new ≡ behind ++ spaced (f x) → new ≡ old ++ spaced (between by (map f (take (i + 1) xs)))
member_printed f by xs i x old so_far behind new h is first second third =
    let whole : between by (map f (take (i + 1) xs)) ≡ between by (map f (take i xs)) ++ (before_others i by ++ f x) = between_more f by xs i x h ∙ ap (λ tokens. between by (map f (take i xs)) ++ (before_others i by ++ f tokens)) (sym is) in
    printed_three old so_far behind new (between by (map f (take i xs))) (before_others i by) (f x) first second third ∙ ap (λ tokens. old ++ spaced tokens) (sym whole)

-- the same of a sum
pub term_printed : {X : Type 0} (f : X → Bool × Places) (xs : List X) (i : ℕ) (x : X) (old so_far behind new : List ℕ) → i < length xs → x ≡ get_or xs i x → so_far ≡ old ++ spaced (sum_tokens (map f (take i xs))) → behind ≡ so_far ++ spaced (before_others i (sign_of (f x).0)) → new ≡ behind ++ spaced ((f x).1.outer) → new ≡ old ++ spaced (sum_tokens (map f (take (i + 1) xs)))
term_printed f xs i x old so_far behind new h is first second third =
    let whole : sum_tokens (map f (take (i + 1) xs)) ≡ sum_tokens (map f (take i xs)) ++ (before_others i (sign_of (f x).0) ++ (f x).1.outer) = sum_more f xs i x h ∙ ap (λ member. sum_tokens (map f (take i xs)) ++ (before_others i (sign_of (f member).0) ++ (f member).1.outer)) (sym is) in
    printed_three old so_far behind new (sum_tokens (map f (take i xs))) (before_others i (sign_of (f x).0)) ((f x).1.outer) first second third ∙ ap (λ tokens. old ++ spaced tokens) (sym whole)
