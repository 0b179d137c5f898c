-- Expressions: what is read is spelled so, and what is spelled so is read.
use Rattle.std.proofs.Common.{◌≡◌, ℕ, zero, suc, ◌<◌, ◌≤◌, Bool, true, false, Option, Some, None, List, [], ◌∷◌, ◌++◌, length, refl, sym, ap, ◌∙◌, subst, append_assoc, append-nil, length-append, inl, inr, arith}
use Rattle.std.specs.Option.{option_and_then}
use Rattle.mt_lexer.specs.declared.token.Symbol.TheVariants as symbol
use Rattle.mt_lexer.specs.Tokens.{Lexeme, Sign}
use Rattle.mt_tree.specs.declared.expression.Atom.{Atom}
use Rattle.mt_tree.specs.declared.expression.Expr.{Expr}
use Rattle.mt_tree.specs.declared.expression.Expr.TheVariants as expr
use Rattle.mt_tree.specs.declared.expression.Term.{Term}
use Rattle.mt_reader.specs.Descent.{after, either, closed_of, literal_of, with_front}
use Rattle.mt_reader.specs.Forms.{Form, Bracketed}
use Rattle.mt_reader.specs.Fronts.{Begins}
use Rattle.mt_reader.proofs.Bracketing.{brackets_append, closed_sound}
use Rattle.mt_reader.proofs.Eithers.{either_some}
use Rattle.mt_reader.proofs.Shrinking.{bind_some, same_tree, same_rest}
use Rattle.mt_reader.proofs.Joining.{joined_sound, joined_complete_before}
use Rattle.mt_reader.proofs.Spelling.{IsSound, IsCompleteBefore, Shrinks, sound_shrinks, separated_nonempty, after_is}
use Rattle.mt_terms.specs.Expression.{SpellsAtomAlone, SpellsTerm, sign_of as sign_lexeme, SpellsTail, SpellsSum, SpellsFactor, SpellsExpr}
use Rattle.mt_terms.specs.Descent.{atom_of, literal_atom_of, alone_of, term_of, sign_of, tail_of, tail_behind, terms_of, sum_tree, sum_of, factor_of, expr_of}
use Rattle.mt_terms.proofs.Atoms.{NoDot, atom_sound, atom_complete, atom_nonempty}
use Rattle.mt_terms.proofs.Tails.{sign_is, tail_of-sign, tail_of-end}

-- an atom by itself

-- what is read is an atom
alone_sound : IsSound SpellsAtomAlone alone_of
unfolding alone_of
alone_sound lexemes rest e h =
    let a = bind_some (atom_of lexemes) _ (e, rest) h in
    let s = atom_sound lexemes a.0.1 a.0.0 a.1 in
    record { front = s.front; whole = s.whole ∙ ap (λ ls. s.front ++ ls) (same_rest a.2); spelled = (a.0.0, sym (same_tree a.2), s.spelled) }

-- an atom is read
alone_complete : IsCompleteBefore SpellsAtomAlone NoDot alone_of
unfolding alone_of
alone_complete front more e end s =
    ap (option_and_then (λ (found : Atom × List Lexeme). Some (expr.Atom found.0, found.1))) (atom_complete front more s.0 end s.2) ∙ ap (λ tree. Some (tree, more)) (sym s.1)

-- a bracket begins no atom
no_atom : (left : List Lexeme) → alone_of (Sign symbol.Open ∷ left) ≡ None
unfolding alone_of atom_of literal_atom_of literal_of after
no_atom left = refl

-- an atom begins with no bracket
no_open : (lexemes rest : List Lexeme) (e : Expr) → alone_of lexemes ≡ Some (e, rest) → after (Sign symbol.Open) lexemes ≡ None
no_open lexemes rest e h = by_open (after (Sign symbol.Open) lexemes) refl where
  by_open : (found : Option (List Lexeme)) → after (Sign symbol.Open) lexemes ≡ found → after (Sign symbol.Open) lexemes ≡ None
  by_open None a = a
  by_open (Some left) a =
      let both : ◌≡◌ {A = Option (Expr × List Lexeme)} None (Some (e, rest)) = sym (no_atom left) ∙ ap alone_of (sym (after_is _ lexemes left a)) ∙ h in
      cc

-- sums

-- no star comes first
abbrev NoStar : List Lexeme → Type 0
NoStar tokens = after (Sign symbol.Star) tokens ≡ None

-- the tokens do not go on with a term
abbrev EndsTerm : List Lexeme → Type 0
EndsTerm tokens = NoDot tokens × NoStar tokens

-- the tokens do not go on with a sum
abbrev pub EndsSum : List Lexeme → Type 0
EndsSum tokens = EndsTerm tokens × (sign_of tokens ≡ None)

-- a sign is taken
sign_of-lexeme : (minus : Bool) (rest : List Lexeme) → sign_of (sign_lexeme minus ∷ rest) ≡ Some (minus, rest)
unfolding sign_of
sign_of-lexeme true rest = refl
sign_of-lexeme false rest = refl

-- before a sign a term ends
ends_before_sign : (minus : Bool) (rest : List Lexeme) → EndsTerm (sign_lexeme minus ∷ rest)
unfolding after
ends_before_sign true rest = (refl, refl)
ends_before_sign false rest = (refl, refl)

module _ (form : Form Expr) (read : List Lexeme → Option (Expr × List Lexeme)) where
  -- what is read behind a term is spelled so
  tail_sound : IsSound form read → (fuel : ℕ) (lexemes rest : List Lexeme) (ts : List Term) → tail_of read fuel lexemes ≡ Some (ts, rest) → Begins (SpellsTail form) lexemes rest ts
  tail_sound sound zero lexemes rest ts e = record { front = []; whole = same_rest e; spelled = subst (SpellsTail form []) (same_tree e) refl }
  tail_sound sound (suc fuel) lexemes rest ts e = by_sign (sign_of lexemes) refl e (λ left. tail_sound sound fuel left) where
    by_sign : (sign : Option (Bool × List Lexeme)) → sign_of lexemes ≡ sign → tail_behind read (tail_of read fuel) sign lexemes ≡ Some (ts, rest) → ((left rest : List Lexeme) (ts : List Term) → tail_of read fuel left ≡ Some (ts, rest) → Begins (SpellsTail form) left rest ts) → Begins (SpellsTail form) lexemes rest ts
    by_sign None a e more = record { front = []; whole = same_rest e; spelled = subst (SpellsTail form []) (same_tree e) refl }
    by_sign (Some sign) a e more =
        let p = bind_some (read sign.1) _ (ts, rest) e in
        let q = bind_some (tail_of read fuel p.0.1) _ (ts, rest) p.2 in
        let first = sound sign.1 p.0.1 p.0.0 p.1 in
        let others = more p.0.1 q.0.1 q.0.0 q.1 in
        let one = sign_lexeme sign.0 ∷ first.front in
        record {
          front = one ++ others.front;
          whole =
              sign_is lexemes sign.1 sign.0 a
              ∙ ap (λ ls. sign_lexeme sign.0 ∷ ls) (first.whole ∙ ap (λ ls. first.front ++ ls) (others.whole ∙ ap (λ ls. others.front ++ ls) (same_rest q.2)))
              ∙ sym (append_assoc one others.front rest);
          spelled = subst (SpellsTail form (one ++ others.front)) (same_tree q.2) (record {
            front = one;
            back = others.front;
            split = refl;
            is_left = record { inner = first.front; prefix = refl; body = first.spelled };
            is_right = others.spelled;
          });
        }

  -- before a tail a term ends
  tail_ends : (back more : List Lexeme) (ts : List Term) → EndsSum more → SpellsTail form back ts → EndsTerm (back ++ more)
  tail_ends back more [] end s = subst (λ ls. EndsTerm (ls ++ more)) (sym s) end.0
  tail_ends back more (t ∷ ts) end s =
      let all : back ++ more ≡ sign_lexeme t.minus ∷ (s.is_left.inner ++ (s.back ++ more)) =
      ap (λ ls. ls ++ more) s.split ∙ append_assoc s.front s.back more ∙ ap (λ ls. ls ++ (s.back ++ more)) s.is_left.prefix in
      subst EndsTerm (sym all) (ends_before_sign t.minus (s.is_left.inner ++ (s.back ++ more)))

  -- what is spelled behind a term is read
  tail_complete : IsCompleteBefore form EndsTerm read → (fuel : ℕ) (front more : List Lexeme) (ts : List Term) → length front ≤ fuel → EndsSum more → SpellsTail form front ts → tail_of read fuel (front ++ more) ≡ Some (ts, more)
  tail_complete complete fuel front more [] h end s = ap (λ ls. tail_of read fuel (ls ++ more)) s ∙ tail_of-end read fuel more end.1
  tail_complete complete zero front more (t ∷ ts) h end s =
      absurd (omega (arith, ap length s.split, length-append s.front s.back, ap length s.is_left.prefix))
  tail_complete complete (suc fuel) front more (t ∷ ts) h end s =
      let rest = s.back ++ more in
      let mid = s.is_left.inner ++ rest in
      let all : front ++ more ≡ sign_lexeme t.minus ∷ mid =
      ap (λ ls. ls ++ more) s.split ∙ append_assoc s.front s.back more ∙ ap (λ ls. ls ++ rest) s.is_left.prefix in
      let first : read mid ≡ Some (t.expr, rest) = complete s.is_left.inner rest t.expr (tail_ends s.back more ts end s.is_right) s.is_left.body in
      let short : length s.back ≤ fuel = omega (arith, ap length s.split, length-append s.front s.back, ap length s.is_left.prefix) in
      ap (tail_of read (suc fuel)) all
      ∙ tail_of-sign read fuel (sign_lexeme t.minus ∷ mid) mid rest t.minus t.expr (sign_of-lexeme t.minus mid) first
      ∙ ap (with_front (t ∷ [])) (tail_complete complete fuel s.back more ts short end s.is_right)

  -- a term and a tail are read as terms
  terms_complete : IsCompleteBefore form EndsTerm read → (front back more : List Lexeme) (e : Expr) (ts : List Term) → EndsSum more → form front e → SpellsTail form back ts → terms_of read (front ++ (back ++ more)) ≡ Some (record { minus = false; expr = e } ∷ ts, more)
  unfolding terms_of
  terms_complete complete front back more e ts end f s =
      ap (option_and_then (λ (first : Expr × List Lexeme). with_front (record { minus = false; expr = first.0 } ∷ []) (tail_of read (length first.1) first.1))) (complete front (back ++ more) e (tail_ends back more ts end s) f)
      ∙ ap (with_front (record { minus = false; expr = e } ∷ [])) (tail_complete complete (length (back ++ more)) back more ts (omega (arith, length-append back more)) end s)

module _ (form : Form Expr) (factor : List Lexeme → Option (Expr × List Lexeme)) where
  -- what is read as a term is one
  pub term_sound : IsSound form factor → IsSound (SpellsTerm form) (term_of factor)
  unfolding term_of
  term_sound sound = joined_sound form factor (Sign symbol.Star) expr.Product sound

  -- a term is read
  term_complete : IsCompleteBefore form NoDot factor → Shrinks factor → IsCompleteBefore (SpellsTerm form) EndsTerm (term_of factor)
  unfolding term_of after
  term_complete complete shrinks front more e end s =
      joined_complete_before form factor (Sign symbol.Star) expr.Product NoDot refl (λ rest. refl) complete shrinks front more e end.0 end.1 s

  -- a term has a lexeme at least
  pub term_nonempty : ((front : List Lexeme) (e : Expr) → form front e → 0 < length front) → (front : List Lexeme) (e : Expr) → SpellsTerm form front e → 0 < length front
  term_nonempty nonempty front e s = elim s [ inl one ↦ nonempty front e one | inr m ↦ separated_nonempty form (Sign symbol.Star) nonempty front m.members m.separated ]

  -- how terms are spelled
  sum_spelled : (front back : List Lexeme) (e : Expr) (ts : List Term) → SpellsTerm form front e → SpellsTail (SpellsTerm form) back ts → SpellsSum form (front ++ back) (sum_tree (record { minus = false; expr = e } ∷ ts))
  sum_spelled front back e [] f s = inl (subst (λ ls. SpellsTerm form ls e) (sym (append-nil front) ∙ ap (λ ls. front ++ ls) (sym s)) f)
  sum_spelled front back e (t ∷ ts) f s = inr (record {
    first = e;
    second = t;
    others = ts;
    sum = refl;
    parts = record { front = front; back = back; split = refl; is_left = f; is_right = s };
  })

  -- what is read as a sum is one
  pub sum_sound : IsSound form factor → IsSound (SpellsSum form) (sum_of factor)
  unfolding sum_of terms_of
  sum_sound sound lexemes rest e h =
      let p = bind_some (terms_of (term_of factor) lexemes) _ (e, rest) h in
      let a = bind_some (term_of factor lexemes) _ p.0 p.1 in
      let b = bind_some (tail_of (term_of factor) (length a.0.1) a.0.1) _ p.0 a.2 in
      let first = term_sound sound lexemes a.0.1 a.0.0 a.1 in
      let others = tail_sound (SpellsTerm form) (term_of factor) (term_sound sound) (length a.0.1) a.0.1 b.0.1 b.0.0 b.1 in
      let tree : sum_tree (record { minus = false; expr = a.0.0 } ∷ b.0.0) ≡ e = ap sum_tree (same_tree b.2) ∙ same_tree p.2 in
      let last : b.0.1 ≡ rest = same_rest b.2 ∙ same_rest p.2 in
      record {
        front = first.front ++ others.front;
        whole = first.whole ∙ ap (λ ls. first.front ++ ls) (others.whole ∙ ap (λ ls. others.front ++ ls) last) ∙ sym (append_assoc first.front others.front rest);
        spelled = subst (SpellsSum form (first.front ++ others.front)) tree (sum_spelled first.front others.front a.0.0 b.0.0 first.spelled others.spelled);
      }

  -- a sum is read
  pub sum_complete : IsCompleteBefore form NoDot factor → Shrinks factor → IsCompleteBefore (SpellsSum form) EndsSum (sum_of factor)
  unfolding sum_of
  sum_complete complete shrinks front more e end s = elim s [
    | inl one ↦
        ap (option_and_then (λ (terms : List Term × List Lexeme). Some (sum_tree terms.0, terms.1)))
        (terms_complete (SpellsTerm form) (term_of factor) (term_complete complete shrinks) front [] more e [] end one refl)
    | inr m ↦
        ap (λ ls. sum_of factor (ls ++ more)) m.parts.split
        ∙ ap (sum_of factor) (append_assoc m.parts.front m.parts.back more)
        ∙ ap (option_and_then (λ (terms : List Term × List Lexeme). Some (sum_tree terms.0, terms.1)))
        (terms_complete (SpellsTerm form) (term_of factor) (term_complete complete shrinks) m.parts.front m.parts.back more m.first (m.second ∷ m.others) end m.parts.is_left m.parts.is_right)
        ∙ ap (λ tree. Some (tree, more)) (sym m.sum)
  ]

-- factors

-- a sum has a lexeme at least
sum_nonempty : (form : Form Expr) → ((front : List Lexeme) (e : Expr) → form front e → 0 < length front) → (front : List Lexeme) (e : Expr) → SpellsSum form front e → 0 < length front
sum_nonempty form nonempty front e s = elim s [
  | inl one ↦ term_nonempty form alone_of nonempty front e one
  | inr m ↦ omega (arith, ap length m.parts.split, length-append m.parts.front m.parts.back, term_nonempty form alone_of nonempty m.parts.front m.first m.parts.is_left)
]

-- what is bracketed has two
bracketed_nonempty : (form : Form Expr) (front : List Lexeme) (e : Expr) → Bracketed form front e → 0 < length front
bracketed_nonempty form front e s = omega (arith, ap length s.brackets)

-- a factor has a lexeme at least
factor_nonempty : (depth : ℕ) (front : List Lexeme) (e : Expr) → SpellsFactor depth front e → 0 < length front
factor_nonempty zero front e s = atom_nonempty front s.0 s.2
factor_nonempty (suc depth) front e s = elim s [ inl one ↦ atom_nonempty front one.0 one.2 | inr b ↦ bracketed_nonempty (SpellsSum (SpellsFactor depth)) front e b ]

-- what is read as a factor is one
pub factor_sound : (depth : ℕ) → IsSound (SpellsFactor depth) (factor_of depth)
unfolding factor_of
factor_sound zero lexemes rest e h = alone_sound lexemes rest e h
factor_sound (suc depth) lexemes rest e h =
    let sound = sum_sound (SpellsFactor depth) (factor_of depth) (factor_sound depth) in
    either_some (after (Sign symbol.Open) lexemes) (closed_of (sum_of (factor_of depth))) (alone_of lexemes) (e, rest)
    (λ left a h.
    let s = closed_sound (SpellsSum (SpellsFactor depth)) (sum_of (factor_of depth)) sound lexemes left rest e (after_is _ lexemes left a) h in
    record { front = s.front; whole = s.whole; spelled = inr s.spelled })
    (λ h. let s = alone_sound lexemes rest e h in record { front = s.front; whole = s.whole; spelled = inl s.spelled }) h

-- and so takes a lexeme at least
pub factor_shrinks : (depth : ℕ) → Shrinks (factor_of depth)
factor_shrinks depth = sound_shrinks (SpellsFactor depth) (factor_of depth) (factor_sound depth) (factor_nonempty depth)

-- and so does a term
pub term_shrinks : (depth : ℕ) → Shrinks (term_of (factor_of depth))
term_shrinks depth = sound_shrinks (SpellsTerm (SpellsFactor depth)) (term_of (factor_of depth)) (term_sound (SpellsFactor depth) (factor_of depth) (factor_sound depth)) (term_nonempty (SpellsFactor depth) (factor_of depth) (factor_nonempty depth))

-- before a bracket that closes a sum ends
ends_before_close : (rest : List Lexeme) → EndsSum (Sign symbol.Close ∷ rest)
unfolding after sign_of
ends_before_close rest = ((refl, refl), refl)

-- an atom is read as a factor
alone_factor : (depth : ℕ) (lexemes more : List Lexeme) (e : Expr) → alone_of lexemes ≡ Some (e, more) → factor_of (suc depth) lexemes ≡ Some (e, more)
unfolding factor_of
alone_factor depth lexemes more e read = ap (λ found. either found (closed_of (sum_of (factor_of depth))) (alone_of lexemes)) (no_open lexemes more e read) ∙ read

-- a sum in brackets is read as a factor
bracketed_factor : (depth : ℕ) (inner more : List Lexeme) (e : Expr) → sum_of (factor_of depth) (inner ++ Sign symbol.Close ∷ more) ≡ Some (e, Sign symbol.Close ∷ more) → factor_of (suc depth) (Sign symbol.Open ∷ (inner ++ Sign symbol.Close ∷ more)) ≡ Some (e, more)
unfolding factor_of after
bracketed_factor depth inner more e read = rw read refl

-- a factor is read, where no dot follows
pub factor_complete : (depth : ℕ) → IsCompleteBefore (SpellsFactor depth) NoDot (factor_of depth)
unfolding factor_of
factor_complete zero front more e end s = alone_complete front more e end s
factor_complete (suc depth) front more e end s = elim s [
  | inl one ↦ alone_factor depth (front ++ more) more e (alone_complete front more e end one)
  | inr b ↦
      let all : front ++ more ≡ Sign symbol.Open ∷ (b.inner ++ Sign symbol.Close ∷ more) = ap (λ ls. ls ++ more) b.brackets ∙ brackets_append b.inner more in
      let read = sum_complete (SpellsFactor depth) (factor_of depth) (factor_complete depth) (factor_shrinks depth) b.inner (Sign symbol.Close ∷ more) e (ends_before_close more) b.body in
      ap (factor_of (suc depth)) all ∙ bracketed_factor depth b.inner more e read
]

-- expressions

-- what is read is an expression
pub expr_sound : IsSound SpellsExpr expr_of
unfolding SpellsExpr expr_of
expr_sound = sum_sound (SpellsFactor 64) (factor_of 64) (factor_sound 64)

-- an expression is read
pub expr_complete : IsCompleteBefore SpellsExpr EndsSum expr_of
unfolding SpellsExpr expr_of
expr_complete = sum_complete (SpellsFactor 64) (factor_of 64) (factor_complete 64) (factor_shrinks 64)

-- an expression has a lexeme at least
pub expr_nonempty : (front : List Lexeme) (e : Expr) → SpellsExpr front e → 0 < length front
unfolding SpellsExpr
expr_nonempty = sum_nonempty (SpellsFactor 64) (factor_nonempty 64)

-- and so takes one
pub expr_shrinks : Shrinks expr_of
expr_shrinks = sound_shrinks SpellsExpr expr_of expr_sound expr_nonempty
