-- The members of a sum, as far as a loop has read.
use Rattle.std.proofs.Common.{◌≡◌, ℕ, zero, suc, ◌<◌, ◌≤◌, Bool, true, false, Option, Some, None, List, [], ◌∷◌, ◌++◌, length, length-append, drop, refl, sym, ap, ◌∙◌, append-nil, arith}
use Rattle.std.proofs.lemmas.List.Elements.{All-nil}
use Rattle.std.specs.List.{All}
use Rattle.std.specs.Option.{is_some, option_and_then}
use Rattle.mt_lexer.specs.declared.token.Symbol.{Symbol}
use Rattle.mt_lexer.specs.declared.token.Symbol.TheVariants as symbol
use Rattle.mt_lexer.specs.Tokens.{Lexeme, Word, Number, Quoted, Sign}
use Rattle.mt_tree.specs.declared.expression.Expr.{Expr}
use Rattle.mt_tree.specs.declared.expression.Term.{Term}
use Rattle.mt_reader.specs.declared.fault.ReadFault.{ReadFault}
use Rattle.mt_reader.specs.declared.fault.ReadFault.TheVariants as fault
use Rattle.mt_reader.specs.Descent.{first_symbol, with_front, pushed}
use Rattle.mt_reader.specs.Taken.{Keeps, Fails}
use Rattle.mt_reader.proofs.Shrinking.{bind_some, same_tree, same_rest}
use Rattle.mt_reader.proofs.Lists.{keeps_pushed, with_front-append}
use Rattle.mt_reader.proofs.Literals.{fails_bind}
use Rattle.mt_terms.specs.Expression.{sign_of as sign_lexeme}
use Rattle.mt_terms.specs.Descent.{minus_of, sign_of, tail_of, tail_behind, terms_of}

-- The members so far, one at least, and those behind each sign to come are all; this is kept of those
-- so far, and where no sign comes they are two or more.
pub record TermsSoFar (term : List Lexeme → Option (Expr × List Lexeme)) (inside : Term → Type 0) (all : Option (List Term × List Lexeme)) (left : List Lexeme) (terms : Option (List Term)) : Type 0 where
  pub front : List Term
  pub fuel : ℕ
  pub enough : length left ≤ fuel
  pub same : with_front front (tail_of term fuel left) ≡ all
  pub keeps : Keeps (All inside) terms front
  pub some : 0 < length front
  pub many : is_some (sign_of left) ≡ false → 2 ≤ length front

-- a symbol that is a sign is the one that it says
minus_is : (s : Symbol) (minus : Bool) → minus_of s ≡ Some minus → Sign s ≡ sign_lexeme minus
minus_is symbol.Plus minus e = let same : false ≡ minus = cc in ap sign_lexeme same
minus_is symbol.Minus minus e = let same : true ≡ minus = cc in ap sign_lexeme same
minus_is symbol.Equal minus e = cc
minus_is symbol.NotEqual minus e = cc
minus_is symbol.Less minus e = cc
minus_is symbol.LessEqual minus e = cc
minus_is symbol.Greater minus e = cc
minus_is symbol.GreaterEqual minus e = cc
minus_is symbol.Open minus e = cc
minus_is symbol.Close minus e = cc
minus_is symbol.Comma minus e = cc
minus_is symbol.Dot minus e = cc
minus_is symbol.Star minus e = cc
minus_is symbol.Semicolon minus e = cc

-- the symbol that comes first stands first
pub first_symbol_is : (lexemes : List Lexeme) (s : Symbol) → first_symbol lexemes ≡ Some s → lexemes ≡ Sign s ∷ drop 1 lexemes
first_symbol_is [] s e = cc
first_symbol_is (Word name ∷ rest) s e = cc
first_symbol_is (Number value ∷ rest) s e = cc
first_symbol_is (Quoted text ∷ rest) s e = cc
first_symbol_is (Sign sign ∷ rest) s e = let same : sign ≡ s = cc in ap (λ t. Sign t ∷ rest) same

-- a sign is one lexeme
pub sign_is : (lexemes rest : List Lexeme) (minus : Bool) → sign_of lexemes ≡ Some (minus, rest) → lexemes ≡ sign_lexeme minus ∷ rest
unfolding sign_of
sign_is lexemes rest minus e =
    let a = bind_some (first_symbol lexemes) _ (minus, rest) e in
    let b = bind_some (minus_of a.0) _ (minus, rest) a.2 in
    first_symbol_is lexemes a.0 a.1
    ∙ ap (λ first. first ∷ drop 1 lexemes) (minus_is a.0 b.0 b.1)
    ∙ ap (λ m. sign_lexeme m ∷ drop 1 lexemes) (same_tree b.2)
    ∙ ap (λ ls. sign_lexeme minus ∷ ls) (same_rest b.2)

module _ (term : List Lexeme → Option (Expr × List Lexeme)) where
  -- one more member, where there is fuel
  pub tail_of-sign : (fuel : ℕ) (left mid rest : List Lexeme) (minus : Bool) (e : Expr) → sign_of left ≡ Some (minus, mid) → term mid ≡ Some (e, rest) → tail_of term (suc fuel) left ≡ with_front (record { minus = minus; expr = e } ∷ []) (tail_of term fuel rest)
  tail_of-sign fuel left mid rest minus e s t =
      ap (λ sign. tail_behind term (tail_of term fuel) sign left) s
      ∙ ap (option_and_then (λ (found : Expr × List Lexeme). with_front (record { minus = minus; expr = found.0 } ∷ []) (tail_of term fuel found.1))) t

  -- no more members
  pub tail_of-end : (fuel : ℕ) (left : List Lexeme) → sign_of left ≡ None → tail_of term fuel left ≡ Some ([], left)
  tail_of-end zero left s = refl
  tail_of-end (suc fuel) left s = ap (λ sign. tail_behind term (tail_of term fuel) sign left) s

  module _ (inside : Term → Type 0) where
    -- behind the first member, where a sign comes
    pub terms_so_far_first : (lexemes mid : List Lexeme) (kept : Option Term) (e : Expr) → is_some (sign_of mid) ≡ true → term lexemes ≡ Some (e, mid) → Keeps inside kept (record { minus = false; expr = e }) → TermsSoFar term inside (terms_of term lexemes) mid (pushed (Some []) kept)
    unfolding terms_of
    terms_so_far_first lexemes mid kept e more t k = record {
      front = record { minus = false; expr = e } ∷ [];
      fuel = length mid;
      enough = omega arith;
      same = sym (ap (option_and_then (λ (first : Expr × List Lexeme). with_front (record { minus = false; expr = first.0 } ∷ []) (tail_of term (length first.1) first.1))) t);
      keeps = keeps_pushed inside (Some []) kept [] (record { minus = false; expr = e }) (refl, All-nil inside) k;
      some = omega arith;
      many = λ none. cc;
    }

    -- why the first member fails is why all do
    pub terms_first_fault : (lexemes : List Lexeme) (e : ReadFault) → Fails e (term lexemes) → Fails e (terms_of term lexemes)
    unfolding terms_of
    terms_first_fault lexemes e f = fails_bind e (term lexemes) _ f

    module _ (all : Option (List Term × List Lexeme)) (left : List Lexeme) (terms : Option (List Term)) (s : TermsSoFar term inside all left terms) where
      -- a sign, and so one more member
      pub terms_so_far_more : (mid rest : List Lexeme) (minus : Bool) (kept : Option Term) (e : Expr) → sign_of left ≡ Some (minus, mid) → term mid ≡ Some (e, rest) → length rest < length mid → Keeps inside kept (record { minus = minus; expr = e }) → TermsSoFar term inside all rest (pushed terms kept)
      terms_so_far_more mid rest minus kept e sign t shorter k = step s.fuel s.enough s.same where
        one : Term
        one = record { minus = minus; expr = e }

        step : (fuel : ℕ) → length left ≤ fuel → with_front s.front (tail_of term fuel left) ≡ all → TermsSoFar term inside all rest (pushed terms kept)
        step zero enough same = absurd (omega (arith, ap length (sign_is left mid minus sign)))
        step (suc fuel) enough same = record {
          front = s.front ++ one ∷ [];
          fuel = fuel;
          enough = omega (arith, ap length (sign_is left mid minus sign));
          same = sym (with_front-append s.front (one ∷ []) (tail_of term fuel rest)) ∙ ap (with_front s.front) (sym (tail_of-sign fuel left mid rest minus e sign t)) ∙ same;
          keeps = keeps_pushed inside terms kept s.front one s.keeps k;
          some = omega (arith, length-append s.front (one ∷ []));
          many = λ none. omega (arith, s.some, length-append s.front (one ∷ []));
        }

      -- no sign, and so all members
      pub terms_so_far_all : sign_of left ≡ None → all ≡ Some (s.front, left)
      terms_so_far_all sign = sym s.same ∙ ap (with_front s.front) (tail_of-end s.fuel left sign) ∙ ap (λ ts. Some (ts, left)) (append-nil s.front)

      -- why a member fails is why all of them do
      pub terms_so_far_fault : (mid : List Lexeme) (minus : Bool) (e : ReadFault) → sign_of left ≡ Some (minus, mid) → Fails e (term mid) → Fails e all
      terms_so_far_fault mid minus fault.Memory sign f = tt
      terms_so_far_fault mid minus fault.Unread sign f = step s.fuel s.enough s.same where
        step : (fuel : ℕ) → length left ≤ fuel → with_front s.front (tail_of term fuel left) ≡ all → all ≡ None
        step zero enough same = absurd (omega (arith, ap length (sign_is left mid minus sign)))
        step (suc fuel) enough same =
            sym same
            ∙ ap (λ sign. with_front s.front (tail_behind term (tail_of term fuel) sign left)) sign
            ∙ ap (λ found. with_front s.front (option_and_then (λ (found : Expr × List Lexeme). with_front (record { minus = minus; expr = found.0 } ∷ []) (tail_of term fuel found.1)) found)) f
