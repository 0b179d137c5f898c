-- Each text gives something, and numbers are inside 64 bits or not.
use Rattle.std.proofs.Common.{◌≡◌, ◌⊎◌, ℕ, ◌<◌, pos, negsuc, Option, Some, None, IfSome, All, Result, Ok, Err, List, [], ◌∷◌, refl, sym, ap, ◌∙◌, inl, inr, arith}
use Rattle.std.proofs.lemmas.Bool.{cases_lt}
use Rattle.std.proofs.lemmas.Int.{ints}
use Rattle.std.proofs.lemmas.List.Elements.{All-cons, All-tail, All-head}
use Rattle.mt_lexer.proofs.Decided.{says_or_not}
use Rattle.mt_lexer.proofs.Determined.{says_unique, refused_says_nothing}
use Rattle.mt_lexer.specs.declared.token.Token.{Token}
use Rattle.mt_lexer.specs.Tokens as lexer
use Rattle.mt_lexer.specs.Tokens.{Lexeme}
use Rattle.mt_tree.specs.declared.expression.Literal.{Literal}
use Rattle.mt_tree.specs.declared.expression.Literal.TheVariants.{Null, Int, Text}
use Rattle.mt_reader.specs.declared.parse.ParseFault.{ParseFault}
use Rattle.mt_reader.specs.declared.parse.ParseFault.TheVariants as fault
use Rattle.mt_reader.specs.Forms.{Form, WithSemicolon}
use Rattle.mt_reader.specs.Literals.{IsLiteralInside, limit_64}
use Rattle.mt_reader.specs.Reading.{ReadsAs, Gives}

-- this holds, or it does not
abbrev pub OrNot : Type 0 → Type 0
OrNot P = P ⊎ (P → ⊥)

-- whether each member of a list passes, where it is known of one
pub all_or_not : {X : Type 0} (P : X → Type 0) → ((x : X) → OrNot (P x)) → (xs : List X) → OrNot (All P xs)
all_or_not P each [] = inl (λ k d below. absurd (omega arith))
all_or_not P each (x ∷ xs) = by (each x) (all_or_not P each xs) where
  by : OrNot (P x) → OrNot (All P xs) → OrNot (All P (x ∷ xs))
  by (inl p) (inl ps) = inl (All-cons P x xs p ps)
  by (inl p) (inr fails) = inr (λ all. fails (All-tail P x xs all))
  by (inr fails) ps = inr (λ all. fails (All-head P x xs all))

-- whether both hold
pub both_or_not : {P Q : Type 0} → OrNot P → OrNot Q → OrNot (P × Q)
both_or_not (inl p) (inl q) = inl (p, q)
both_or_not (inl p) (inr fails) = inr (λ both. fails both.1)
both_or_not (inr fails) q = inr (λ both. fails both.0)

-- whether what is there passes
pub some_or_not : {X : Type 0} (P : X → Type 0) → ((x : X) → OrNot (P x)) → (o : Option X) → OrNot (IfSome o P)
some_or_not P each None = inl tt
some_or_not P each (Some x) = each x

-- whether a number is below a limit
pub below_or_not : (n limit : ℕ) → OrNot (n < limit)
below_or_not n limit = elim (cases_lt n limit) [ inl below ↦ inl below | inr above ↦ inr (λ below. omega arith) ]

-- whether a literal is inside 64 bits
pub literal_or_not : (literal : Literal) → OrNot (IsLiteralInside literal)
literal_or_not Null = inl tt
literal_or_not (Text text) = inl tt
literal_or_not (Int (pos n)) = elim (below_or_not n limit_64) [ inl below ↦ inl (omega (arith, ints), omega (arith, ints)) | inr above ↦ inr (λ inside. above (omega (arith, ints, inside.1))) ]
literal_or_not (Int (negsuc n)) = elim (below_or_not n limit_64) [ inl below ↦ inl (omega (arith, ints), omega (arith, ints)) | inr above ↦ inr (λ inside. above (omega (arith, ints, inside.0))) ]

-- what a text gives where memory is not wanting
abbrev pub Gift : {T : Type 0} → Form T → (T → Type 0) → List ℕ → Type 0
Gift {T} form inside text = (r : Result T ParseFault) × Gives form inside text r × (r ≡ Err fault.Memory → ⊥)

module _ {T : Type 0} (form : Form T) (inside : T → Type 0) (whole : List Lexeme → Option T) (sound : (lexemes : List Lexeme) (tree : T) → whole lexemes ≡ Some tree → WithSemicolon form lexemes tree)
    (complete : (lexemes : List Lexeme) (tree : T) → WithSemicolon form lexemes tree → whole lexemes ≡ Some tree) (inside_or_not : (tree : T) → OrNot (inside tree)) where
  -- what the lexemes of a text give
  lexemes_give : (text : List ℕ) (tokens : List Token) (lexemes : List Lexeme) → lexer.Says text tokens lexemes → (read : Option T) → whole lexemes ≡ read → Gift form inside text
  lexemes_give text tokens lexemes says None e = (
    Err fault.Syntax,
    (λ tree reads.
        let same = says_unique text reads.tokens tokens reads.lexemes lexemes reads.says says in
        let some : whole lexemes ≡ Some tree = ap whole (sym same.1) ∙ complete reads.lexemes tree reads.spelled in
        let contrary : None ≡ Some tree = sym e ∙ some in
        cc),
    λ same. cc,
  )
  lexemes_give text tokens lexemes says (Some tree) e =
      let reads : ReadsAs form text tree = record { tokens = tokens; lexemes = lexemes; says = says; spelled = sound lexemes tree e } in
      elim (inside_or_not tree) [ inl is ↦ (Ok tree, (reads, is), λ same. cc) | inr fails ↦ (Err fault.Literal, (tree, reads, fails), λ same. cc) ]

  -- what a text gives
  pub text_gives : (text : List ℕ) → Gift form inside text
  text_gives text = elim (says_or_not text) [
    | inl found ↦ lexemes_give text found.0 found.1 found.2 (whole found.1) refl
    | inr none ↦ (Err fault.Syntax, (λ tree reads. refused_says_nothing text none.0 reads.tokens reads.lexemes none.1 reads.says), λ same. cc)
  ]
