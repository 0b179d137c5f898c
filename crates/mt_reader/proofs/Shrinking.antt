-- An item takes a lexeme at least.
use Rattle.std.proofs.Common.{◌≡◌, ℕ, ◌<◌, Bool, true, false, cond, Option, Some, None, List, [], ◌∷◌, length, refl, ap, arith}
use Rattle.std.specs.Option.{option_and_then}
use Rattle.mt_lexer.specs.declared.token.Symbol.TheVariants as symbol
use Rattle.mt_lexer.specs.Tokens.{Lexeme, Word, Number, Quoted, Sign}
use Rattle.mt_tree.specs.declared.expression.Literal.{Literal}
use Rattle.mt_reader.specs.Descent.{is_same, after, name_of, number_of, literal_of}
use Rattle.mt_lexer.specs.Reserved.{is_reserved_name}

-- what was read in two steps
pub bind_some : {A B : Type 0} (o : Option A) (f : A → Option B) (b : B) → option_and_then f o ≡ Some b → (a : A) × (o ≡ Some a) × (f a ≡ Some b)
bind_some None f b e = cc
bind_some (Some a) f b e = (a, refl, e)

-- what was read under a test
pub test_some : {A : Type 0} (t : Bool) (o : Option A) (a : A) → cond t None o ≡ Some a → (t ≡ false) × (o ≡ Some a)
test_some true o a e = cc
test_some false o a e = (refl, e)

-- what was read where a test holds
pub guard_some : {A : Type 0} (t : Bool) (o : Option A) (a : A) → cond t o None ≡ Some a → (t ≡ true) × (o ≡ Some a)
guard_some true o a e = (refl, e)
guard_some false o a e = cc

-- one answer is one tree, and one rest
pub same_tree : {X : Type 0} {x y : X} {lexemes others : List Lexeme} → ◌≡◌ {A = Option (X × List Lexeme)} (Some (x, lexemes)) (Some (y, others)) → x ≡ y
same_tree {X} {x} {y} {lexemes} {others} e = let p : ◌≡◌ {A = X × List Lexeme} (x, lexemes) (y, others) = cc in ap (λ q. q.0) p

-- and one rest
pub same_rest : {X : Type 0} {x y : X} {lexemes others : List Lexeme} → ◌≡◌ {A = Option (X × List Lexeme)} (Some (x, lexemes)) (Some (y, others)) → lexemes ≡ others
same_rest {X} {x} {y} {lexemes} {others} e = let p : ◌≡◌ {A = X × List Lexeme} (x, lexemes) (y, others) = cc in ap (λ q. q.1) p

-- a word or a symbol
pub after_shrinks : (lexeme : Lexeme) (lexemes rest : List Lexeme) → after lexeme lexemes ≡ Some rest → length rest < length lexemes
unfolding after
after_shrinks lexeme [] rest e = cc
after_shrinks lexeme (first ∷ left) rest e =
    let same : left ≡ rest = let p = guard_some (is_same first lexeme) (Some left) rest e in cc (p.1) in
    omega (arith, ap length same)

-- a name
pub name_shrinks : (lexemes rest : List Lexeme) (name : List ℕ) → name_of lexemes ≡ Some (name, rest) → length rest < length lexemes
unfolding name_of
name_shrinks [] rest name e = cc
name_shrinks (Word word ∷ left) rest name e =
    let same : left ≡ rest = same_rest ((test_some (is_reserved_name word) (Some (word, left)) (name, rest) e).1) in
    omega (arith, ap length same)
name_shrinks (Number value ∷ left) rest name e = cc
name_shrinks (Quoted text ∷ left) rest name e = cc
name_shrinks (Sign sign ∷ left) rest name e = cc

-- a number
pub number_shrinks : (lexemes rest : List Lexeme) (number : ℕ) → number_of lexemes ≡ Some (number, rest) → length rest < length lexemes
unfolding number_of
number_shrinks [] rest number e = cc
number_shrinks (Word word ∷ left) rest number e = cc
number_shrinks (Number value ∷ left) rest number e = let same : left ≡ rest = same_rest e in omega (arith, ap length same)
number_shrinks (Quoted text ∷ left) rest number e = cc
number_shrinks (Sign sign ∷ left) rest number e = cc

-- a literal
pub literal_shrinks : (lexemes rest : List Lexeme) (literal : Literal) → literal_of lexemes ≡ Some (literal, rest) → length rest < length lexemes
unfolding literal_of
literal_shrinks [] rest literal e = cc
literal_shrinks (Word word ∷ left) rest literal e =
    let p = bind_some (after _ (Word word ∷ left)) _ (literal, rest) e in
    let same : p.0 ≡ rest = same_rest p.2 in
    omega (arith, ap length same, after_shrinks _ (Word word ∷ left) p.0 p.1)
literal_shrinks (Number value ∷ left) rest literal e = let same : left ≡ rest = same_rest e in omega (arith, ap length same)
literal_shrinks (Quoted text ∷ left) rest literal e = let same : left ≡ rest = same_rest e in omega (arith, ap length same)
literal_shrinks (Sign sign ∷ left) rest literal e =
    let p = bind_some (after (Sign symbol.Minus) (Sign sign ∷ left)) _ (literal, rest) e in
    let q = bind_some (number_of p.0) _ (literal, rest) p.2 in
    let same : q.0.1 ≡ rest = same_rest q.2 in
    omega (arith, ap length same, after_shrinks _ (Sign sign ∷ left) p.0 p.1, number_shrinks p.0 q.0.1 q.0.0 q.1)
