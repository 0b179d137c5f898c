-- Reserved words by their length.
use Rattle.std.proofs.Common.{◌≡◌, ℕ, Bool, true, false, ◌&&◌, ◌<◌, ◌==◌, leb, List, length, map, sym, ap, ◌∙◌, ◌⊎◌, inl, inr, arith}
use Rattle.std.specs.List.{filter, list_any}
use Rattle.std.specs.Str.{bytes_eq}
use Rattle.std.proofs.lemmas.Bool.{eq-eqb}
use Rattle.std.proofs.lemmas.Bool.Decides.{nat_tests}
use Rattle.std.proofs.lemmas.List.{length-map}
use Rattle.std.proofs.lemmas.Map.Views.{any-filter_same}
use Rattle.std.proofs.lemmas.Slice.Eq.{bytes_eq-Decides}
use Rattle.mt_lexer.specs.Tokens.{lower}
use Rattle.mt_lexer.specs.Reserved.{is_reserved_name, reserved}

-- the reserved words of this length
abbrev pub reserved_of : ℕ → List (List ℕ)
reserved_of n = filter (λ word. length word == n) reserved

-- equal words have one length
same_length : (word other : List ℕ) → bytes_eq (map lower word) other ≡ true → length other ≡ length word
same_length word other same = sym (ap length ((bytes_eq-Decides (map lower word) other).0 same)) ∙ length-map word lower

-- only words of its length need be looked at
pub among_its_length : (word : List ℕ) (n : ℕ) → length word ≡ n → list_any (bytes_eq (map lower word)) (reserved_of n) ≡ is_reserved_name (map lower word)
among_its_length word n long =
    any-filter_same (bytes_eq (map lower word)) (λ other. length other == n) true (λ other same. eq-eqb (length other) n (same_length word other same ∙ long)) reserved

-- a reserved word has two letters at least and eight at most
abbrev fits : List ℕ → Bool
fits word = leb 2 (length word) && leb (length word) 8

pub none_of_length : (word : List ℕ) → (length word < 2) ⊎ (8 < length word) → is_reserved_name (map lower word) ≡ false
unfolding reserved
none_of_length word long = any-filter_same (bytes_eq (map lower word)) fits false (λ other same. not_fitting other (same_length word other same)) reserved where
  not_fitting : (other : List ℕ) → length other ≡ length word → fits other ≡ false
  not_fitting other e = elim long [ inl few ↦ grind (arith, nat_tests) | inr many ↦ grind (arith, nat_tests) ]
