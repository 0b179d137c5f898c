-- Texts with their quotes doubled.
use Rattle.std.proofs.Common.{◌≡◌, ◌≢◌, ◌⊎◌, ℕ, suc, ◌<◌, ◌==◌, false, List, [], ◌∷◌, length, get_or, refl, ap, inl, inr, arith}
use Rattle.std.proofs.lemmas.Bool.{cases_eq, eq-eqb, ne_eqb}
use Rattle.mt_value.specs.Printed.{doubled}

-- a quote stands twice, and any other byte once
pub doubled-cons : (b : ℕ) (bs : List ℕ) → ((b ≡ 39) × (doubled (b ∷ bs) ≡ 39 ∷ 39 ∷ doubled bs)) ⊎ ((b ≢ 39) × (doubled (b ∷ bs) ≡ b ∷ doubled bs))
doubled-cons b bs = elim (cases_eq b 39) [
  | inl e ↦ inl (e, rw (eq-eqb b 39 e) refl)
  | inr h ↦ inr (h, rw (ne_eqb b 39 h) refl)
]

-- a text of which no byte is a quote stays as it is
pub doubled_nowhere : (bytes : List ℕ) → ((k : ℕ) → k < length bytes → get_or bytes k 0 ≡ 39 → ⊥) → doubled bytes ≡ bytes
doubled_nowhere [] none = refl
doubled_nowhere (b ∷ bytes) none =
    let here : (b == 39) ≡ false = ne_eqb b 39 (λ yes. none 0 (omega arith) yes) in
    let behind = doubled_nowhere bytes (λ k below yes. none (suc k) (omega arith) yes) in
    rw here (ap (λ bs. b ∷ bs) behind)
