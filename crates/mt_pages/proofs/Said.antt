-- What the first bytes of page 0 say.
use Rattle.std.proofs.Common.{◌≡◌, ◌⊎◌, ℕ, zero, suc, ◌+◌, ◌-◌, ◌*◌, ◌^◌, ◌<◌, ◌≤◌, max, List, [], ◌∷◌, ◌++◌, length, take, drop, replicate, slice_index, refl, sym, ap, subst, ◌∙◌, inl, inr, arith, length-drop, length-take}
use Rattle.std.proofs.lemmas.Bool.Decides.{nat_tests}
use Rattle.std.proofs.lemmas.List.{get_or-drop, get_or-take}
use Rattle.byteorder.specs.Endian.{little_from, little_number}
use Rattle.mt_journal.specs.Layout.{Area, StandAt, number_at}
use Rattle.mt_journal.proofs.Numbers.{number_from}
use Rattle.mt_tables.specs.Pages.{page_count}
use Rattle.mt_pages.specs.Control.{IsBlankControl, IsControl, IsPageZero, magic}

-- bytes that stand at one place are one
pub same_standing : (area : Area) (at : ℕ) (xs ys : List ℕ) → length xs ≡ length ys → StandAt area at xs → StandAt area at ys → xs ≡ ys
same_standing area at [] [] size one two = refl
same_standing area at [] (y ∷ ys) size one two = absurd (omega (arith, size))
same_standing area at (x ∷ xs) [] size one two = absurd (omega (arith, size))
same_standing area at (x ∷ xs) (y ∷ ys) size one two =
    let first : x ≡ y = sym (one 0 (omega arith)) ∙ two 0 (omega arith) in
    let later : (zs : List ℕ) (z : ℕ) → StandAt area at (z ∷ zs) → StandAt area (at + 1) zs = λ zs z stand k within. ap area (omega arith) ∙ stand (suc k) (omega arith) in
    let rest = same_standing area (at + 1) xs ys (omega (arith, size)) (later xs x one) (later ys y two) in
    λ i. first i ∷ rest i

module _ (area : Area) (bytes : List ℕ) (stand : StandAt area 0 bytes) (size : length bytes ≡ 20) where
  -- bytes from a place on stand there
  stand_behind : (at : ℕ) → StandAt area at (drop at bytes)
  stand_behind at k within =
      let long = length-drop at bytes in
      ap area (omega arith) ∙ stand (at + k) (omega (arith, within, long)) ∙ sym (get_or-drop at bytes k 0)

  pub number_of : (n at : ℕ) → at + n ≤ 20 → number_at n area at ≡ little_number n (drop at bytes)
  number_of n at fits =
      let long = length-drop at bytes in
      ap (number_at n area) (omega arith) ∙ number_from n area at 0 (drop at bytes) (stand_behind at) (omega (arith, fits, long, size))

  -- the front stands where the magic bytes are
  pub front_of : StandAt area 0 magic → take 8 bytes ≡ magic
  unfolding magic
  front_of is =
      let long = length-take 8 bytes in
      same_standing area 0 (take 8 bytes) magic (omega (arith, long, size))
      (λ k within. stand k (omega (arith, within, long, size)) ∙ sym (get_or-take 8 bytes k 0 (omega (arith, within, long, size)))) is

  -- the magic bytes stand where they come first
  magic_from : take 8 bytes ≡ magic → StandAt area 0 magic
  magic_from e = subst (StandAt area 0) e (λ k within.
      let long = length-take 8 bytes in
      stand k (omega (arith, within, long, size)) ∙ sym (get_or-take 8 bytes k 0 (omega (arith, within, long, size))))

  -- a count of one page at least is that of the pages
  counts_as : (n : ℕ) → 1 ≤ n → max 1 n ≡ n
  counts_as n some = grind (arith, nat_tests, some)

  -- what is read there counts the pages
  pub control_said : (version count : ℕ) → take 8 bytes ≡ magic → version ≡ little_number 4 (drop 8 bytes) → version ≡ 1 → count ≡ little_number 8 (drop 12 bytes) → 1 ≤ count → count ≤ 2 ^ 28
      → IsControl area × (page_count area ≡ count)
  control_said version count front version_is one count_is some few =
      let number : number_at 8 area 12 ≡ count = number_of 8 12 (omega arith) ∙ sym count_is in (
        record {
          magic_stands = magic_from front;
          version = number_of 4 8 (omega arith) ∙ sym version_is ∙ one;
          some = omega (arith, number, some);
          few = omega (arith, number, few);
        },
        ap (max 1) number ∙ counts_as count some,
      )

  -- and where page 0 counts them, that is read
  pub control_front : IsControl area → take 8 bytes ≡ magic
  control_front control = front_of control.magic_stands

  pub control_version : IsControl area → little_number 4 (drop 8 bytes) ≡ 1
  control_version control = sym (number_of 4 8 (omega arith)) ∙ control.version

  pub control_count : IsControl area → (1 ≤ little_number 8 (drop 12 bytes)) × (little_number 8 (drop 12 bytes) ≤ 2 ^ 28)
  control_count control = let e = number_of 8 12 (omega arith) in (omega (arith, e, control.some), omega (arith, e, control.few))

  -- blank bytes are read where nothing was written
  pub blank_said : bytes ≡ replicate 20 0 → IsPageZero area × (page_count area ≡ 1)
  blank_said e =
      (inl (subst (StandAt area 0) e stand), ap (max 1) (number_of 8 12 (omega arith) ∙ ap (λ (bs : List ℕ). little_number 8 (drop 12 bs)) e))

  pub blank_read : IsBlankControl area → bytes ≡ replicate 20 0
  blank_read blank = same_standing area 0 bytes (replicate 20 0) size stand blank
