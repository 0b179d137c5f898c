-- The one word is compared with the word that is meant.
use Rattle.std.proofs.Common.{◌≡◌, ◌∙◌, ◌<◌, ◌≤◌, List, [], ◌∷◌, length, get_or, refl, sym, ap, arith}
use Rattle.std.specs.Prelude.{map, string_bytes}
use Rattle.std.proofs.lemmas.Bool.Decides.{Decides-eqb}
use Rattle.std.proofs.lemmas.Slice.Eq.{slice_eq-Decides}
use Rattle.foldsql.proofs.command.is_word.Goals as goal

-- a list of one element
single : {A : Type 0} (xs : List A) (d : A) → 1 ≤ length xs → length xs < 2 → xs ≡ get_or xs 0 d ∷ []
single [] d some few = absurd (omega arith)
single (x ∷ []) d some few = refl
single (x ∷ y ∷ xs) d some few = absurd (omega arith)

pub returns-in-len1 : goal.returns-in-len1
returns-in-len1 c =
    let one : c.args.words.now ≡ c.only-item.result ∷ [] = single c.args.words.now c.only-item.result c.in-len1.len_at_least c.in-len1.len_below ∙ ap (λ only. only ∷ []) (sym c.only-item.is) in
    let bytes : map string_bytes c.args.words.now ≡ c.as_str.result.now ∷ [] = ap (map string_bytes) one ∙ ap (λ text. text ∷ []) (sym c.as_str.ensures.value) in
    let decides = slice_eq-Decides Decides-eqb c.as_str.result.now c.args.word.now c.eq.result c.eq.ensures in (
      λ t. bytes ∙ ap (λ text. text ∷ []) (decides.0 t),
      λ e. let same : c.as_str.result.now ≡ c.args.word.now = cc in decides.1 same,
    )
