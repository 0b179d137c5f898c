-- How a value is printed.
use Rattle.std.specs.Prelude.{ℕ, ◌==◌, if◌then◌else◌, List, [], ◌∷◌, ◌++◌, flat_map, codes}
use Rattle.std.specs.Fmt.{signed_decimal}
use Rattle.mt_value.specs.declared.value.Value.{Value}
use Rattle.mt_value.specs.declared.value.Value.TheVariants.{Null, Int, Text}

-- a text as it stands between single quotes: each quote in it twice
abbrev pub doubled : List ℕ → List ℕ
doubled text = flat_map (λ b. if b == 39 then 39 ∷ 39 ∷ [] else b ∷ []) text

-- NULL, a decimal number, or a text in single quotes
abbrev pub value_text : Value → List ℕ
value_text Null = codes "NULL"
value_text (Int z) = signed_decimal z
value_text (Text text) = 39 ∷ (doubled text ++ 39 ∷ [])
