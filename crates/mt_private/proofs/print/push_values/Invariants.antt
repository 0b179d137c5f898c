use Rattle.std.proofs.Common.{◌≡◌, ◌++◌, ◌∷◌, flat_map, take}
use Rattle.mt_value.specs.Printed.{value_text}
use Rattle.mt_private.proofs.print.push_values.Given as goal

abbrev pub invariant-loop-value : goal.invariant-loop-value
invariant-loop-value l = l.text ≡ l.initial.text ++ flat_map (λ value. 124 ∷ value_text value) (take l.value-index l.others)
