-- What a step is that is not refused: each of its tests fails.
use Rattle.std.proofs.Common.{◌≡◌, Bool, true, false, cond, List, [], ◌∷◌, None, Some, refl}
use Rattle.std.specs.List.{AllByRecursion as Each}
use Rattle.mt_tree.specs.declared.code.Code.{Code}
use Rattle.mt_schema.specs.Refusals.{first_holding}

pub none_holds : (tests : List (Code × Bool)) → first_holding tests ≡ None → Each (λ test. test.1 ≡ false) tests
none_holds [] e = tt
none_holds (test ∷ tests) e = by test.1 refl e (none_holds tests)
  where
    by : (b : Bool) → test.1 ≡ b → cond b (Some test.0) (first_holding tests) ≡ None → (first_holding tests ≡ None → Each (λ t. t.1 ≡ false) tests) → Each (λ t. t.1 ≡ false) (test ∷ tests)
    by true holds f rest = absurd (cc)
    by false fails f rest = (fails, rest f)
