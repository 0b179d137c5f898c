-- Failures that go on to a caller.
use Rattle.std.proofs.Common.{◌≡◌, ap}
use Rattle.std.specs.Prelude.{Err, IsErrOf}

-- an error is the same beside any value
pub err_same : {T U E : Type 0} (got wanted : E) → IsErrOf {T = T} (Err got) wanted → IsErrOf {T = U} (Err got) wanted
err_same {T} {U} {E} got wanted same = let e : got ≡ wanted = cc in ap (λ (x : E). Err x) e
