-- Kinds of fields of which some were seen.
use Rattle.std.proofs.Common.{◌≡◌, ℕ, zero, suc, ◌+◌, ◌<◌, ◌≤◌, List, [], ◌∷◌, length, take, slice_index_or, arith}
use Rattle.mt_codec.specs.declared.field.FieldKind.{FieldKind}
use Rattle.mt_codec.specs.Fields.{IsKind}
use Rattle.mt_rowfile.specs.Fields.{AreKinds}

pub kinds_more : (kinds : List FieldKind) (i : ℕ) (d : FieldKind) → AreKinds (take i kinds) → i < length kinds → IsKind (slice_index_or kinds i d) → AreKinds (take (i + 1) kinds)
kinds_more [] i d seen within one = absurd (omega arith)
kinds_more (k ∷ kinds) zero d seen within one = (one, tt)
kinds_more (k ∷ kinds) (suc i) d seen within one =
    let e : suc i + 1 ≡ suc (i + 1) = omega arith in
    rw e (seen.0, kinds_more kinds i d seen.1 (omega arith) one)

pub kinds_all : (kinds : List FieldKind) (i : ℕ) → AreKinds (take i kinds) → length kinds ≤ i → AreKinds kinds
kinds_all [] i seen all = tt
kinds_all (k ∷ kinds) zero seen all = absurd (omega arith)
kinds_all (k ∷ kinds) (suc i) seen all = (seen.0, kinds_all kinds i seen.1 (omega arith))
