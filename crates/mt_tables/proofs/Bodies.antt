-- Slots of the catalogue are in a total order, and those that compare alike are one.
use Rattle.std.specs.Ordering.{nat_cmp}
use Rattle.std.specs.Cmp.{IsTotalOrder}
use Rattle.std.specs.Cmp.Lexicographic.{slice_cmp, nat_list_cmp_total}
use Rattle.std.specs.FinMap.{IsAntisymmetric}
use Rattle.std.proofs.lemmas.Cmp.{nat_cmp_total, on_total, then_total}
use Rattle.std.proofs.lemmas.Map.Lookups.{exact_bytes, exact_pairs, exact_unsigned}
use Rattle.mt_physplan.specs.Applied.{body_cmp}

pub bodies_total : IsTotalOrder body_cmp
bodies_total = then_total (on_total (λ b. b.0) nat_cmp_total) (on_total (λ b. b.1) nat_list_cmp_total)

pub bodies_exact : IsAntisymmetric body_cmp
bodies_exact a b e = exact_pairs nat_cmp (slice_cmp nat_cmp) exact_unsigned exact_bytes a b e
