-- Keys are in a total order, and those that compare alike are one.
use Rattle.std.proofs.Common.{◌≡◌, ℕ, refl, ap}
use Rattle.std.specs.Ordering.{nat_cmp}
use Rattle.std.specs.Cmp.{IsTotalOrder}
use Rattle.std.specs.FinMap.{IsAntisymmetric}
use Rattle.std.proofs.lemmas.Cmp.{then_total, on_total, nat_cmp_total}
use Rattle.std.proofs.lemmas.Map.Lookups.{exact_pairs, exact_unsigned}
use Rattle.mt_physplan.specs.declared.key.Key.{Key}
use Rattle.mt_physplan.specs.Keys.{key_cmp}

pub keys_total : IsTotalOrder key_cmp
keys_total = then_total (on_total (λ k. k.table) nat_cmp_total) (then_total (on_total (λ k. k.tenant) nat_cmp_total) (then_total (on_total (λ k. k.base) nat_cmp_total) (then_total (on_total (λ k. k.chunk) nat_cmp_total) (on_total (λ k. k.row) nat_cmp_total))))

pub keys_exact : IsAntisymmetric key_cmp
keys_exact a b h = ap (λ (p : ℕ × (ℕ × (ℕ × (ℕ × ℕ)))). record { table = p.0; tenant = p.1.0; base = p.1.1.0; chunk = p.1.1.1.0; row = p.1.1.1.1 })
    (exact_pairs nat_cmp _ exact_unsigned (exact_pairs nat_cmp _ exact_unsigned (exact_pairs nat_cmp _ exact_unsigned (exact_pairs nat_cmp nat_cmp exact_unsigned exact_unsigned)))
    (a.table, (a.tenant, (a.base, (a.chunk, a.row)))) (b.table, (b.tenant, (b.base, (b.chunk, b.row)))) h)
