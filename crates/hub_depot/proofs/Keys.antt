-- The laws of the order of names.
use Rattle.std.proofs.Common.{ℕ, ap}
use Rattle.std.specs.Cmp.{IsTotalOrder}
use Rattle.std.specs.Ordering.{nat_cmp}
use Rattle.std.proofs.lemmas.Cmp.{nat_cmp_total, on_total, then_total}
use Rattle.std.proofs.lemmas.Map.Lookups.{CmpEqualImpliesEq, exact_pairs, exact_unsigned}
use Rattle.hub_depot.specs.Key.{key_cmp}

-- names that compare alike are one
pub exact_keys : CmpEqualImpliesEq key_cmp
exact_keys a b h =
    ap (λ (p : ℕ × (ℕ × ℕ)). record { end = record { 0 = p.0 }; epoch = p.1.0; line = record { 0 = p.1.1 } })
    (exact_pairs nat_cmp _ exact_unsigned (exact_pairs nat_cmp nat_cmp exact_unsigned exact_unsigned) (a.end.0, (a.epoch, a.line.0)) (b.end.0, (b.epoch, b.line.0)) h)

pub keys_total : IsTotalOrder key_cmp
keys_total =
    then_total (on_total (λ k. k.end.0) nat_cmp_total) (then_total (on_total (λ k. k.epoch) nat_cmp_total) (on_total (λ k. k.line.0) nat_cmp_total))
