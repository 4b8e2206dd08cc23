-- The order of names, and how a contract stores them.
use Rattle.std.specs.Prelude.{ℕ, refl}
use Rattle.std.specs.Coded.{Coded, code_by, coded×, coded_ℕ}
use Rattle.std.specs.Ordering.{nat_cmp, ordering_then}
use Rattle.std.specs.declared.cmp.Ordering.{Ordering}
use Rattle.hub_depot.specs.declared.kept_map.Key.{Key}

-- by end, then by epoch, then by line
abbrev pub key_cmp : Key → Key → Ordering
key_cmp a b = ordering_then (nat_cmp a.end.0 b.end.0) (ordering_then (nat_cmp a.epoch b.epoch) (nat_cmp a.line.0 b.line.0))

-- as three numbers
abbrev pub coded_key : Coded Key
coded_key =
    code_by (ℕ × (ℕ × ℕ)) (coded× coded_ℕ (coded× coded_ℕ coded_ℕ)) (λ k. (k.end.0, (k.epoch, k.line.0)))
    (λ p. record { end = record { 0 = p.0 }; epoch = p.1.0; line = record { 0 = p.1.1 } }) (λ _. refl)
