-- Numbers of ends that rise.
use Rattle.std.specs.Prelude.{◌≤◌, ℕ, ◌+◌, [], ◌∷◌, List, map}
use Rattle.hub_envelope.specs.declared.limits.TheConstants.{MAX_ENDS}
use Rattle.hub_broadcast.specs.Members.{SubscriptionSeat}

-- each number is greater than the one before it, the first is at least low, and all are below high
abbrev pub RiseBetween : ℕ → ℕ → List ℕ → Type 0
RiseBetween low high [] = low ≤ high
RiseBetween low high (n ∷ ns) = (low ≤ n) × RiseBetween (n + 1) high ns

-- each number is greater than the one before it, so none comes twice, and is one that an end may have
abbrev pub Rise : List ℕ → Type 0
Rise ns = RiseBetween 0 MAX_ENDS ns

-- the ends of the roster rise, and each was drawn
abbrev pub IsRising : ℕ → List SubscriptionSeat → Type 0
IsRising drawn roster = RiseBetween 0 drawn (map (λ s. s.poster.name.end.0) roster)
