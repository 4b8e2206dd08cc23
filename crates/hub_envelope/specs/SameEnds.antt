-- When two port lists are the same, as a test.
use Rattle.std.specs.Prelude.{◌==◌, List, Bool}
use Rattle.std.specs.Cmp.Lexicographic.{pointwise}
use Rattle.std.specs.Ordering.{on}
use Rattle.hub_envelope.specs.declared.ids.EndId.{EndId}

-- the same numbers in the same order
abbrev pub are_same_ends : List EndId → List EndId → Bool
are_same_ends = pointwise (on (λ e. e.0) ◌==◌)
