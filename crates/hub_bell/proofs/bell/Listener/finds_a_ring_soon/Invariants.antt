use Rattle.std.proofs.Common.{◌≡◌, List, ℕ, false}
use Rattle.hub_bell.specs.Listening.{looked, some_found}
use Rattle.hub_bell.proofs.bell.Listener.finds_a_ring_soon.Given as goal

abbrev pub invariant-loop-look : goal.invariant-loop-look
invariant-loop-look l = (looks : List ℕ) × (some_found looks ≡ false) × (l.self ≡ record l.fn.self { at = looked l.fn.self.at looks })
