-- How a loop reaches the ends that it holds.
use Rattle.std.specs.Prelude.{◌≡◌, ℕ, Some}
use Rattle.slab.specs.Slab.{Slab, get}
use Rattle.hub_envelope.specs.declared.ids.EndId.{EndId}
use Rattle.hub_ready.specs.declared.ready.Ready.{Ready}
use Rattle.hub_ready.specs.Finding.{LeadsTo}
use Rattle.hub_ready.specs.Marking.{mark_of, HasBit}
use Rattle.hub_loop.specs.declared.held.Held.{Held}
use Rattle.hub_loop.specs.Holding.{end_held}

-- What is held under this key has a bit for its mark. An end that isn't marked is found by its number, which leads to the key.
abbrev pub IsReached : Ready → ℕ → Held → Type 0
IsReached r key held =
    HasBit r.marks key
    × ((end : EndId) → end_held held ≡ Some end → mark_of r.marks key ≡ 0 → LeadsTo r.listed.items end key)

-- the same of all that is held
abbrev pub AreReached : Slab Held → Ready → Type 0
AreReached slots r = (key : ℕ) (held : Held) → get slots key ≡ Some held → IsReached r key held
