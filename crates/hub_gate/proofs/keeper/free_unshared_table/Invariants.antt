use Rattle.std.proofs.Common.{◌≡◌, ℕ, ◌<◌, false, get_or}
use Rattle.std.specs.Slots.{slots_filled, slots_len}
use Rattle.std.specs.Slots.Ownership.{Filled}
use Rattle.hub_gate.proofs.keeper.free_unshared_table.Given as goal

abbrev pub invariant-loop-slot : goal.invariant-loop-slot
invariant-loop-slot g l =
    Filled (slots_filled l.closed.slots) l.slot (slots_len l.closed.slots)
    × ((k : ℕ) → k < l.slot → get_or (slots_filled l.closed.slots) k false ≡ false)
    × (slots_len l.closed.slots ≡ slots_len l.fn.closed.slots)
