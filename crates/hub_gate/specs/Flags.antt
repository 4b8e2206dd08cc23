-- The flags of a gate: the bit of each in the word, and what it is to set one.
use Rattle.std.specs.Prelude.{ℕ, ◌+◌, true}
use Rattle.hub_core.specs.GateMachine as machine
use Rattle.hub_gate.specs.declared.word.Flag.{Flag}
use Rattle.hub_gate.specs.declared.word.Flag.TheVariants.{Enabled, Moved, Closed}
use Rattle.hub_gate.specs.declared.view.KeeperView.{KeeperView}

abbrev pub flag_bit : Flag → ℕ
flag_bit Enabled = 1
flag_bit Moved = 2
flag_bit Closed = 4

-- the event that sets the flag
abbrev pub flag_event : {R : Type 0} → Flag → machine.Event R
flag_event Enabled = machine.enable
flag_event Moved = machine.retire
flag_event Closed = machine.close

-- the gate with the flag set
abbrev pub flagged_gate : {R : Type 0} → Flag → machine.Gate R → machine.Gate R
flagged_gate Enabled g = machine.with_flags g true g.moved g.closed
flagged_gate Moved g = machine.with_flags g g.enabled true g.closed
flagged_gate Closed g = machine.with_flags g g.enabled g.moved true

-- the keeper's view after it has set the flag once more
abbrev pub flagged_keeper : {T : Type 0} → Flag → KeeperView T → KeeperView T
flagged_keeper Enabled k = record k { enables = k.enables + 1 }
flagged_keeper Moved k = record k { retires = k.retires + 1 }
flagged_keeper Closed k = record k { closes = k.closes + 1 }
