-- The last word of a gate to which no line has an entry any more.
use Rattle.std.specs.Prelude.{◌≡◌, ℕ, ◌≤◌, length, nat_lt}
use Rattle.hub_core.specs.GateMachine as machine
use Rattle.hub_gate.specs.declared.view.KeeperView.{KeeperView}

-- the word has the flags that the keeper has set, and no others, and it counts no more lines than the gate has
pub record IsLastWord {T : Type 0} (k : KeeperView T) (word : ℕ) : Type 0 where
  pub enabled : machine.enabled_in word ≡ nat_lt 0 k.enables
  pub moved : machine.moved_in word ≡ nat_lt 0 k.retires
  pub closed : machine.closed_in word ≡ nat_lt 0 k.closes
  pub count : machine.count_in word ≤ length k.tags
