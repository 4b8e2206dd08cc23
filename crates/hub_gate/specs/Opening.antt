-- What a gate is made of before it is handed out.
use Rattle.std.specs.Prelude.{◌≡◌, ℕ, ◌<◌, ◌≤◌, ◌&&◌, List, [], map, length, nat_lt, nat_le, vec_capacity, if◌then◌else◌}
use Rattle.std.specs.Arc.{arc_value}
use Rattle.atomic_table.specs.Table.{Me}
use Rattle.hub_envelope.specs.declared.limits.TheConstants.{MAX_LINES}
use Rattle.hub_gate.specs.declared.gate.Reserved.{Reserved}
use Rattle.hub_gate.specs.declared.gate.GateError.{GateError}
use Rattle.hub_gate.specs.declared.gate.GateError.TheVariants.{BadCount, OutOfMemory}
use Rattle.hub_gate.specs.declared.view.View.{View}
use Rattle.hub_gate.specs.declared.view.View.TheVariants.{Fresh, Keeping}
use Rattle.hub_gate.specs.GateRule.{Tags, keeper_at}
use Rattle.hub_gate.specs.GateSeats.{AllSame, IsSeatOf, keeper_in}

-- a gate may have so many rights
abbrev pub IsCount : ℕ → Type 0
IsCount count = (0 < count) × (count ≤ MAX_LINES)

-- the error for so many rights: memory is at fault only where the count isn't
abbrev pub error_for : ℕ → GateError
error_for count = if nat_lt 0 count && nat_le count MAX_LINES then OutOfMemory else BadCount

-- the keeper's seat where so many lines have seats
abbrev pub keeper_me : {S T : Type 0} → Tags → List T → ℕ → Me S (View T)
keeper_me tags rights next = (Keeping (keeper_at tags rights next), [])

-- the keeper's seat where no line has a seat yet, and where all lines have seats
abbrev pub none_seated : {S T : Type 0} → View T → Me S (View T)
none_seated view = keeper_me (keeper_in view).tags (keeper_in view).rights 0

abbrev pub all_seated : {S T : Type 0} → View T → Me S (View T)
all_seated view = keeper_me (keeper_in view).tags (keeper_in view).rights (length (keeper_in view).tags)

-- the memory that a gate with these rights needs
module _ {T : Type 0} (tag : T → List ℕ) (rights : List T) where
  -- a table with a slot for each right
  abbrev pub HasTable : Reserved T → Type 0
  HasTable g = IsSeatOf (arc_value g.table).shared.table_id g.seat.table_id × ((arc_value g.table).shared.table_id.slots ≡ length rights)

  -- the first seat of that table
  abbrev pub HasFreshSeat : Reserved T → Type 0
  HasFreshSeat g = g.seat.me ≡ (Fresh (map tag rights), [])

  -- a share of the table for each line
  abbrev pub HasShares : Reserved T → Type 0
  HasShares g = (length g.shares.items ≡ length rights) × AllSame arc_value (arc_value g.table) g.shares.items

  -- empty lists with room for the entries and for the rights
  abbrev pub HasRoom : Reserved T → Type 0
  HasRoom g = (g.entries.items ≡ []) × (g.rights.items ≡ []) × (length rights ≤ vec_capacity g.entries) × (length rights ≤ vec_capacity g.rights)
