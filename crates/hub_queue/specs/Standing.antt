-- Where a line stands, and what it has put there.
use Rattle.std.specs.Prelude.{◌≡◌, ◌+◌, ◌≤◌, List, [], replicate, Option, Some, None}
use Rattle.hub_envelope.specs.declared.limits.TheConstants.{MAX_HOPS, MAX_MOVES}
use Rattle.hub_depot.specs.declared.kept_map.Key.{Key}
use Rattle.hub_bell.specs.Seats.{Done, silent}
use Rattle.hub_gate.specs.GateRule.{new_line}
use Rattle.hub_gate.specs.GateSeats.{EntrySeat}
use Rattle.hub_queue.specs.declared.store.PutView.{PutView}
use Rattle.hub_queue.specs.Seats.{LineSeat, IsNameOf}

-- the name of the line at the queue where it stands, its entry at the gate of that queue, what its bell has done, and the entries at the gates that it left in the last post that went on, the last one first
pub record StandSeat : Type 0 where
  pub name : Key
  pub entry : EntrySeat LineSeat
  pub rung : Done
  pub left : List (Option (EntrySeat LineSeat))

-- a line that has left no gate
abbrev pub none_left : List (Option (EntrySeat LineSeat))
none_left = replicate MAX_HOPS None

-- the right of an entry that is out, which is at home
abbrev pub right_in : Option LineSeat → LineSeat
right_in (Some r) = r
right_in None = record { queue = (0, 0); at = record { end = 0; epoch = 0; line = 0; put = []; refused = 0 } }

abbrev pub right_of : StandSeat → LineSeat
right_of s = right_in s.entry.at.home

-- what the line has put in the queue where it stands
abbrev pub put_of : StandSeat → PutView
put_of s = (right_of s).at

-- the line has its right at home, and the name is that of its queue, which is one that an end may have, and its line
pub record IsStand (s : StandSeat) : Type 0 where
  pub home : s.entry.at.home ≡ Some (right_of s)
  pub name : IsNameOf (put_of s) s.name
  pub line : s.entry.at.line ≡ s.name.line.0
  pub moves : s.name.epoch ≤ MAX_MOVES

-- the line has put nothing there, and no push of it was refused
pub record HasNotPushed (v : PutView) : Type 0 where
  pub put : v.put ≡ []
  pub refused : v.refused ≡ 0

-- the line has not pushed there, has never entered, and has never rung
pub record IsUnused (s : StandSeat) : Type 0 where
  pub put : HasNotPushed (put_of s)
  pub enters : s.entry.at.enters ≡ 0
  pub quiet : s.rung ≡ silent

-- the stand of a line at the next queue of its end, which is not used yet
pub record FollowsStand (name : Key) (s : StandSeat) : Type 0 where
  pub name_is : s.name ≡ record { end = name.end; epoch = name.epoch + 1; line = name.line }
  pub named : IsNameOf (put_of s) s.name
  pub unused : IsUnused s

-- the entry of a line
abbrev pub entry_in : Option (EntrySeat LineSeat) → EntrySeat LineSeat
entry_in (Some e) = e
entry_in None = record { gate = record { words = 0; slots = 0; views_name = 0; atom = 0; block = 0; offset = 0; slot_names = [] }; at = new_line 0 [] None }
