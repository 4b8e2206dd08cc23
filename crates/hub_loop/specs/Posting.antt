-- What a post from a loop does to what the loop holds.
use Rattle.std.specs.Prelude.{◌≡◌, ℕ, List, Some, Result}
use Rattle.slab.specs.Slab.{Slab, get, with_value}
use Rattle.hub_envelope.specs.declared.ids.AgentId.{AgentId}
use Rattle.hub_envelope.specs.declared.posted.Posted.{Posted}
use Rattle.hub_ports.specs.declared.error.PortError.{PortError}
use Rattle.hub_ports.specs.Seats.{PortSeat}
use Rattle.hub_ports.specs.Sending.{IsSent}
use Rattle.hub_queue.specs.Standing.{StandSeat}
use Rattle.hub_loop.specs.declared.held.Held.{Held}
use Rattle.hub_loop.specs.declared.posting.Way.{Way}
use Rattle.hub_loop.specs.Holding.{stand_held, at_stand}
use Rattle.hub_loop.specs.Looking.{IsWay}

module _ (agent : AgentId) (body : List ℕ) (ports : List PortSeat) where
  -- it is a port or a line, over which this was posted
  abbrev pub IsPostedOver : Held → Held → Result Posted PortError → Type 0
  IsPostedOver old new answer =
      (line : StandSeat) × (stand : StandSeat) × (stand_held old ≡ Some line) × IsSent line stand agent body ports answer
      × (new ≡ at_stand old stand)

  -- This was posted over the port or the line that goes this way, under the very key where it is held, and nothing else that is held has changed.
  abbrev pub PostsThrough : Way → Slab Held → Slab Held → Result Posted PortError → Type 0
  PostsThrough way old new answer =
      (key : ℕ) × (held : Held) × (line : StandSeat) × (stand : StandSeat) × (get old key ≡ Some held) × IsWay way held
      × (stand_held held ≡ Some line) × IsSent line stand agent body ports answer × (new ≡ with_value old key (at_stand held stand))
