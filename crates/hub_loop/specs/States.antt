-- What the parts of a loop have, each as one value.
use Rattle.std.specs.Prelude.{List, Option}
use Rattle.hub_bell.specs.Seats.{BoardSeat}
use Rattle.hub_envelope.specs.declared.envelope.Envelope.{Envelope}
use Rattle.hub_envelope.specs.declared.ids.EndId.{EndId}
use Rattle.hub_ports.specs.Seats.{PortSeat}
use Rattle.hub_queue.specs.Graves.{GraveSeat, SweptSeat}
use Rattle.hub_queue.specs.Standing.{StandSeat}
use Rattle.hub_ports.specs.declared.closing.ClosedPort.{ClosedPort}
use Rattle.hub_loop.specs.declared.ending.Closed.{Closed}
use Rattle.hub_loop.specs.declared.ends.HeldEnds.{HeldEnds}
use Rattle.hub_loop.specs.declared.ends.Holding.{Holding}

-- The ports that were closed because they could not be adopted, or at the end: what is to be swept of them, what is told of each, and the lines that were held beside them.
pub record ClosedState : Type 0 where
  pub graves : List GraveSeat
  pub noticed : List ClosedPort
  pub lines : List StandSeat

abbrev pub closed_of : Closed → ClosedState
closed_of c = record { graves = c.graves.items; noticed = c.noticed.items; lines = c.lines.items }

-- The bell that wakes the loop; the ends and lines that it holds, with their marks and the key with which the next asking begins; and what was closed.
pub record HoldingState : Type 0 where
  pub bell : BoardSeat
  pub ends : HeldEnds
  pub closed : ClosedState

abbrev pub holding_of : Holding → HoldingState
holding_of h = record { bell = h.bell; ends = h.ends; closed = closed_of h.closed }

-- The ports of a delivery: those that were found and are still to be adopted, in the order of the envelope's list, and the numbers of those that are missing.
pub record ReceivingState : Type 0 where
  pub found : List PortSeat
  pub missing : List EndId

-- An envelope that was taken and not told of yet, and its ports, if they were looked for.
pub record DeliveryState : Type 0 where
  pub envelope : Envelope
  pub arrival : Option ReceivingState

-- How far the end of a loop has come: what was swept, what is still to be swept, and what is told of the ports that were closed.
pub record ClosingState : Type 0 where
  pub swept : List SweptSeat
  pub graves : List GraveSeat
  pub noticed : List ClosedPort
