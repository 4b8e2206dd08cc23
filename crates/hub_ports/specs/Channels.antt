-- Two ports as their channel is made.
use Rattle.std.specs.Prelude.{[], ◌∷◌}
use Rattle.hub_envelope.specs.declared.ids.EndId.{EndId}
use Rattle.hub_queue.specs.Mailboxes.{IsOpenMailbox}
use Rattle.hub_ports.specs.Seats.{PortSeat}

-- Each port takes from a new mailbox of its own number with one line, and posts over the line of the other's.
pub record IsChannel (first second : EndId) (a b : PortSeat) : Type 0 where
  pub first_end : IsOpenMailbox first 1 a.taker (b.poster ∷ [])
  pub second_end : IsOpenMailbox second 1 b.taker (a.poster ∷ [])
