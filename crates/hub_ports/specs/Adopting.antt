-- What the adoption of a received port comes to.
use Rattle.std.specs.Prelude.{◌≡◌, Result, Ok, Err}
use Rattle.hub_queue.specs.declared.error.AdoptError.{AdoptError}
use Rattle.hub_queue.specs.Adopting.{IsAdopted}
use Rattle.hub_ports.specs.Seats.{PortSeat}

-- Ok: its end was adopted, and its peer is the same. Err: its end was refused as ends are, and the port is as it was.
abbrev pub IsReceived : PortSeat → Result PortSeat (AdoptError × PortSeat) → Type 0
IsReceived old (Ok new) = IsAdopted old.taker (Ok new.taker) × (new.poster ≡ old.poster)
IsReceived old (Err refused) = IsAdopted old.taker (Err (refused.0, refused.1.taker)) × (refused.1 ≡ old)
