-- A port as contracts see it, and the name by which it is found in flight.
use Rattle.std.specs.Prelude.{Bool, ◌==◌, List, map}
use Rattle.hub_depot.specs.declared.kept_map.Key.{Key}
use Rattle.hub_envelope.specs.declared.ids.EndId.{EndId}
use Rattle.hub_queue.specs.Standing.{StandSeat}
use Rattle.hub_queue.specs.Taking.{TakerSeat}

-- what takes from the port's own end, and what posts at its peer's
pub record PortSeat : Type 0 where
  pub taker : TakerSeat
  pub poster : StandSeat

-- the number of the port
abbrev pub end_of : PortSeat → EndId
end_of p = record { 0 = p.taker.end }

-- the numbers of ports, in order
abbrev pub ends_of : List PortSeat → List EndId
ends_of ports = map end_of ports

-- the port has this number
abbrev pub is_numbered : EndId → PortSeat → Bool
is_numbered end p = p.taker.end == end.0

-- the name of the port of this number: epoch 0 and line 0
abbrev pub place_of : EndId → Key
place_of end = record { end = end; epoch = 0; line = record { 0 = 0 } }
