-- What of the ports in flight arrives with an envelope that names them.
use Rattle.std.specs.Prelude.{◌≡◌, List, [], ◌∷◌, ◌++◌, Option, Some, None}
use Rattle.std.specs.FinMap as map
use Rattle.hub_depot.specs.Key.{key_cmp}
use Rattle.hub_envelope.specs.declared.ids.EndId.{EndId}
use Rattle.hub_ports.specs.Seats.{PortSeat, place_of}

-- the ports in flight, by their names
abbrev pub Flight : Type 0
Flight = map.FinMap key_cmp PortSeat

-- the flight without the ports of these numbers
abbrev pub left_in_flight : Flight → List EndId → Flight
left_in_flight flight [] = flight
left_in_flight flight (n ∷ ns) = left_in_flight (map.remove flight (place_of n)) ns

-- the port that was found, if there was one
abbrev pub found_one : Option PortSeat → List PortSeat
found_one (Some p) = p ∷ []
found_one None = []

-- this number, where no port was found
abbrev pub missing_one : Option PortSeat → EndId → List EndId
missing_one (Some p) n = []
missing_one None n = n ∷ []

-- the ports of these numbers that are in flight, in order
abbrev pub found_in : Flight → List EndId → List PortSeat
found_in flight [] = []
found_in flight (n ∷ ns) = found_one (map.get flight (place_of n)) ++ found_in (map.remove flight (place_of n)) ns

-- those of these numbers of which no port is in flight, in order
abbrev pub missing_in : Flight → List EndId → List EndId
missing_in flight [] = []
missing_in flight (n ∷ ns) = missing_one (map.get flight (place_of n)) n ++ missing_in (map.remove flight (place_of n)) ns

-- exactly the ports that are in flight were found, and exactly the numbers of the others are missing
pub record HasArrived (flight : Flight) (numbers : List EndId) (found : List PortSeat) (missing : List EndId) : Type 0 where
  pub found_is : found ≡ found_in flight numbers
  pub missing_is : missing ≡ missing_in flight numbers
