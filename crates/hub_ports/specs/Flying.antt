-- What a post with ports does to the ports in flight.
use Rattle.std.specs.Prelude.{◌≡◌, List, [], ◌∷◌, ◌++◌, IsNone, Option, Some, Result, Ok, Err}
use Rattle.std.specs.FinMap as map
use Rattle.hub_envelope.specs.declared.posted.Posted.{Posted}
use Rattle.hub_ports.specs.declared.error.PortError.{PortError}
use Rattle.hub_ports.specs.declared.error.PortError.TheVariants.{Closed, Moving, OutOfMemory, Doomed, TooManyPorts, Strayed, Taken}
use Rattle.hub_ports.specs.Arriving.{Flight}
use Rattle.hub_ports.specs.Seats.{PortSeat, end_of, place_of}

-- the flight with these ports, of which the last was put there first
abbrev pub in_flight : Flight → List PortSeat → Flight
in_flight flight [] = flight
in_flight flight (p ∷ ps) = map.insert (in_flight flight ps) (place_of (end_of p)) p

-- no port of such a number was in flight, and no two of these have one number
abbrev pub AreFree : Flight → List PortSeat → Type 0
AreFree flight [] = Unit {0}
AreFree flight (p ∷ ps) = IsNone (map.get (in_flight flight ps) (place_of (end_of p))) × AreFree flight ps

-- these ports were put in flight, and no other
pub record HaveFlown (flight : Flight) (ports : List PortSeat) (now : Option Flight) : Type 0 where
  pub now_is : now ≡ Some (in_flight flight ports)
  pub free : AreFree flight ports

-- the list was put in flight from behind, as far as this beginning of it
abbrev pub HaveFlownBehind : Flight → List PortSeat → List PortSeat → Option Flight → Type 0
HaveFlownBehind flight all begin now = (sent : List PortSeat) × (all ≡ begin ++ sent) × HaveFlown flight sent now

-- the very ports came back, in order, but those of a doomed list, which were closed
abbrev pub GivesBack : List PortSeat → PortError → Type 0
GivesBack ports (Closed body back) = back.items ≡ ports
GivesBack ports (Moving body back) = back.items ≡ ports
GivesBack ports (OutOfMemory body back) = back.items ≡ ports
GivesBack ports (Taken body back) = back.items ≡ ports
GivesBack ports (TooManyPorts body back) = back.items ≡ ports
GivesBack ports (Strayed missing body back) = ⊥
GivesBack ports (Doomed closings) = Unit {0}

-- Ok: the ports are in flight, beside those that were there. Err: the flight is as it was, and the very ports came back, so none has strayed; or they were doomed.
abbrev pub IsFlown : Flight → List PortSeat → Option Flight → Result Posted PortError → Type 0
IsFlown flight ports now (Ok posted) = HaveFlown flight ports now
IsFlown flight ports now (Err e) = (now ≡ Some flight) × GivesBack ports e
