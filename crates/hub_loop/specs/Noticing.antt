-- What is told of the ports that were closed.
use Rattle.std.specs.Prelude.{◌≡◌, List, [], ◌∷◌, ◌++◌, ℕ, map, filter_map, Option, Some, None}
use Rattle.hub_ports.specs.Closing.{IsTold}
use Rattle.hub_ports.specs.Seats.{PortSeat}
use Rattle.hub_ports.specs.declared.closing.ClosedPort.{ClosedPort}
use Rattle.std.specs.List.Sorted.{IsNonDecreasing, IsNonDecreasingBy, IsPermutation}
use Rattle.hub_queue.specs.Graves.{GraveSeat}
use Rattle.hub_loop.specs.declared.held.Held.{Held}
use Rattle.hub_loop.specs.declared.held.Held.TheVariants.{Port, Client, Worker, Member, Line}
use Rattle.hub_loop.specs.Ending.{closing_ends, grave_ends, open_ends}
use Rattle.hub_loop.specs.Holding.{number_held}
use Rattle.hub_loop.specs.States.{ClosingState}

-- each of these ports was closed, in this order
abbrev pub AreTold : List PortSeat → List ClosedPort → Type 0
AreTold [] told = told ≡ []
AreTold (p ∷ ps) told = (c : ClosedPort) × (rest : List ClosedPort) × (told ≡ c ∷ rest) × IsTold p c × AreTold ps rest

-- These ports were closed, in this order, and so much more is told.
abbrev pub NoticesMore : List PortSeat → List ClosedPort → List ClosedPort → Type 0
NoticesMore ports before after = (told : List ClosedPort) × (after ≡ before ++ told) × AreTold ports told

-- the port, where it is one
abbrev pub open_port : Held → Option PortSeat
open_port (Port p) = Some p
open_port (Client t) = None
open_port (Worker t) = None
open_port (Member m) = None
open_port (Line s) = None

-- the ports among these
abbrev pub ports_in : List Held → List PortSeat
ports_in all = filter_map open_port all

-- the numbers of the ports
abbrev pub port_numbers : List PortSeat → List ℕ
port_numbers ports = map (λ p. p.taker.end) ports

-- All of these were closed, in this order, which is a rising one of the numbers, and of each port among them the notice is told.
abbrev pub AreClosed : List Held → List Held → List ClosedPort → List ClosedPort → Type 0
AreClosed all sorted before after =
    IsPermutation all sorted × IsNonDecreasingBy (λ o. (number_held o).0) sorted × NoticesMore (ports_in sorted) before after

-- Ports that were named were closed behind these ends: they are swept in the order in which their notices are told.
abbrev pub NamedBehind : List ℕ → List ℕ → List ClosedPort → List ClosedPort → Type 0
NamedBehind closed numbers before after =
    (named : List PortSeat) × (numbers ≡ closed ++ port_numbers named) × NoticesMore named before after

-- The numbers begin with those of the ends that the loop had closed before and those that it had, one for each, in rising order, and go on with those of the ports that were named. The notices are those that were told already, then those of the ports that the loop had, and then those of the ports that were named. Where the end had begun before, both go on from what was done by then.
abbrev pub AreEnded : Option ClosingState → List GraveSeat → List Held → List ℕ → List ClosedPort → List ClosedPort → Type 0
AreEnded None graves all numbers before after =
    (sorted : List Held) × (first : List ℕ) × (between : List ClosedPort)
    × AreClosed all sorted before between
    × IsPermutation (grave_ends graves ++ open_ends sorted) first × IsNonDecreasing first
    × NamedBehind first numbers between after
AreEnded (Some begun) graves all numbers before after = NamedBehind (closing_ends begun) numbers begun.noticed after
