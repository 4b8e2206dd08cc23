use Rattle.std.proofs.Common.{List, length}
use Rattle.hub_ports.specs.Seats.{PortSeat}
use Rattle.hub_loop.specs.Adopting.{ArePartlyAdopted}
use Rattle.hub_loop.specs.Marking.{MarksKept}
use Rattle.hub_loop.specs.States.{holding_of}
use Rattle.hub_loop.proofs.ends.Holding.adopt_all_found_ports.Given as goal

abbrev pub invariant-loop-error : goal.invariant-loop-error
invariant-loop-error g l = record {
  adopted : (done : List PortSeat) × ArePartlyAdopted l.fn.receiving l.receiving (holding_of l.fn.self) (holding_of l.self) done;
  marks : MarksKept l.fn.self.ends l.self.ends;
}

abbrev pub decreases-loop-error : goal.decreases-loop-error
decreases-loop-error g l = length l.receiving.found
