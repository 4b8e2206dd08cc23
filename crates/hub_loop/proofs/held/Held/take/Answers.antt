use Rattle.hub_loop.proofs.Asks.{port-taken, client-taken, worker-taken, member-taken}
use Rattle.hub_loop.proofs.held.Held.take.Goals as goal

pub returns-in-Port : goal.returns-in-Port
returns-in-Port g c = port-taken _ _ _ _ _ _ c.in-Port.is c.take.ensures.taken c.take.ensures.poster

pub returns-in-Client : goal.returns-in-Client
returns-in-Client g c = client-taken _ _ _ _ _ _ c.in-Client.is c.take-in-Client.ensures

pub returns-in-Worker : goal.returns-in-Worker
returns-in-Worker g c = worker-taken _ _ _ _ _ _ c.in-Worker.is c.take-in-Worker.ensures

pub returns-in-Member : goal.returns-in-Member
returns-in-Member g c = member-taken _ _ _ _ _ _ c.in-Member.is c.take-in-Member.ensures.taken c.take-in-Member.ensures.same
