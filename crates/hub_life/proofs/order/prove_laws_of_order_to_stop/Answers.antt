use Rattle.hub_life.proofs.OrderStays.{shows, stays}
use Rattle.hub_life.proofs.order.prove_laws_of_order_to_stop.Goals as goal

pub returns-clause-shows : goal.returns-clause-shows
returns-clause-shows c = shows

pub returns-clause-stays : goal.returns-clause-stays
returns-clause-stays c = stays
