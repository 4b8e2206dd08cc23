use Rattle.hub_ports.proofs.Dooms.{told_one}
use Rattle.hub_loop.proofs.closed.close_port.Goals as goal

pub returns-clause-told : goal.returns-clause-told
returns-clause-told g c = told_one c.args.port c.close-grave.result.1 c.id-end.result c.close-grave.result.2 c.new.result c.new.ensures c.id-end.ensures c.close-grave.ensures.notice
