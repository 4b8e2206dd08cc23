use Rattle.std.proofs.Common.{refl}
use Rattle.hub_locked.proofs.lends.AnyLends.lend.Goals as goal

pub returns-clause-called : goal.returns-clause-called
returns-clause-called g c = (_, _, record { shown = _; shows = refl; left = _; met = c.act.ensures; leaves = refl })
