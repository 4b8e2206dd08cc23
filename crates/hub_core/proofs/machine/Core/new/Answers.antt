-- A hub with no agent and no end shows the history with no pair.
use Rattle.hub_core.proofs.Frames.{shows_first}
use Rattle.hub_core.proofs.Casts.{roster_first}
use Rattle.hub_core.proofs.machine.Core.new.Goals as goal

pub returns : goal.returns
returns c = (shows_first _ _ c.new-agents.ensures.items c.new-ends.ensures.items, roster_first _ c.new-roster.ensures, tt)
