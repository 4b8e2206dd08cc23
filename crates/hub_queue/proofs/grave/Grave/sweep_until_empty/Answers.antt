use Rattle.hub_queue.proofs.SweptOut.{not_swept, swept_more, swept_no_room, swept_out, whole_chain}
use Rattle.hub_queue.proofs.grave.Grave.sweep_until_empty.Goals as goal

pub loop-init : goal.loop-init
loop-init g c = not_swept _

pub loop-preserved : goal.loop-preserved
loop-preserved g c = swept_more _ _ _ c.loop.invariant c.in-StillInside.ensures

pub returns-in-Discarded-clause-ok : goal.returns-in-Discarded-clause-ok
returns-in-Discarded-clause-ok g c = swept_out _ _ _ c.loop.invariant c.in-Discarded.ensures

pub returns-in-NoRoom-clause-err : goal.returns-in-NoRoom-clause-err
returns-in-NoRoom-clause-err g c = swept_no_room _ _ _ c.loop.invariant c.in-NoRoom.ensures

pub returns-in-Discarded-clause-chain : goal.returns-in-Discarded-clause-chain
returns-in-Discarded-clause-chain g c = whole_chain _ c.in-Discarded.ensures.1.3
