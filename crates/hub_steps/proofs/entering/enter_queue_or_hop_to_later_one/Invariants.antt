use Rattle.hub_steps.proofs.Computing.{Hopped}
use Rattle.hub_steps.proofs.entering.enter_queue_or_hop_to_later_one.Given as goal

abbrev pub invariant-loop-hop : goal.invariant-loop-hop
invariant-loop-hop l = Hopped l.fn.core l.core l._hop l.memory_refused l.sender
