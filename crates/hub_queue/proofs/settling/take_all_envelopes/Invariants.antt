use Rattle.std.proofs.Common.{◌≡◌, List, ◌++◌}
use Rattle.hub_envelope.specs.declared.envelope.Envelope.{Envelope}
use Rattle.hub_queue.specs.Settling.{got_all}
use Rattle.hub_queue.proofs.settling.take_all_envelopes.Given as goal

abbrev pub invariant-loop : goal.invariant-loop
invariant-loop g l =
    (goal.iterator-loop g).can_next l.iterator' × (goal.iterator-loop g).is_finite l.iterator'
    × ((more : List Envelope) × (l.queue ≡ record { queue = l.fn.queue.queue; at = got_all l.fn.queue.at more; keeper = l.fn.queue.keeper }) × (l.envelopes.items ≡ l.fn.envelopes.items ++ more))
