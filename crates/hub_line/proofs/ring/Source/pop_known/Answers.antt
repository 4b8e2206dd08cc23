use Rattle.hub_line.proofs.Numbers.{items-snoc, first_numbers-snoc}
use Rattle.hub_line.proofs.ring.Source.pop_known.Goals as goal

pub invariant_of-self : goal.invariant_of-self
invariant_of-self g c = record {
  counted = first_numbers-snoc _ _ _ c.pop_known-item.ensures.received.0 c.args.self.now.counted c.pop_known-item.ensures.allowed;
}

pub returns-clause-given : goal.returns-clause-given
returns-clause-given g c = items-snoc _ _ _ c.pop_known-item.ensures.received.0
