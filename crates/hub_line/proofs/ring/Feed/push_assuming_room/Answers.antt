use Rattle.hub_line.proofs.Numbers.{items-snoc, first_numbers-snoc, next-snoc}
use Rattle.hub_line.proofs.ring.Feed.push_assuming_room.Goals as goal

pub invariant_of-self : goal.invariant_of-self
invariant_of-self g c = record {
  next_is = next-snoc _ _ _ _ c.push_reserved.ensures.sent.0 c.args.self.now.next_is;
  counted = first_numbers-snoc _ _ _ c.push_reserved.ensures.sent.0 c.args.self.now.counted c.args.self.now.next_is;
}

pub returns-clause-fed : goal.returns-clause-fed
returns-clause-fed g c = items-snoc _ _ _ c.push_reserved.ensures.sent.0
