use Rattle.hub_ready.proofs.BitLemmas.{named-set}
use Rattle.hub_ready.proofs.marks.Marks.mark_key.Goals as goal

pub invariant_of-self : goal.invariant_of-self
invariant_of-self c = named-set c.self.inside.words.items c.self.inside.names.items c.set_bit.new.words.items c.set_bit-2.new.words.items c.args.key c.self.invariant c.set_bit.ensures.set c.set_bit.ensures.others c.set_bit-2.ensures.set c.set_bit-2.ensures.others
