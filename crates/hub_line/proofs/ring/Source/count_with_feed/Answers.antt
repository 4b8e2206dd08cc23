use Rattle.std.proofs.Common.{◌∙◌, sym, ap}
use Rattle.hub_line.specs.Numbers.{items}
use Rattle.hub_line.proofs.Numbers.{items-append, length-items}
use Rattle.hub_line.proofs.ring.Source.count_with_feed.Goals as goal

pub returns-clause-all : goal.returns-clause-all
returns-clause-all g c = sym (items-append _ _) ∙ ap items c.slots_beside.ensures.fifo

pub returns-clause-value : goal.returns-clause-value
returns-clause-value g c = c.slots_beside.ensures.value ∙ sym (length-items _)
