use Rattle.std.proofs.Common.{◌∙◌, sym}
use Rattle.hub_line.proofs.Numbers.{length-items}
use Rattle.hub_line.proofs.ring.Source.known_items.Goals as goal

pub returns : goal.returns
returns g c = c.cached_slots.ensures ∙ sym (length-items _)
