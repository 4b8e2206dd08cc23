use Rattle.std.proofs.Common.{inr, refl}
use Rattle.hub_ports.proofs.closing.post_notice.Goals as goal

pub returns-in_default : goal.returns-in_default
returns-in_default g c = inr refl
