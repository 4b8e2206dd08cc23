-- A member parts: its number leaves the numbers of its group.
use Rattle.std.proofs.Common.{refl}
use Rattle.hub_core.proofs.Seats.{parts}
use Rattle.hub_core.proofs.roster.Members.leave.Goals as goal

pub returns-in-Some-get_mut : goal.returns-in-Some-get_mut
returns-in-Some-get_mut c = parts _ _ c.in-Some.group.now c.args.number c.in-Some-get_mut.numbers.now _ refl refl c.in-Some.ensures.value (c.get_mut.follows.holds _) c.in-Some-get_mut.ensures.value c.remove.ensures.keys
