use Rattle.hub_gate.proofs.Opening.{just_opened}
use Rattle.hub_gate.proofs.gate.Gate.open.Goals as goal

pub returns-clause-opened : goal.returns-clause-opened
returns-clause-opened g c = just_opened g.T.Right.tag c.args.rights.items c.fill_slots_with_rights_and_open.new.seat.me c.make_entry_per_line.new.seat.me _ _ _ c.fill_slots_with_rights_and_open.ensures.keeper c.make_entry_per_line.ensures.keeper c.make_entry_per_line.ensures.entries c.make_entry_per_line.ensures.stays
