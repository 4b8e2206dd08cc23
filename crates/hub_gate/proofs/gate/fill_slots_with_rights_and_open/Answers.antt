use Rattle.std.proofs.Common.{rules, map, ap, refl}
use Rattle.hub_gate.proofs.Opening.{gathers_at, opens_at, gathered, filled_with, open_at}
use Rattle.hub_gate.proofs.gate.fill_slots_with_rights_and_open.Goals as goal

pub load-requires : goal.load-requires
load-requires g c = (search rules, search rules, gathers_at g.T.Right.tag _ _ _ (map g.T.Right.tag c.args.rights.items) c.requires.fresh)

pub fill_slots_with_rights-requires : goal.fill_slots_with_rights-requires
fill_slots_with_rights-requires g c = record {
  here = search rules;
  held = ap (λ m. m.1) (gathered g.T.Right.tag c.args.rights.items _ _ c.requires.fresh c.load.ensures.2);
}

pub load-requires-2 : goal.load-requires-2
load-requires-2 g c =
    let held = gathered g.T.Right.tag c.args.rights.items _ _ c.requires.fresh c.load.ensures.2 in
    let put = filled_with g.T.Right.tag c.args.rights.items _ _ held c.fill_slots_with_rights.ensures.filled in
    (search rules, search rules, opens_at g.T.Right.tag _ _ _ (map g.T.Right.tag c.args.rights.items) c.args.rights.items put refl c.requires.few (search rules))

pub returns-clause-keeper : goal.returns-clause-keeper
returns-clause-keeper g c =
    let held = gathered g.T.Right.tag c.args.rights.items _ _ c.requires.fresh c.load.ensures.2 in
    let put = filled_with g.T.Right.tag c.args.rights.items _ _ held c.fill_slots_with_rights.ensures.filled in
    open_at g.T.Right.tag c.args.rights.items _ _ put c.load-2.ensures.2
