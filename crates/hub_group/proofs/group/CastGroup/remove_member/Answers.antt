use Rattle.std.proofs.Common.{◌==◌, ◌∙◌, position, sym, ap}
use Rattle.hub_group.proofs.Members.{leaves}
use Rattle.hub_group.proofs.group.CastGroup.remove_member.Goals as goal

pub returns-clause-left : goal.returns-clause-left
returns-clause-left g c =
    leaves c.args.member c.in-Some.place c.args.self.now.members.items c.remove.new.self.items c.remove.result
    (ap (position (λ m. m.number == c.args.member)) (sym c.as_slice.ensures.value) ∙ (sym c.place_of.ensures.place ∙ c.in-Some.is))
    c.remove.ensures.value c.remove.ensures.items
