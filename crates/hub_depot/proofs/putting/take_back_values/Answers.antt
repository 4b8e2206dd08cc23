use Rattle.std.proofs.Common.{◌∙◌}
use Rattle.hub_depot.proofs.ManyPut.{taken_back}
use Rattle.hub_depot.proofs.putting.take_back_values.Goals as goal

pub loop-name-preserved-in-Some : goal.loop-name-preserved-in-Some
loop-name-preserved-in-Some g c =
    taken_back (g.L.Lends.shown c.loop-name.lender) (g.L.Lends.shown c.take_from_lent_map.new.lender) c.loop-name.names.items c.pop.new.self.items c.in-Some.name c.take_from_lent_map.ensures.rest
    c.in-Some.ensures.items ∙ c.loop-name.invariant

pub loop-name-preserved : goal.loop-name-preserved
loop-name-preserved g c =
    taken_back (g.L.Lends.shown c.loop-name.lender) (g.L.Lends.shown c.take_from_lent_map.new.lender) c.loop-name.names.items c.pop.new.self.items c.in-Some.name c.take_from_lent_map.ensures.rest
    c.in-Some.ensures.items ∙ c.loop-name.invariant
