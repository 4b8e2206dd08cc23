use Rattle.std.proofs.Common.{ap, sym, ◌∙◌}
use Rattle.hub_queue.specs.Mailboxes.{new_stand, new_stands}
use Rattle.hub_queue.proofs.Below.{parts_snoc}
use Rattle.hub_queue.proofs.Together.{opened_together}
use Rattle.hub_queue_tests.proofs.meetings.opened.Goals as goal

pub returns-clause-together : goal.returns-clause-together
returns-clause-together g c = opened_together c.args.end 0 c.in-Ok.taker c.in-Ok.posters.items c.pop.new.self.items c.in-Some-pop.poster c.in-Ok.ensures c.in-Some-pop.ensures.items

pub returns-clause-ends : goal.returns-clause-ends
returns-clause-ends g c =
    let opened = c.in-Ok.ensures in
    let p = c.in-Ok.taker.newest in
    let is = (parts_snoc (new_stands p.keeper.gate p.queue c.args.end 0) c.pop.new.self.items (new_stand p.keeper.gate p.queue c.args.end 0 0) c.in-Some-pop.poster (sym opened.posters_are ∙ c.in-Some-pop.ensures.items)).1 in
    (ap (λ s. s.name.end) (sym is), ap (λ t. t.end) opened.taker_is)
