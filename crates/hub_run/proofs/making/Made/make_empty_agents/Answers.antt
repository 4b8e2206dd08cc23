use Rattle.std.proofs.Common.{◌≡◌, ◌∙◌, ap, length, map, rules, subst, sym}
use Rattle.std.proofs.lemmas.List.Elements.{All-push}
use Rattle.hub_run.specs.Giving.{HasNothing, HaveNothing}
use Rattle.std.specs.Vec.Iter.{into_iter_items}
use Rattle.hub_run.proofs.Seating.{agents_seated, opened_all, opened_more, seat_for}
use Rattle.hub_run.proofs.Gives.{has_nothing}
use Rattle.hub_run.proofs.making.Made.make_empty_agents.Goals as goal

pub loop-seat-preserved : goal.loop-seat-preserved
loop-seat-preserved g c =
    let was = c.loop-seat.invariant in
    record {
      count = search rules;
      nothing = subst HaveNothing (sym c.in_ok-push_or_drop.ensures.items) (All-push HasNothing c.loop-seat.agents.items _ was.nothing (has_nothing c.in_ok-agent.agent c.in_ok-agent.ensures.nothing c.in_ok-agent.ensures.kept));
      opened = opened_more c.loop-seat.agents.items _ c.in_ok-agent.agent c.in-Some.seat (into_iter_items c.loop-seat.seat-iterator) (into_iter_items c.next.new.self) (into_iter_items c.into_iter-seat-iterator.result)
          c.in_ok-push_or_drop.ensures.items c.in-Some.ensures.steps.0 c.in_ok-agent.ensures.order c.in_ok-agent.ensures.peers was.opened;
    }

pub returns-clause-seated : goal.returns-clause-seated
returns-clause-seated g c =
    let none : length (into_iter_items c.loop-seat.seat-iterator) ≡ 0 = search rules in
    let seats : into_iter_items c.into_iter-seat-iterator.result ≡ c.in_ok-seats.field-0.seats.items = search rules in
    agents_seated c.loop-seat.agents.items c.in_ok-seats.field-0.seats.items c.in_ok-seats.ensures.seated
    (opened_all c.loop-seat.agents.items (into_iter_items c.loop-seat.seat-iterator) (into_iter_items c.into_iter-seat-iterator.result) none c.loop-seat.invariant.opened ∙ ap (map seat_for) seats)
