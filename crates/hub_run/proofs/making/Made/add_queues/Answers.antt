use Rattle.std.proofs.Common.{Ok, refl, rules}
use Rattle.hub_run.proofs.Gives.{gives_numbered, queues_done, queues_next}
use Rattle.hub_run.proofs.making.Made.add_queues.Goals as goal

pub loop-place-preserved : goal.loop-place-preserved
loop-place-preserved g c =
    let was = c.loop-place.invariant in
    let place = c.loop-place.place in
    let drawn = c.loop-place.self.ends.drawn in
    let old = c.loop-place.self.agents.items in
    let new = c.give_end_before_run.new.self.agents.items in
    record {
      given = queues_next place drawn (record { 0 = place }) c.args.self.now.agents.items old new refl was.drawn was.given
          (gives_numbered {E = Unit {0}} (Ok (tt {0})) (record { 0 = place }) c.in_ok-queue.queue (record { 0 = drawn }) old new c.in_ok-queue.ensures.end c.in_ok-give_end_before_run.ensures.given);
      drawn = search rules;
    }

pub returns-clause-given : goal.returns-clause-given
returns-clause-given g c =
    queues_done c.loop-place.place c.args.self.now.agents.items c.loop-place.self.agents.items (search rules) c.loop-place.invariant.given
