use Rattle.std.proofs.Common.{◌≡◌}
use Rattle.hub_run.specs.Giving.{Gives}
use Rattle.hub_run.proofs.Gives.{first_queues}
use Rattle.hub_run.proofs.making.Made.add_queues.Given as goal

abbrev pub invariant-loop-place : goal.invariant-loop-place
invariant-loop-place g l = record {
  given : Gives (first_queues l.place) l.fn.self.agents.items l.self.agents.items;
  drawn : l.self.ends.drawn ≡ l.place;
}
