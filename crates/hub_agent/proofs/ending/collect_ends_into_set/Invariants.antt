use Rattle.std.specs.Prelude.{◌≤◌, ℕ, take}
use Rattle.hub_agent.specs.Owning.{times}
use Rattle.hub_agent.proofs.ending.collect_ends_into_set.Given as goal

abbrev pub invariant-loop-end : goal.invariant-loop-end
invariant-loop-end l = (e : ℕ) → times e l.set.keys ≤ times e (take l.end-index l.ends)
