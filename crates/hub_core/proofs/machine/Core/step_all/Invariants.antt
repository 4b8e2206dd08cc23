use Rattle.std.proofs.Common.{◌≡◌, length}
use Rattle.hub_core.proofs.Words.{zip, Shows}
use Rattle.hub_core.proofs.machine.Core.step_all.Given as goal

-- the core shows the pairs so far
abbrev pub invariant-loop-step : goal.invariant-loop-step
invariant-loop-step l = record {
  each : length l.outcomes.items ≡ length l.yielded;
  shows : Shows l.self (zip l.yielded l.outcomes.items);
}
