use Rattle.std.specs.Prelude.{◌≡◌, ◌+◌, ◌<◌, ℕ, get_or, vec_items, vec_len}
use Rattle.std.specs.Vec.Iter.{into_iter_items, into_iter_len}
use Rattle.hub_run.proofs.Gives.{AreGivenFrom}
use Rattle.hub_run.proofs.run.spawn_waiting_agent_threads.Given as goal

abbrev pub invariant-loop-agent : goal.invariant-loop-agent
invariant-loop-agent g l =
    (vec_len l.handles + into_iter_len l.agent-iterator ≡ vec_len l.fn.agents)
    × ((k : ℕ) (d : _) → k < vec_len l.handles → (get_or (vec_items l.handles) k d).promise.number.0 ≡ k)
    × ((k : ℕ) (d : _) → k < vec_len l.handles → (get_or (vec_items l.handles) k d).promise.script.now ≡ l.script)
    × AreGivenFrom l.script (vec_len l.handles) (into_iter_items l.agent-iterator)
