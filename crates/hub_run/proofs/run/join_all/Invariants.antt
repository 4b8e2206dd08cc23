use Rattle.std.specs.Prelude.{◌≡◌, ◌+◌, ◌<◌, ℕ, get_or, vec_items, vec_len}
use Rattle.std.specs.Vec.Iter.{into_iter_items, into_iter_len}
use Rattle.hub_agent.specs.Acting.{IsRunFor}
use Rattle.hub_run.proofs.run.join_all.Given as goal

abbrev pub invariant-loop-handle : goal.invariant-loop-handle
invariant-loop-handle g l =
    let done = vec_len l.run.logs in let rest = l.handle-iterator in
    (done + into_iter_len rest ≡ vec_len l.fn.handles)
    × ((k : ℕ) (d : _) → k < into_iter_len rest → (get_or (into_iter_items rest) k d).promise.number.0 ≡ done + k)
    × ((k : ℕ) (d : _) → k < into_iter_len rest → (get_or (into_iter_items rest) k d).promise.script.now ≡ l._script)
    × (vec_len l.run.acted ≡ done)
    × ((k : ℕ) (d : _) (e : _) → k < done → IsRunFor l._script (record { 0 = k }) (get_or (vec_items l.run.logs) k d) (get_or (vec_items l.run.acted) k e))
