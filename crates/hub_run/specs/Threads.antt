-- What the threads of a run promise of their logs.
use Rattle.std.specs.Prelude.{◌≡◌, ◌<◌, ℕ, List, get_or, length, Result}
use Rattle.std.specs.declared.alloc.AllocError.{AllocError}
use Rattle.std.specs.declared.thread.PromisedHandle.{PromisedHandle}
use Rattle.hub_script.specs.Contents.{Contents}
use Rattle.hub_trace.specs.Accepted.{AgentLog}
use Rattle.hub_agent.specs.declared.actor.Acted.{Acted}
use Rattle.hub_agent.specs.declared.agent.AgentRun.{AgentRun}
use Rattle.hub_run.specs.declared.run.Part.{Part}
use Rattle.hub_agent.specs.Acting.{IsRunFor}

-- the handle of an agent's thread
abbrev pub AgentThread : Type 0
AgentThread = PromisedHandle (Result AgentRun AllocError) Part

-- these are the handles of the agents 0, 1, .. of the script, in order
pub record ArePromised (script : Contents) (handles : List AgentThread) : Type 0 where
  pub numbers : (k : ℕ) (d : AgentThread) → k < length handles → (get_or handles k d).promise.number.0 ≡ k
  pub scripts : (k : ℕ) (d : AgentThread) → k < length handles → (get_or handles k d).promise.script.now ≡ script

-- these came of the agents 0, 1, .. of the script, in order
abbrev pub AreInOrder : Contents → List AgentLog → List Acted → Type 0
AreInOrder script logs acted = (k : ℕ) (d : AgentLog) (e : Acted) → k < length logs → IsRunFor script (record { 0 = k }) (get_or logs k d) (get_or acted k e)
