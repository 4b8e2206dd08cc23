-- What the logs of a run owe to its script: how many there are, whose each is, and what is written in it.
use Rattle.std.specs.Prelude.{◌≡◌, ℕ, List, length, Some, slice_get}
use Rattle.hub_envelope.specs.declared.ids.AgentId.{AgentId}
use Rattle.hub_script.specs.Contents.{Contents, actions, declared_agents}
use Rattle.hub_agent.specs.Doing.{actions_of}
use Rattle.hub_agent.specs.declared.actor.Acted.{Acted}
use Rattle.hub_trace.specs.Accepted.{AgentLog}
use Rattle.hub_agent.specs.Acting.{AreEntriesFor, ArePutFor, IsRunFor}
use Rattle.hub_agent.specs.Given.{given}
use Rattle.hub_agent.specs.Owning.{UsesOwn, times}
use Rattle.hub_agent.specs.Posts.{messages_put}

-- one log for each agent of the script and how far the agent came, in the order of the agents
pub record AreRunsFor (script : Contents) (logs : List AgentLog) (acted : List Acted) : Type 0 where
  pub count : length logs ≡ length (declared_agents script)
  pub all : length acted ≡ length (declared_agents script)
  pub each : (number : ℕ) (log : AgentLog) (a : Acted) → slice_get logs number ≡ Some log → slice_get acted number ≡ Some a
      → IsRunFor script (record { 0 = number }) log a

-- The log is this agent's. Its entries are, in order, those of the agent's actions, and no others but those of the end; of an
-- action it may have none. So are the messages that it says were put. It closes and sends its own ends alone.
pub record IsLogFor (script : Contents) (agent : AgentId) (log : AgentLog) : Type 0 where
  pub whose : log.0 ≡ agent
  pub entries : AreEntriesFor (actions_of agent (actions script)) log.1
  pub put : ArePutFor (actions_of agent (actions script)) (messages_put log.1)
  pub own : UsesOwn (λ e. times e (given script agent.0)) log.1

-- one log for each agent of the script, in the order of the agents
pub record AreLogsFor (script : Contents) (logs : List AgentLog) : Type 0 where
  pub count : length logs ≡ length (declared_agents script)
  pub each : (number : ℕ) (log : AgentLog) → slice_get logs number ≡ Some log → IsLogFor script (record { 0 = number }) log
