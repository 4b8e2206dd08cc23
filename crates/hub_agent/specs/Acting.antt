-- What an agent does and writes of its actions, and what its log owes to its script.
use Rattle.std.specs.Prelude.{◌≡◌, ◌⊎◌, ◌<◌, ℕ, Bool, true, false, List, [], ◌∷◌, ◌++◌, length, replicate, take, None}
use Rattle.hub_envelope.specs.declared.ids.AgentId.{AgentId}
use Rattle.hub_script.specs.Contents.{Contents, actions}
use Rattle.hub_script.specs.declared.action.ActionKind.{ActionKind}
use Rattle.hub_script.specs.declared.action.ActionKind.TheVariants.{Post, Send, Cast}
use Rattle.hub_agent.specs.Doing.{actions_of}
use Rattle.hub_agent.specs.declared.actor.Acted.{Acted}
use Rattle.hub_trace.specs.Accepted.{AgentLog}
use Rattle.hub_logging.specs.Notes.{Notes}
use Rattle.hub_trace.specs.declared.log_entry.LogEntry.{LogEntry}
use Rattle.hub_agent.specs.Agents.{AgentState, Changes}
use Rattle.hub_agent.specs.Entries.{AreEndings, AreLoggedFor, IsLoggedFor, WritesEntries}
use Rattle.hub_agent.specs.Given.{given}
use Rattle.hub_agent.specs.Owning.{Accounts, LeavesOwn, UsesOwn, has, times}
use Rattle.hub_agent.specs.Posts.{Message, messages_put}

-- nothing, or the one message of a post
abbrev pub IsNoneOr : Message → List Message → Type 0
IsNoneOr m messages = (messages ≡ []) ⊎ (messages ≡ m ∷ [])

-- What an action may have its agent put: a post or a send its message, if it is accepted; a cast its body once
-- for each post of it that is accepted; any other action nothing.
abbrev pub IsPutFor : ActionKind → List Message → Type 0
IsPutFor (Post port body transfer) messages = IsNoneOr (transfer, body) messages
IsPutFor (Send queue body transfer) messages = IsNoneOr (transfer, body) messages
IsPutFor (Cast member body) messages = (count : ℕ) × (messages ≡ replicate count ([], body))
IsPutFor _ messages = messages ≡ []

-- what these actions may have their agent put, one after the other
abbrev pub ArePutFor : List ActionKind → List Message → Type 0
ArePutFor [] messages = messages ≡ []
ArePutFor (action ∷ later) messages =
    (first : List Message) × (rest : List Message) × (messages ≡ first ++ rest) × IsPutFor action first × ArePutFor later rest

-- the agent has written of the action what it may
abbrev pub ActLogs : ActionKind → Notes → Notes → Type 0
ActLogs action before after = (entries : List LogEntry) × IsLoggedFor action entries × WritesEntries entries before after

-- The agent has done the action: it has written what it may, and changed of itself what the action names. What its loop holds has
-- changed as it has written, and by a hand it may hold less.
abbrev pub Acts : ActionKind → AgentState → AgentState → Type 0
Acts action before after = ActLogs action before.notes after.notes × Changes action before after × Accounts before after

-- It has written of these actions what it may, one after the other, and used its own ends.
abbrev pub ActsAll : List ActionKind → AgentState → AgentState → Type 0
ActsAll all before after =
    (entries : List LogEntry) × AreLoggedFor all entries × WritesEntries entries before.notes after.notes
    × (before.kept ≡ None → (after.kept ≡ None) × LeavesOwn (has before) entries (has after))

-- So many of all actions were done, before the next one of which the order to end came; or all were done.
abbrev pub IsStoppedAt : Bool → ℕ → ℕ → Type 0
IsStoppedAt true done all = done < all
IsStoppedAt false done all = done ≡ all

-- of the first actions the agent has written what it may, as many as were done
pub record ActsFirst (acted : Acted) (all : List ActionKind) (before after : AgentState) : Type 0 where
  pub acts : ActsAll (take acted.done all) before after
  pub stopped : IsStoppedAt acted.ordered acted.done (length all)

-- The entries are those of these actions, in order, and behind them those of the end of the loop.
abbrev pub AreEntriesFor : List ActionKind → List LogEntry → Type 0
AreEntriesFor all entries =
    (acts : List LogEntry) × (endings : List LogEntry) × (entries ≡ acts ++ endings) × AreLoggedFor all acts × AreEndings endings

-- The log is this agent's. Its entries are, in order, those of the first of the agent's actions, as many as it has done, and no
-- others but those of the end; so are the messages that it says were put. It closes and sends its own ends alone: those that the script
-- gives it and those that it has adopted. All were done, unless the order to end came.
pub record IsRunFor (script : Contents) (agent : AgentId) (log : AgentLog) (acted : Acted) : Type 0 where
  pub whose : log.0 ≡ agent
  pub entries : AreEntriesFor (take acted.done (actions_of agent (actions script))) log.1
  pub put : ArePutFor (take acted.done (actions_of agent (actions script))) (messages_put log.1)
  pub own : UsesOwn (λ e. times e (given script agent.0)) log.1
  pub stopped : IsStoppedAt acted.ordered acted.done (length (actions_of agent (actions script)))
