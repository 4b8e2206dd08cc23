-- All that an answer may depend on: agent by agent, end by end, line by line.
use Rattle.hub_core.specs.Words.{AgentId, Bool, Envelope, Kind, List, Option, Phase, Place, ℕ}
use Rattle.hub_core.specs.History.{History}
use Rattle.hub_core.specs.Envelopes as envelopes
use Rattle.hub_core.specs.Made as made
use Rattle.hub_core.specs.Place as place
use Rattle.hub_core.specs.Lines as lines
use Rattle.hub_core.specs.Roster.{RosterNow}
use Rattle.hub_core.specs.Roster as roster

-- an agent now
pub record AgentNow : Type 0 where
  pub runs : Bool
  pub ordered : Bool

-- an end now; a number that no end has yet has no kind, no place and nothing else
pub record EndNow : Type 0 where
  pub kind : Option Kind
  pub place : Option Place
  pub closed : Bool
  pub enabled : Bool
  pub newest : ℕ
  pub taker_stand : ℕ

-- a line of an end now
pub record LineNow : Type 0 where
  pub phase : Phase
  pub stand : ℕ
  pub noticed : Bool
  pub held_by : Option AgentId

-- how many agents and ends there are; each of them, by number; which queues of an
-- end are clear; by end what was accepted, taken and discarded there; and the roster of broadcast channels
pub record Facts : Type 0 where
  pub agents : ℕ
  pub ends : ℕ
  pub agent : ℕ → AgentNow
  pub end : ℕ → EndNow
  pub line : ℕ → ℕ → LineNow
  pub clear : ℕ → ℕ → Bool
  pub accepted : ℕ → List Envelope
  pub taken : ℕ → List Envelope
  pub discarded : ℕ → List Envelope
  pub roster : RosterNow

-- the notions of a history
abbrev pub facts : History → Facts
facts h = record {
  agents = made.agents h;
  ends = made.ends h;
  agent = λ a. record { runs = made.runs h a; ordered = made.ordered h a };
  end = λ x. record {
    kind = made.kind h x;
    place = place.place h x;
    closed = place.closed h x;
    enabled = place.enabled h x;
    newest = lines.newest h x;
    taker_stand = lines.taker_stand h x;
  };
  line = λ x l. record {
    phase = lines.phase h x l;
    stand = lines.stand h x l;
    noticed = lines.noticed h x l;
    held_by = lines.held_by h x l;
  };
  clear = lines.clear h;
  accepted = envelopes.accepted h;
  taken = envelopes.taken h;
  discarded = envelopes.discarded h;
  roster = roster.roster h;
}
