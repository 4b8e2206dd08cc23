-- What holds of the facts of every legal history, each part with the notions that it reads (this project's own).
use Rattle.std.specs.Prelude.{◌++◌, ◌+◌, ◌<◌, ◌∷◌, ◌≡◌, ◌≤◌, ◌⊎◌}
use Rattle.hub_core.specs.Words.{AgentId, AllByRecursion, Arrived, Bool, Envelope, Gone, InFlight, Inside, List, MAX_ENDS, None, Option, Out, Place, Sender, Some, Turned, With, [], false, filter, is_some, length, suc, true, zero, ℕ}
use Rattle.hub_core.specs.Notions.{EndNow, LineNow, Facts, names, by, in_queue, Prefix, Rises, up_to, numbers, peer_of, lines_of}
use Rattle.hub_core.specs.Posting.{is_out, is_distinct, may_enter}

-- a number that no end has, and one that no line of an end has
abbrev pub no_end : EndNow
no_end = record { kind = None; place = None; closed = false; enabled = false; newest = 0; taker_stand = 0 }

abbrev pub no_line : LineNow
no_line = record { phase = Out; stand = 0; noticed = false; held_by = None }

-- an envelope of the end, of one of its lines, and of a queue that the line came to, with different ports
pub record IsOfEnd (x lines : ℕ) (line : ℕ → LineNow) (v : Envelope) : Type 0 where
  pub end : v.end.0 ≡ x
  pub has_line : v.line.0 < lines
  pub epoch : v.epoch ≤ (line v.line.0).stand
  pub ports : is_distinct v.ports ≡ true

-- The lines of an end. A line stands between the first queue and the newest, and so does the taker; a number that no line
-- has is out, at the first queue. What was accepted of a line goes from queue to queue, numbered in each from 0. A queue is
-- clear only where it is retired or the newest of a closed end. A line is turned back only where its queue is retired or
-- the end closed, and is inside no queue that the taker has left, and none that is clear. A notice is the last of its line.
pub record SoundLines (x lines newest taker : ℕ) (closed : Bool) (line : ℕ → LineNow) (clear : ℕ → Bool) (accepted : List Envelope) : Type 0 where
  pub stand : (l : ℕ) → (line l).stand ≤ newest
  pub taker_stand : taker ≤ newest
  pub none : (l : ℕ) → lines ≤ l → line l ≡ no_line
  pub named : AllByRecursion (IsOfEnd x lines line) accepted
  pub rising : (l : ℕ) → Rises (by l accepted)
  pub numbered : (l k : ℕ) → numbers l k accepted ≡ up_to (length (numbers l k accepted))
  pub clear_within : (k : ℕ) → clear k ≡ true → (k < newest) ⊎ ((k ≡ newest) × (closed ≡ true))
  pub turned : (l : ℕ) → (line l).phase ≡ Turned → ((line l).stand < newest) ⊎ (closed ≡ true)
  pub inside : (l : ℕ) → (line l).phase ≡ Inside → taker ≤ (line l).stand
  pub inside_unclear : (l : ℕ) → (line l).phase ≡ Inside → clear (line l).stand ≡ false
  pub messages : (l : ℕ) → (line l).noticed ≡ false → AllByRecursion (λ v. v.notice ≡ false) (by l accepted)
  pub last : (l : ℕ) (before after : List Envelope) (v : Envelope) → by l accepted ≡ before ++ v ∷ after → v.notice ≡ true → after ≡ []

-- What was taken and then discarded at an end, and what waits there. Of a line it is a prefix of what was accepted of
-- it, and it goes from queue to queue across the lines. What was taken is of queues that the taker came to, and nothing
-- waits in a queue that it has left. Nothing is discarded while the end is open or a line is inside, and where
-- something was discarded nothing waits.
pub record SoundWaiting (taker : ℕ) (closed : Bool) (line : ℕ → LineNow) (accepted taken discarded : List Envelope) : Type 0 where
  pub prefix : (l : ℕ) → Prefix (by l (taken ++ discarded)) (by l accepted)
  pub rising : Rises (taken ++ discarded)
  pub reached : AllByRecursion (λ v. v.epoch ≤ taker) taken
  pub behind : (l k : ℕ) → k < taker → in_queue k (by l taken) ≡ in_queue k (by l accepted)
  pub kept : closed ≡ false → discarded ≡ []
  pub nobody : (l : ℕ) → (line l).phase ≡ Inside → discarded ≡ []
  pub swept : (discarded ≡ []) ⊎ ((l : ℕ) → by l (taken ++ discarded) ≡ by l accepted)

-- the sum over the numbers below a bound
abbrev pub total : (ℕ → ℕ) → ℕ → ℕ
total w zero = 0
total w (suc n) = total w n + w n

-- how many of the envelopes name the port
abbrev pub naming : ℕ → List Envelope → ℕ
naming x vs = length (filter (λ v. names v.ports x) vs)

-- 1 where a port of this place is in flight
abbrev pub flights : Option Place → ℕ
flights (Some InFlight) = 1
flights _ = 0

-- whether an end of this place was closed
abbrev pub is_gone : Option Place → Bool
is_gone (Some Gone) = true
is_gone _ = false

-- Where ends are. There are at most as many as there are numbers for. A number that no end or agent has stands for nothing.
-- Ports are entangled both ways. The agents that have ends were made. A line whose poster is inside or being turned back is
-- one that may be entered. An end is closed exactly where it is gone. Ports alone are in flight. A port is in flight
-- exactly where one envelope that waits names it, accepted and neither taken nor discarded, and at most one does.
pub record SoundPlaces (f : Facts) : Type 0 where
  pub few : f.ends ≤ MAX_ENDS
  pub ends : (x : ℕ) → f.ends ≤ x → f.end x ≡ no_end
  pub agents : (a : ℕ) → f.agents ≤ a → (f.agent a).runs ≡ false
  pub peers : (x y : ℕ) → peer_of (f.end x).kind ≡ Some y → (y < f.ends) × (peer_of (f.end y).kind ≡ Some x)
  pub with_made : (x : ℕ) (a : AgentId) → (f.end x).place ≡ Some (With a) → a.0 < f.agents
  pub arrived_made : (x : ℕ) (a : AgentId) → (f.end x).place ≡ Some (Arrived a) → a.0 < f.agents
  pub away : (s : Sender) → is_out ((f.line s.end.0 s.line.0).phase) ≡ false → may_enter f s ≡ true
  pub flying : (x : ℕ) → (f.end x).place ≡ Some InFlight → is_some (peer_of (f.end x).kind) ≡ true
  pub gone : (x : ℕ) → (f.end x).closed ≡ is_gone ((f.end x).place)
  pub flights : (x : ℕ) → total (λ e. naming x (f.accepted e)) f.ends ≡ total (λ e. naming x (f.taken e ++ f.discarded e)) f.ends + flights ((f.end x).place)

pub record Sound (f : Facts) : Type 0 where
  pub lines : (x : ℕ) → SoundLines x (lines_of ((f.end x).kind)) ((f.end x).newest) ((f.end x).taker_stand) ((f.end x).closed) (f.line x) (f.clear x) (f.accepted x)
  pub waiting : (x : ℕ) → SoundWaiting ((f.end x).taker_stand) ((f.end x).closed) (f.line x) (f.accepted x) (f.taken x) (f.discarded x)
  pub places : SoundPlaces f
