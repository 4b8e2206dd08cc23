-- Where an end is (WHATWG HTML, "Transferable objects": the transfer and transfer-receiving steps), and whether it is closed
-- and its queue enabled ("Message ports": a port message queue is disabled when it is made, and `start()` enables it).
use Rattle.std.specs.Prelude.{if◌then◌else◌, ◌==◌, ◌||◌}
use Rattle.hub_core.specs.Words.{Action, Arrived, Bool, EndId, Envelope, Gone, InFlight, List, None, Option, Outcome, Place, Some, Swept, With, fold, list_any, ℕ, false, true}
use Rattle.hub_core.specs.declared.step.Action.TheVariants as action
use Rattle.hub_core.specs.declared.step.Outcome.TheVariants as outcome
use Rattle.hub_core.specs.History.{History}

-- whether a list of ports names the end
abbrev pub names : List EndId → ℕ → Bool
names ports x = list_any (λ p. p.0 == x) ports

-- The place of a port that was in an envelope taken at an end of this place: arrived at the agent that has that
-- end. An end that no agent has leaves the port where it was.
abbrev pub arrived : Option Place → Option Place → Option Place
arrived (Some (With a)) old = Some (Arrived a)
arrived _ old = old

-- whether one of the envelopes names the end
abbrev pub is_named : List Envelope → ℕ → Bool
is_named vs x = list_any (λ v. names v.ports x) vs

-- the place of an end after an answered step, from the places before
abbrev pub place_after : ℕ → (ℕ → Option Place) → Outcome → Action → Option Place
place_after x place (outcome.Ends e f) (action.Channel a) = if x == e.0 || x == f.0 then Some (With a) else place x
place_after x place (outcome.End e) (action.Client a) = if x == e.0 then Some (With a) else place x
place_after x place (outcome.End e) (action.Worker a) = if x == e.0 then Some (With a) else place x
place_after x place (outcome.End e) (action.Member a name) = if x == e.0 then Some (With a) else place x
place_after x place (outcome.Accepted n) (action.Push s ports body) = if names ports x then Some InFlight else place x
place_after x place (outcome.Got v) (action.Take t) = if names v.ports x then arrived (place t.0) (place x) else place x
place_after x place (outcome.Adopted n) (action.Adopt t a) = if x == t.0 then Some (With a) else place x
place_after x place outcome.Handed (action.Hand t a) = if x == t.0 then Some (Arrived a) else place x
place_after x place (outcome.Discarded vs) (action.Sweep t) = if is_named vs x then Some Swept else place x
place_after x place outcome.Done (action.Close t) = if x == t.0 then Some Gone else place x
place_after x place _ _ = place x

-- The place of an end, by the last pair that placed it: with the agent that made it; in flight since
-- a Push that names it was Accepted; arrived at the agent that has the end at which that was Got, or to which it was
-- handed; swept where it was Discarded; with the agent that adopted it; and gone where it was closed.
abbrev pub place : History → ℕ → Option Place
place h = fold (λ q p x. place_after x q p.1 p.0.action) (λ _. None) h

abbrev pub closed_after : ℕ → Bool → Outcome → Action → Bool
closed_after x closed outcome.Done (action.Close t) = if x == t.0 then true else closed
closed_after x closed _ _ = closed

-- a Close of the end was answered Done
abbrev pub closed : History → ℕ → Bool
closed h x = fold (λ q p. closed_after x q p.1 p.0.action) false h

abbrev pub enabled_after : ℕ → Bool → Outcome → Action → Bool
enabled_after x enabled outcome.Started (action.Start e) = if x == e.0 then true else enabled
enabled_after x enabled (outcome.Adopted n) (action.Adopt t a) = if x == t.0 then false else enabled
enabled_after x enabled _ _ = enabled

-- a Start of the end was answered Started, after its last adoption where it was adopted
abbrev pub enabled : History → ℕ → Bool
enabled h x = fold (λ q p. enabled_after x q p.1 p.0.action) false h
