-- What was accepted for an end, and what was taken there (WHATWG HTML, "Message ports": the tasks queued on a port message
-- queue, and those that its event loop ran); and what was discarded (this project's own).
use Rattle.std.specs.Prelude.{if◌then◌else◌, ◌==◌, ◌∷◌}
use Rattle.hub_core.specs.Words.{Acceptance, Action, EndId, Envelope, List, Outcome, Sender, [], codes, false, flat_map, true, ℕ}
use Rattle.hub_core.specs.declared.step.Action.TheVariants as action
use Rattle.hub_core.specs.declared.step.Outcome.TheVariants as outcome
use Rattle.hub_core.specs.History.{History}

-- what was accepted on a line, under its name
abbrev pub named_envelope : Sender → Acceptance → List ℕ → List EndId → Envelope
named_envelope s a body ports =
    record { end = s.end; epoch = a.epoch; line = s.line; number = a.number; agent = a.agent; body = body; ports = ports; notice = false }

-- a notice that was accepted on a line, under its name: it has no agent of its own, no body and no ports
abbrev pub named_notice : Sender → Acceptance → Envelope
named_notice s a =
    record { end = s.end; epoch = a.epoch; line = s.line; number = a.number; agent = a.agent; body = codes "null"; ports = []; notice = true }

-- what an answered step puts at the end: the envelope of a Push, or of a Notice, answered Accepted
abbrev pub accepted_by : ℕ → Outcome → Action → List Envelope
accepted_by e (outcome.Accepted a) (action.Push s ports body) =
    if e == s.end.0 then named_envelope s a body ports ∷ [] else []
accepted_by e (outcome.Accepted a) (action.Notice s) = if e == s.end.0 then named_notice s a ∷ [] else []
accepted_by e _ _ = []

-- the envelopes of the Push and Notice steps to the end that were answered Accepted, in order
abbrev pub accepted : History → ℕ → List Envelope
accepted h e = flat_map (λ p. accepted_by e p.1 p.0.action) h

-- what an answered step takes at the end: the envelope of a Take answered Got
abbrev pub taken_by : ℕ → Outcome → Action → List Envelope
taken_by e (outcome.Got v) (action.Take t) = if e == t.0 then v ∷ [] else []
taken_by e _ _ = []

-- the envelopes of the Take steps at the end that were answered Got, in order
abbrev pub taken : History → ℕ → List Envelope
taken h e = flat_map (λ p. taken_by e p.1 p.0.action) h

-- what an answered step discards at the end: the envelopes of a Sweep answered Discarded
abbrev pub discarded_by : ℕ → Outcome → Action → List Envelope
discarded_by e (outcome.Discarded vs) (action.Sweep t) = if e == t.0 then vs else []
discarded_by e _ _ = []

-- the envelopes of the Sweep steps at the end that were answered Discarded, in order
abbrev pub discarded : History → ℕ → List Envelope
discarded h e = flat_map (λ p. discarded_by e p.1 p.0.action) h
