-- What the checker's own lists stand for.
use Rattle.std.specs.Prelude.{◌≡◌, ℕ, false, List, ◌<◌, ◌≤◌, ◌==◌, ◌||◌, ◌&&◌, Bool, nat_lt, Option, Some, None, IfSome, option_map, map, slice_index_or, length}
use Rattle.std.specs.List.{filter}
use Rattle.hub_envelope.specs.declared.posted.Posted.{Posted}
use Rattle.hub_trace.specs.declared.log_entry.Delivery.{Delivery}
use Rattle.hub_trace.specs.declared.accepted.AcceptedEnvelope.{AcceptedEnvelope}
use Rattle.hub_trace.specs.declared.received.Happening.{Happening}
use Rattle.hub_trace.specs.declared.received.Incoming.{Incoming}
use Rattle.hub_trace.specs.Accepted.{is_of}
use Rattle.hub_trace.specs.Got.{EndEvent, Receipt}

abbrev pub delivery_of : AcceptedEnvelope → Delivery
delivery_of a = record { posted = a.posted; content = a.content.now }

abbrev pub receipt_of : Incoming → Receipt
receipt_of a = record { delivery = record { posted = a.posted; content = a.content.now }; late = a.late }

-- nothing is of an end below that of what stands before it
abbrev pub RisesByEnd : List Happening → Type 0
RisesByEnd xs = (i j : ℕ) (d : Happening) → i ≤ j → j < length xs → (slice_index_or xs i d).end.0 ≤ (slice_index_or xs j d).end.0

abbrev pub end_event_of : Happening → EndEvent
end_event_of h = record { stretch = h.stretch; got = option_map (λ d. d.now) h.got }

-- the name is of an earlier line than this
abbrev pub is_before : ℕ → ℕ → Posted → Bool
is_before end line posted = nat_lt posted.end.0 end || ((posted.end.0 == end) && nat_lt posted.line.0 line)

-- the name is of a later line than this
abbrev pub is_after : ℕ → ℕ → Posted → Bool
is_after end line posted = nat_lt end posted.end.0 || ((posted.end.0 == end) && nat_lt line posted.line.0)

-- nothing is of an earlier line than what stands before it
abbrev pub RisesByLine : {X : Type 0} → (X → Posted) → List X → Type 0
RisesByLine {X} posted xs = (i j : ℕ) (d : X) → i ≤ j → j < length xs → is_before (posted (slice_index_or xs i d)).end.0 (posted (slice_index_or xs i d)).line.0 (posted (slice_index_or xs j d)) ≡ false

-- what was accepted at a line, among these
abbrev pub accepted_in : List AcceptedEnvelope → ℕ → ℕ → List Delivery
accepted_in xs end line = map delivery_of (filter (λ a. is_of end line a.posted) xs)

-- what was got of a line, among these
abbrev pub got_among : List Incoming → ℕ → ℕ → List Receipt
got_among xs end line = map receipt_of (filter (λ a. is_of end line a.posted) xs)

-- an envelope that was got was got at its own end
abbrev pub IsOwn : Happening → Type 0
IsOwn h = IfSome h.got (λ d. d.now.posted.end.0 ≡ h.end.0)

-- whether the end that was closed last is this
abbrev pub is_closed : Option ℕ → ℕ → Bool
is_closed None end = false
is_closed (Some x) end = x == end

-- what happened at an end, among these
abbrev pub end_events_in : List Happening → ℕ → List EndEvent
end_events_in xs end = map end_event_of (filter (λ h. h.end.0 == end) xs)

-- what was got at an end, among these
abbrev pub receipts_in : List Incoming → ℕ → List Receipt
receipts_in xs end = map receipt_of (filter (λ a. a.posted.end.0 == end) xs)
