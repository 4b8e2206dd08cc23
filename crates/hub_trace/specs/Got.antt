-- What was got of a line.
use Rattle.std.specs.Prelude.{ℕ, Bool, true, false, List, [], ◌∷◌, ◌++◌, Option, Some, None, ◌==◌, if◌then◌else◌}
use Rattle.std.specs.List.{filter, flat_map}
use Rattle.std.specs.declared.cmp.Ordering.{Ordering}
use Rattle.std.specs.Ordering.{nat_cmp}
use Rattle.hub_trace.specs.declared.log_entry.Delivery.{Delivery}
use Rattle.hub_trace.specs.declared.log_entry.LogEntry.{LogEntry}
use Rattle.hub_trace.specs.declared.log_entry.LogEntry.TheVariants.{Put, Got, Adopted, Closed}
use Rattle.hub_trace.specs.Accepted.{AgentLog}
use Rattle.hub_trace.specs.Sorted.{sorted}

-- what happened at an end: something was got there, or, where there is nothing, the end was closed
pub record EndEvent : Type 0 where
  pub stretch : ℕ
  pub got : Option Delivery

-- what was got, and whether the end had been closed before
pub record Receipt : Type 0 where
  pub delivery : Delivery
  pub late : Bool

-- What the entries of one log say of an end, with the stretch that each belongs to: the epoch at which
-- the log last adopted the end. The number is the stretch before the entries.
abbrev pub end_events : ℕ → ℕ → List LogEntry → List EndEvent
end_events end stretch [] = []
end_events end stretch (Put d ∷ entries) = end_events end stretch entries
end_events end stretch (Got d ∷ entries) =
    if d.posted.end.0 == end then record { stretch = stretch; got = Some d } ∷ end_events end stretch entries else end_events end stretch entries
end_events end stretch (Adopted e k ∷ entries) = end_events end (if e.0 == end then k else stretch) entries
end_events end stretch (Closed e ∷ entries) =
    if e.0 == end then record { stretch = stretch; got = None } ∷ end_events end stretch entries else end_events end stretch entries

-- the same of all logs, in their order. A log begins in stretch 0
abbrev pub all_end_events : List AgentLog → ℕ → List EndEvent
all_end_events logs end = flat_map (λ log. end_events end 0 log.1) logs

abbrev pub stretch_cmp : EndEvent → EndEvent → Ordering
stretch_cmp a b = nat_cmp a.stretch b.stretch

-- the stretches joined in rising order, those of equal epochs in the order of the logs
abbrev pub stretches_joined : List AgentLog → ℕ → List EndEvent
stretches_joined logs end = sorted stretch_cmp (all_end_events logs end)

-- what was got by one event, given whether the end is closed before it
abbrev pub receipt : Bool → Option Delivery → List Receipt
receipt closed None = []
receipt closed (Some d) = record { delivery = d; late = closed } ∷ []

-- whether the end is closed after it
abbrev pub is_closed_after : Bool → Option Delivery → Bool
is_closed_after closed None = true
is_closed_after closed (Some d) = closed

-- what was got by all of them
abbrev pub receipts : Bool → List EndEvent → List Receipt
receipts closed [] = []
receipts closed (e ∷ rest) = receipt closed e.got ++ receipts (is_closed_after closed e.got) rest

-- the got list of a line
unfoldable pub got : List AgentLog → ℕ → ℕ → List Receipt
got logs end line = filter (λ r. r.delivery.posted.line.0 == line) (receipts false (stretches_joined logs end))
