-- The ends that entries and logs close.
use Rattle.std.specs.Prelude.{ℕ, List, [], ◌∷◌, Bool, false}
use Rattle.std.specs.List.{flat_map}
use Rattle.hub_envelope.specs.declared.ids.EndId.{EndId}
use Rattle.hub_trace.specs.declared.log_entry.LogEntry.{LogEntry}
use Rattle.hub_trace.specs.declared.log_entry.LogEntry.TheVariants.{Put, Got, Adopted, Closed}
use Rattle.hub_trace.specs.Accepted.{AgentLog}
use Rattle.hub_trace.specs.PortList.{lists_end}

-- the ends that the entries close
abbrev pub closings : List LogEntry → List EndId
closings [] = []
closings (Put d ∷ entries) = closings entries
closings (Got d ∷ entries) = closings entries
closings (Adopted e k ∷ entries) = closings entries
closings (Closed e ∷ entries) = e ∷ closings entries

abbrev pub all_closings : List AgentLog → List EndId
all_closings logs = flat_map (λ log. closings log.1) logs

-- whether the entries close the end of that number
abbrev pub is_closed_by : List LogEntry → ℕ → Bool
is_closed_by entries end = lists_end (closings entries) end

-- whether the logs close the end of that number
abbrev pub is_closed_in : List AgentLog → ℕ → Bool
is_closed_in logs end = lists_end (all_closings logs) end

-- whether the entry closes an end that passes the test
abbrev pub closes_one : (ℕ → Bool) → LogEntry → Bool
closes_one test (Put d) = false
closes_one test (Got d) = false
closes_one test (Adopted e k) = false
closes_one test (Closed e) = test e.0

-- whether the entry closes an end that the logs close
abbrev pub closes_again : List AgentLog → LogEntry → Bool
closes_again logs entry = closes_one (is_closed_in logs) entry
