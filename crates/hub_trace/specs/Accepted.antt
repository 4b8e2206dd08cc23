-- What was accepted at a line.
use Rattle.std.specs.Prelude.{ℕ, Bool, List, [], ◌∷◌, ◌++◌, ◌==◌, ◌&&◌}
use Rattle.std.specs.List.{filter, flat_map}
use Rattle.std.specs.declared.cmp.Ordering.{Ordering}
use Rattle.std.specs.Ordering.{nat_cmp, ordering_then}
use Rattle.hub_envelope.specs.declared.ids.AgentId.{AgentId}
use Rattle.hub_envelope.specs.declared.ids.EndId.{EndId}
use Rattle.hub_trace.specs.declared.content.Content.{Content}
use Rattle.hub_trace.specs.declared.content.Content.TheVariants.{Payload, Notice}
use Rattle.hub_envelope.specs.declared.posted.Posted.{Posted}
use Rattle.hub_trace.specs.declared.log_entry.Delivery.{Delivery}
use Rattle.hub_trace.specs.declared.log_entry.LogEntry.{LogEntry}
use Rattle.hub_trace.specs.declared.log_entry.LogEntry.TheVariants.{Put, Got, Adopted, Closed}
use Rattle.hub_trace.specs.Sorted.{sorted}

-- the log of an agent: the agent, and its entries, oldest first
abbrev pub AgentLog : Type 0
AgentLog = AgentId × List LogEntry

-- the log with an entry more, the newest
abbrev pub log_with : AgentLog → LogEntry → AgentLog
log_with log e = (log.0, log.1 ++ e ∷ [])

-- the content, under its name
abbrev pub delivery_at : Posted → Content → Delivery
delivery_at posted content = record { posted = posted; content = content }

-- the message of these ports and this body, under its name
abbrev pub message_at : Posted → List EndId → List ℕ → Delivery
message_at posted ports body = record { posted = posted; content = Payload (ports, body) }

-- a notice, under its name
abbrev pub notice_at : Posted → Delivery
notice_at posted = record { posted = posted; content = Notice }

-- what the put entries say, in their order
abbrev pub puts : List LogEntry → List Delivery
puts [] = []
puts (Put d ∷ entries) = d ∷ puts entries
puts (Got d ∷ entries) = puts entries
puts (Adopted e k ∷ entries) = puts entries
puts (Closed e ∷ entries) = puts entries

abbrev pub all_puts : List AgentLog → List Delivery
all_puts logs = flat_map (λ log. puts log.1) logs

-- the name is of this line of this end
abbrev pub is_of : ℕ → ℕ → Posted → Bool
is_of end line posted = (posted.end.0 == end) && (posted.line.0 == line)

-- names compare by epoch, then number
abbrev pub name_cmp : Delivery → Delivery → Ordering
name_cmp a b = ordering_then (nat_cmp a.posted.epoch b.posted.epoch) (nat_cmp a.posted.number b.posted.number)

-- the accepted list of a line: its put entries by name, those of equal names in the order of the logs
unfoldable pub accepted : List AgentLog → ℕ → ℕ → List Delivery
accepted logs end line = sorted name_cmp (filter (λ d. is_of end line d.posted) (all_puts logs))
