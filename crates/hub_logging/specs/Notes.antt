-- What the handler of an agent's loop writes down.
use Rattle.std.specs.Prelude.{◌≡◌, ℕ, ◌+◌, ◌%◌, ◌^◌, Bool, true, false, not, List, [], if◌then◌else◌}
use Rattle.std.specs.List.{filter}
use Rattle.hub_envelope.specs.declared.envelope.Envelope.{Envelope}
use Rattle.hub_envelope.specs.declared.ids.EndId.{EndId}
use Rattle.hub_envelope.specs.Naming.{posted_of}
use Rattle.hub_trace.specs.Accepted.{AgentLog, log_with, message_at, notice_at}
use Rattle.hub_trace.specs.PortList.{lists_end, is_port_list}
use Rattle.hub_trace.specs.declared.log_entry.Delivery.{Delivery}
use Rattle.hub_trace.specs.declared.log_entry.LogEntry.TheVariants.{Got}

-- the log of the agent, the ports of the envelope that was delivered last which the loop holds, and how many messages were delivered
pub record Notes : Type 0 where
  pub log : AgentLog
  pub adopted : List EndId
  pub messages : ℕ

-- what the log says of an envelope that was delivered
abbrev pub delivered : Envelope → Delivery
delivered e = if e.notice then notice_at (posted_of e) else message_at (posted_of e) e.ports e.body

-- a message counts, a notice doesn't; the count has 64 bits
abbrev pub message_counted : Bool → ℕ → ℕ
message_counted true messages = messages
message_counted false messages = (messages + 1) % 2 ^ 64

-- the ports of the list that aren't missing, in order
abbrev pub not_missing : List EndId → List EndId → List EndId
not_missing missing ports = filter (λ p. not (lists_end missing p.0)) ports

-- the ports that came with an envelope and that the loop holds; a notice brings none
abbrev pub found : List EndId → Envelope → List EndId
found missing e = if e.notice then [] else not_missing missing e.ports

-- What a log can hold of an envelope: the ends of its list are different ones, and a notice lists none.
abbrev pub IsLoggable : Envelope → Type 0
IsLoggable e = (is_port_list e.ports ≡ true) × (e.notice ≡ true → e.ports ≡ [])

-- a delivery leaves one entry more in the log, and what was adopted with it
abbrev pub notes_of : Notes → Envelope → List EndId → Notes
notes_of notes e missing = record {
  log = log_with notes.log (Got (delivered e));
  adopted = found missing e;
  messages = message_counted e.notice notes.messages;
}
