-- The messages that the log of an agent says were put.
use Rattle.std.specs.Prelude.{ℕ, List, Option, Some, None}
use Rattle.std.specs.List.{filter_map}
use Rattle.hub_envelope.specs.declared.ids.EndId.{EndId}
use Rattle.hub_trace.specs.declared.content.Content.{Content}
use Rattle.hub_trace.specs.declared.content.Content.TheVariants as content
use Rattle.hub_trace.specs.declared.log_entry.LogEntry.{LogEntry}
use Rattle.hub_trace.specs.declared.log_entry.LogEntry.TheVariants.{Put, Got, Adopted, Closed}

-- what a post carries: the ports that it transfers, and its body
abbrev pub Message : Type 0
Message = List EndId × List ℕ

-- a notice is no message
abbrev pub message_in : Content → Option Message
message_in (content.Payload m) = Some m
message_in content.Notice = None

abbrev pub message_put : LogEntry → Option Message
message_put (Put d) = message_in d.content
message_put (Got d) = None
message_put (Adopted e epoch) = None
message_put (Closed e) = None

-- the messages that the entries say were put, in their order
abbrev pub messages_put : List LogEntry → List Message
messages_put entries = filter_map message_put entries
