-- The limits of a file of logs.
use Rattle.std.specs.Prelude.{◌≡◌, ◌≢◌, ℕ, true, ◌≤◌, List, length}
use Rattle.std.specs.List.{All, AllPairs}
use Rattle.hub_envelope.specs.BodyText.{IsBodyText}
use Rattle.hub_envelope.specs.declared.ids.EndId.{EndId}
use Rattle.hub_envelope.specs.declared.limits.TheConstants.{MAX_PORTS}
use Rattle.hub_trace.specs.declared.log_entry.Delivery.{Delivery}
use Rattle.hub_trace.specs.declared.log_entry.LogEntry.{LogEntry}
use Rattle.hub_trace.specs.declared.log_entry.LogEntry.TheVariants.{Put, Got, Adopted, Closed}
use Rattle.hub_envelope.specs.declared.posted.Posted.{Posted}
use Rattle.hub_trace.specs.declared.limits.TheConstants.{MAX_AGENT, MAX_END, MAX_EPOCH, MAX_NUMBER}
use Rattle.hub_trace.specs.declared.content.Content.{Content}
use Rattle.hub_trace.specs.declared.content.Content.TheVariants.{Payload, Notice}
use Rattle.hub_trace.specs.declared.log_version.LogVersion.{LogVersion}
use Rattle.hub_trace.specs.LogVersion.{has_notices, max_body, max_line}
use Rattle.hub_trace.specs.declared.log_line.LogLine.{LogLine}
use Rattle.hub_trace.specs.declared.log_line.LogLine.TheVariants as line
use Rattle.hub_trace.specs.Accepted.{AgentLog}
use Rattle.hub_trace.specs.Closings.{all_closings, closings}

-- of logs of that version
pub record IsPostedWithin (v : LogVersion) (l : Posted) : Type 0 where
  pub end : l.end.0 ≤ MAX_END
  pub line : l.line.0 ≤ max_line v
  pub epoch : l.epoch ≤ MAX_EPOCH
  pub number : l.number ≤ MAX_NUMBER

-- no end stands twice
abbrev pub AreDistinct : List EndId → Type 0
AreDistinct ends = AllPairs (λ e f. e.0 ≢ f.0) ends

-- at most MAX_PORTS different ends
pub record IsPortList (ends : List EndId) : Type 0 where
  pub few : length ends ≤ MAX_PORTS
  pub known : All (λ e. e.0 ≤ MAX_END) ends
  pub distinct : AreDistinct ends

-- ports and a body
pub record IsMessageWithin (v : LogVersion) (message : List EndId × List ℕ) : Type 0 where
  pub ports : IsPortList message.0
  pub body : IsBodyText message.1
  pub short : length message.1 ≤ max_body v

abbrev pub IsContentWithin : LogVersion → Content → Type 0
IsContentWithin v (Payload m) = IsMessageWithin v m
IsContentWithin v Notice = has_notices v ≡ true

pub record IsDeliveryWithin (v : LogVersion) (d : Delivery) : Type 0 where
  pub posted : IsPostedWithin v d.posted
  pub content : IsContentWithin v d.content

abbrev pub IsEntryWithin : LogVersion → LogEntry → Type 0
IsEntryWithin v (Put d) = IsDeliveryWithin v d
IsEntryWithin v (Got d) = IsDeliveryWithin v d
IsEntryWithin v (Adopted e epoch) = (e.0 ≤ MAX_END) × (epoch ≤ MAX_EPOCH)
IsEntryWithin v (Closed e) = e.0 ≤ MAX_END

abbrev pub IsLogLineWithin : LogVersion → LogLine → Type 0
IsLogLineWithin v (line.Agent a) = a.0 ≤ MAX_AGENT
IsLogLineWithin v (line.Entry e) = IsEntryWithin v e

-- all of the log is within the limits of the version, and it closes no end twice
pub record IsLogWithin (v : LogVersion) (log : AgentLog) : Type 0 where
  pub agent : log.0.0 ≤ MAX_AGENT
  pub entries : All (IsEntryWithin v) log.1
  pub closed_once : AreDistinct (closings log.1)

-- each log is within the limits of the version, and together they close no end twice
pub record AreWithin (v : LogVersion) (logs : List AgentLog) : Type 0 where
  pub each : All (IsLogWithin v) logs
  pub closed_once : AreDistinct (all_closings logs)
