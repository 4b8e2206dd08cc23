-- How logs and verdicts are written.
use Rattle.std.specs.Prelude.{ℕ, List, ◌++◌, codes}
use Rattle.std.specs.Fmt.{decimal}
use Rattle.std.specs.List.{flat_map}
use Rattle.hub_envelope.specs.Naming.{posted_text}
use Rattle.hub_text.specs.EndList.{ends_text}
use Rattle.hub_trace.specs.declared.content.Content.{Content}
use Rattle.hub_trace.specs.declared.content.Content.TheVariants.{Payload, Notice}
use Rattle.hub_trace.specs.declared.log_entry.Delivery.{Delivery}
use Rattle.hub_trace.specs.declared.log_entry.LogEntry.{LogEntry}
use Rattle.hub_trace.specs.declared.log_entry.LogEntry.TheVariants.{Put, Got, Adopted, Closed}
use Rattle.hub_trace.specs.declared.error.LogError.{LogError}
use Rattle.hub_trace.specs.declared.error.LogError.TheVariants.{BadHeader, BadLine, OutOfMemory}
use Rattle.hub_trace.specs.declared.verdict.FaultKind.{FaultKind}
use Rattle.hub_trace.specs.declared.verdict.FaultKind.TheVariants.{AfterClose, AfterNotice, Changed, Twice, Gap, Foreign}
use Rattle.hub_trace.specs.declared.verdict.Verdict.{Verdict}
use Rattle.hub_trace.specs.declared.verdict.Verdict.TheVariants.{Clean, Fault}
use Rattle.hub_trace.specs.declared.log.TheConstants.{LOG_HEADER}
use Rattle.hub_trace.specs.Accepted.{AgentLog}

-- `LIST BODY`, or `notice`
abbrev pub content_text : Content → List ℕ
content_text (Payload m) = ends_text m.0 ++ codes " " ++ m.1
content_text Notice = codes "notice"

-- `E L EP:N LIST BODY`, or `E L EP:N notice`
abbrev pub delivery_text : Delivery → List ℕ
delivery_text d = posted_text d.posted ++ codes " " ++ content_text d.content

abbrev pub entry_text : LogEntry → List ℕ
entry_text (Put d) = codes "put " ++ delivery_text d
entry_text (Got d) = codes "got " ++ delivery_text d
entry_text (Adopted e epoch) = codes "adopted " ++ decimal e.0 ++ codes " " ++ decimal epoch
entry_text (Closed e) = codes "closed " ++ decimal e.0

-- the log lines of a log, without the header
abbrev pub log_text : AgentLog → List ℕ
log_text log = codes "agent " ++ decimal log.0.0 ++ codes "\n" ++ flat_map (λ e. entry_text e ++ codes "\n") log.1

-- a file of logs: the header's line, and the log lines of each log
abbrev pub file_text : List AgentLog → List ℕ
file_text logs = LOG_HEADER.now ++ codes "\n" ++ flat_map log_text logs

abbrev pub log_error_text : LogError → List ℕ
log_error_text BadHeader = codes "BadHeader"
log_error_text BadLine = codes "BadLine"
log_error_text OutOfMemory = codes "OutOfMemory"

abbrev pub kind_text : FaultKind → List ℕ
kind_text AfterClose = codes "AfterClose"
kind_text AfterNotice = codes "AfterNotice"
kind_text Changed = codes "Changed"
kind_text Twice = codes "Twice"
kind_text Gap = codes "Gap"
kind_text Foreign = codes "Foreign"

-- `clean`, or `fault END LINE PLACE KIND`
abbrev pub verdict_text : Verdict → List ℕ
verdict_text Clean = codes "clean"
verdict_text (Fault end line place kind) = codes "fault " ++ decimal end.0 ++ codes " " ++ decimal line.0 ++ codes " " ++ decimal place ++ codes " " ++ kind_text kind
