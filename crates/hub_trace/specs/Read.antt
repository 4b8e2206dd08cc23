-- What the bytes of a file of logs say.
use Rattle.std.specs.Prelude.{◌≡◌, ◌≢◌, ℕ, ◌+◌, ◌≤◌, List, [], ◌∷◌, ◌++◌, Bool, Option, Some, None, Result, Ok, Err, bytes_eq, if◌then◌else◌}
use Rattle.hub_text.specs.Reading.{◌>>=◌}
use Rattle.hub_text.specs.TextLines.{text_lines_of}
use Rattle.hub_trace.specs.declared.log_entry.LogEntry.{LogEntry}
use Rattle.hub_trace.specs.declared.log_line.LogLine.{LogLine}
use Rattle.hub_trace.specs.declared.log_line.LogLine.TheVariants as line
use Rattle.hub_trace.specs.declared.log_version.LogVersion.{LogVersion}
use Rattle.hub_trace.specs.LogVersion.{header_of, version_of}
use Rattle.hub_trace.specs.declared.read.TheConstants.{LOGS_END}
use Rattle.hub_trace.specs.declared.error.LogError.{LogError}
use Rattle.hub_trace.specs.declared.error.LogError.TheVariants as error
use Rattle.hub_trace.specs.Accepted.{AgentLog}
use Rattle.hub_trace.specs.Closings.{closes_again, is_closed_in}
use Rattle.hub_trace.specs.LogLine.{LogRead, log_line_of}

-- logs, or the number of the first bad text line and what is wrong with it
abbrev pub LogsRead : Type 0
LogsRead = Result (List AgentLog) (ℕ × LogError)

-- the logs with an entry more in the newest
abbrev pub with_entry : List AgentLog → LogEntry → List AgentLog
with_entry [] e = []
with_entry (log ∷ []) e = (log.0, log.1 ++ e ∷ []) ∷ []
with_entry (log ∷ next ∷ logs) e = log ∷ with_entry (next ∷ logs) e

-- the logs with what a log line says; an entry belongs to the newest log, and no end is closed twice
abbrev pub with_log_line : List AgentLog → LogLine → LogRead (List AgentLog)
with_log_line logs (line.Agent a) = Ok (logs ++ (a, []) ∷ [])
with_log_line [] (line.Entry e) = Err error.BadLine
with_log_line (log ∷ logs) (line.Entry e) = if closes_again (log ∷ logs) e then Err error.BadLine else Ok (with_entry (log ∷ logs) e)

-- the logs, which are of the version, with what the bytes of a text line say
abbrev pub line_added : LogVersion → List AgentLog → List ℕ → LogRead (List AgentLog)
line_added v logs bytes = log_line_of v bytes >>= with_log_line logs

-- what is read after the text line of that number
abbrev pub after_log_line : ℕ → LogRead (List AgentLog) → (List AgentLog → LogsRead) → LogsRead
after_log_line n (Err e) more = Err (n, e)
after_log_line n (Ok logs) more = more logs

-- the logs with what the text lines from number n on say, up to a line `deliveries`
unfoldable pub logs_from : LogVersion → ℕ → List AgentLog → List (List ℕ) → LogsRead
logs_from v n logs [] = Ok logs
logs_from v n logs (l ∷ lines) =
    if bytes_eq l LOGS_END.now then Ok logs else after_log_line n (line_added v logs l) (λ longer. logs_from v (n + 1) longer lines)

-- the logs of the version that the first text line names
abbrev pub logs_below : Option LogVersion → List (List ℕ) → LogsRead
logs_below None lines = Err (1, error.BadHeader)
logs_below (Some v) lines = logs_from v 2 [] lines

abbrev pub below_header : List (List ℕ) → LogsRead
below_header [] = Ok []
below_header (header ∷ lines) = logs_below (version_of header) lines

-- the logs, or the first bad text line and what is wrong with it. No bytes are no logs
abbrev pub logs_of : List ℕ → LogsRead
logs_of bytes = below_header (text_lines_of bytes)

-- the test tells which ends the logs close
abbrev pub TellsClosed : (ℕ → Bool) → List AgentLog → Type 0
TellsClosed test logs = (end : ℕ) → test end ≡ is_closed_in logs end

-- the first text line is the header of that version
abbrev pub HasHeaderOf : LogVersion → List ℕ → Type 0
HasHeaderOf v bytes = (rest : List (List ℕ)) × (text_lines_of bytes ≡ header_of v ∷ rest)

-- the first text line is the header of a version
abbrev pub HasHeader : List ℕ → Type 0
HasHeader bytes = (v : LogVersion) × HasHeaderOf v bytes

-- there is a first text line, and it is the header of no version
abbrev pub HasOtherHeader : List ℕ → Type 0
HasOtherHeader bytes = (header : List ℕ) × (rest : List (List ℕ)) × (text_lines_of bytes ≡ header ∷ rest) × ((v : LogVersion) → header ≢ header_of v)

-- where each error comes: BadHeader at the first text line alone, the others below a header
abbrev pub ComesAt : List ℕ → ℕ → LogError → Type 0
ComesAt bytes n error.BadHeader = (n ≡ 1) × HasOtherHeader bytes
ComesAt bytes n error.BadLine = (2 ≤ n) × HasHeader bytes
ComesAt bytes n error.OutOfMemory = (2 ≤ n) × HasHeader bytes
