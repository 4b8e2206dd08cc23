-- What a log line below the header says, or that it is bad.
use Rattle.std.specs.Prelude.{ℕ, ◌==◌, List, [], ◌∷◌, Bool, false, Result, Ok, Err, codes, bytes_eq, if◌then◌else◌, ◌&&◌, nat_le, length, Option, Some, None}
use Rattle.std.specs.Str.{is_utf8}
use Rattle.hub_envelope.specs.Answer.{answer_of}
use Rattle.hub_envelope.specs.declared.body.BodyError.{BodyError}
use Rattle.hub_envelope.specs.declared.ids.AgentId.{AgentId}
use Rattle.hub_envelope.specs.declared.ids.EndId.{EndId}
use Rattle.hub_envelope.specs.declared.ids.LineId.{LineId}
use Rattle.hub_text.specs.EndList.{ends_listed}
use Rattle.hub_text.specs.Number.{number_of}
use Rattle.hub_text.specs.Reading.{◌>>=◌, some_or}
use Rattle.hub_text.specs.Word.{cut}
use Rattle.hub_trace.specs.declared.content.Content.{Content}
use Rattle.hub_trace.specs.declared.content.Content.TheVariants.{Payload, Notice}
use Rattle.hub_envelope.specs.declared.posted.Posted.{Posted}
use Rattle.hub_trace.specs.declared.log_version.LogVersion.{LogVersion}
use Rattle.hub_trace.specs.LogVersion.{has_notices, max_body, max_line}
use Rattle.hub_trace.specs.declared.limits.TheConstants.{MAX_AGENT, MAX_END, MAX_EPOCH, MAX_NUMBER}
use Rattle.hub_trace.specs.declared.log_entry.Delivery.{Delivery}
use Rattle.hub_trace.specs.declared.log_entry.LogEntry.TheVariants.{Put, Got, Adopted, Closed}
use Rattle.hub_trace.specs.declared.error.LogError.{LogError}
use Rattle.hub_trace.specs.declared.error.LogError.TheVariants.{BadLine}
use Rattle.hub_trace.specs.declared.log_line.LogLine.{LogLine}
use Rattle.hub_trace.specs.declared.log_line.LogLine.TheVariants as line
use Rattle.hub_trace.specs.PortList.{is_port_list}

-- what is read, or what is wrong in a log line
abbrev pub LogRead : Type 0 → Type 0
LogRead X = Result X LogError

-- what comes before the first such byte, and what comes after it
abbrev pub parts_in : ℕ → List ℕ → LogRead (List ℕ × List ℕ)
parts_in c text = some_or BadLine (cut c text)

-- decimal digits without leading zeros, at most max
abbrev pub number_in_logs : ℕ → List ℕ → LogRead ℕ
number_in_logs max word = some_or BadLine (number_of max word)

abbrev pub agent_in : List ℕ → LogRead AgentId
agent_in word = number_in_logs MAX_AGENT word >>= λ n. Ok (record { 0 = n })

abbrev pub end_in : List ℕ → LogRead EndId
end_in word = number_in_logs MAX_END word >>= λ n. Ok (record { 0 = n })

-- in logs of the version
abbrev pub line_id_in : LogVersion → List ℕ → LogRead LineId
line_id_in v word = number_in_logs (max_line v) word >>= λ n. Ok (record { 0 = n })

abbrev pub epoch_in : List ℕ → LogRead ℕ
epoch_in word = number_in_logs MAX_EPOCH word

-- `EP:N`, after the words of an end and a line
unfoldable pub posted_in : LogVersion → List ℕ → List ℕ → List ℕ → LogRead Posted
posted_in v end line name = do
  parts ← parts_in 58 name
  e ← end_in end
  l ← line_id_in v line
  epoch ← epoch_in parts.0
  number ← number_in_logs MAX_NUMBER parts.1
  Ok (record { end = e; line = l; epoch = epoch; number = number })

-- the ends, where a log may have them as its list of ports
abbrev pub ports_tested : List EndId → LogRead (List EndId)
ports_tested ends = if is_port_list ends then Ok ends else Err BadLine

-- `-`, or at most MAX_PORTS different ends joined by single commas
unfoldable pub ports_in_logs : List ℕ → LogRead (List EndId)
ports_in_logs list = some_or BadLine (ends_listed MAX_END list) >>= ports_tested

abbrev pub begins_with_space : List ℕ → Bool
begins_with_space [] = false
begins_with_space (b ∷ text) = b == 32

-- the text, where it isn't too long in logs of the version
abbrev pub short_in : LogVersion → List ℕ → LogRead (List ℕ)
short_in v body = if nat_le (length body) (max_body v) then Ok body else Err BadLine

abbrev pub body_answer : LogVersion → Result (List ℕ) BodyError → LogRead (List ℕ)
body_answer v (Ok body) = short_in v body
body_answer v (Err e) = Err BadLine

-- the compact text of a body; a space before it would be a second one
unfoldable pub body_in : LogVersion → List ℕ → LogRead (List ℕ)
body_in v text = if begins_with_space text then Err BadLine else body_answer v (answer_of text)

-- a LIST and a BODY
unfoldable pub payload_in : LogVersion → List ℕ → List ℕ → LogRead (List EndId × List ℕ)
payload_in v list text = do
  ports ← ports_in_logs list
  body ← body_in v text
  Ok (ports, body)

-- one word or two, and more
abbrev pub content_cut : LogVersion → List ℕ → Option (List ℕ × List ℕ) → LogRead Content
content_cut v text None = if has_notices v && bytes_eq text (codes "notice") then Ok Notice else Err BadLine
content_cut v text (Some parts) = payload_in v parts.0 parts.1 >>= λ m. Ok (Payload m)

-- `LIST BODY`, or `notice` where the version has notices
unfoldable pub content_in : LogVersion → List ℕ → LogRead Content
content_in v text = content_cut v text (cut 32 text)

-- `E L EP:N` and a content
unfoldable pub delivery_in : LogVersion → List ℕ → LogRead Delivery
delivery_in v text = do
  end ← parts_in 32 text
  line ← parts_in 32 end.1
  name ← parts_in 32 line.1
  posted ← posted_in v end.0 line.0 name.0
  content ← content_in v name.1
  Ok (record { posted = posted; content = content })

-- `E EP`
unfoldable pub adoption_in : List ℕ → LogRead (EndId × ℕ)
adoption_in text = do
  parts ← parts_in 32 text
  e ← end_in parts.0
  epoch ← epoch_in parts.1
  Ok (e, epoch)

-- what the first word of a log line and the rest of it say, in logs of the version
unfoldable pub log_line_with : LogVersion → List ℕ → List ℕ → LogRead LogLine
log_line_with v name rest =
    if bytes_eq name (codes "agent") then agent_in rest >>= (λ a. Ok (line.Agent a))
    else (if bytes_eq name (codes "put") then delivery_in v rest >>= (λ d. Ok (line.Entry (Put d)))
    else (if bytes_eq name (codes "got") then delivery_in v rest >>= (λ d. Ok (line.Entry (Got d)))
    else (if bytes_eq name (codes "adopted") then adoption_in rest >>= (λ x. Ok (line.Entry (Adopted x.0 x.1)))
    else (if bytes_eq name (codes "closed") then end_in rest >>= (λ e. Ok (line.Entry (Closed e)))
    else Err BadLine))))

unfoldable pub log_line_in : LogVersion → List ℕ → LogRead LogLine
log_line_in v text = parts_in 32 text >>= λ parts. log_line_with v parts.0 parts.1

-- the log line that the bytes of a text line are, in logs of the version
unfoldable pub log_line_of : LogVersion → List ℕ → LogRead LogLine
log_line_of v bytes = if is_utf8 bytes then log_line_in v bytes else Err BadLine
