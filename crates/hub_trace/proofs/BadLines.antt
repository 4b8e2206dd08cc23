-- A log line that is refused is refused as a bad line.
use Rattle.std.proofs.Common.{◌≡◌, ℕ, List, [], ◌∷◌, Bool, true, false, cond, ◌&&◌, nat_le, length, bytes_eq, codes, Option, Some, None, Result, Ok, Err}
use Rattle.std.specs.Str.{is_utf8}
use Rattle.hub_envelope.specs.Answer.{answer_of}
use Rattle.hub_envelope.specs.declared.body.BodyError.{BodyError}
use Rattle.hub_text.specs.EndList.{ends_listed}
use Rattle.hub_text.specs.Number.{number_of}
use Rattle.hub_text.specs.Reading.{◌>>=◌, some_or}
use Rattle.hub_text.specs.Word.{cut}
use Rattle.hub_trace.specs.declared.content.Content.TheVariants.{Payload, Notice}
use Rattle.hub_trace.specs.declared.log_version.LogVersion.{LogVersion}
use Rattle.hub_trace.specs.LogVersion.{has_notices, max_body, max_line}
use Rattle.hub_trace.specs.declared.error.LogError.{LogError}
use Rattle.hub_trace.specs.declared.error.LogError.TheVariants.{BadLine}
use Rattle.hub_trace.specs.declared.log_line.LogLine.{LogLine}
use Rattle.hub_trace.specs.declared.log_line.LogLine.TheVariants as line
use Rattle.hub_trace.specs.Accepted.{AgentLog}
use Rattle.hub_trace.specs.Closings.{closes_again}
use Rattle.hub_trace.specs.LogLine.{LogRead, adoption_in, agent_in, begins_with_space, body_answer, body_in, content_cut, content_in, delivery_in, end_in, epoch_in, posted_in, line_id_in, log_line_of, log_line_with, payload_in, number_in_logs, parts_in, ports_in_logs, ports_tested, log_line_in}
use Rattle.hub_trace.specs.PortList.{is_port_list}
use Rattle.hub_trace.specs.Read.{line_added, with_entry, with_log_line}

-- what is refused is a bad line
abbrev pub RefusesBad : {X : Type 0} → LogRead X → Type 0
RefusesBad read = (e : LogError) → read ≡ Err e → e ≡ BadLine

ok : {X : Type 0} (x : X) → RefusesBad (Ok x)
ok x e is = cc

bad : {X : Type 0} → RefusesBad {X = X} (Err BadLine)
bad e is = cc

some : {X : Type 0} (o : Option X) → RefusesBad (some_or BadLine o)
some (Some x) e is = cc
some None e is = cc

then : {A B : Type 0} (read : LogRead A) (f : A → LogRead B) → RefusesBad read → ((x : A) → RefusesBad (f x)) → RefusesBad (read >>= f)
then (Ok x) f first next = next x
then (Err e) f first next = λ d is. first d (let same : e ≡ d = cc in λ i. Err (same i))

either : {X : Type 0} (b : Bool) (x y : LogRead X) → RefusesBad x → RefusesBad y → RefusesBad (cond b x y)
either true x y h k = h
either false x y h k = k

number : (max : ℕ) (word : List ℕ) → RefusesBad (number_in_logs max word)
number max word = some (number_of max word)

parts : (c : ℕ) (text : List ℕ) → RefusesBad (parts_in c text)
parts c text = some (cut c text)

end : (word : List ℕ) → RefusesBad (end_in word)
end word = then (number_in_logs 65535 word) _ (number 65535 word) (λ n. ok (record { 0 = n }))

posted : (v : LogVersion) (e l name : List ℕ) → RefusesBad (posted_in v e l name)
unfolding posted_in
posted v e l name =
    then (parts_in 58 name) _ (parts 58 name) (λ p.
    then (end_in e) _ (end e) (λ x.
    then (line_id_in v l) _ (then (number_in_logs (max_line v) l) _ (number (max_line v) l) (λ n. ok (record { 0 = n }))) (λ y.
    then (epoch_in p.0) _ (number 65535 p.0) (λ epoch.
    then (number_in_logs 4611686018427387903 p.1) _ (number 4611686018427387903 p.1) (λ n. ok (record { end = x; line = y; epoch = epoch; number = n }))))))

ports : (list : List ℕ) → RefusesBad (ports_in_logs list)
unfolding ports_in_logs
ports list = then (some_or BadLine (ends_listed 65535 list)) ports_tested (some (ends_listed 65535 list)) (λ ends. either (is_port_list ends) (Ok ends) (Err BadLine) (ok ends) bad)

answer : (v : LogVersion) (r : Result (List ℕ) BodyError) → RefusesBad (body_answer v r)
answer v (Ok x) = either (nat_le (length x) (max_body v)) (Ok x) (Err BadLine) (ok x) bad
answer v (Err e) = bad

body : (v : LogVersion) (text : List ℕ) → RefusesBad (body_in v text)
unfolding body_in
body v text = either (begins_with_space text) (Err BadLine) (body_answer v (answer_of text)) bad (answer v (answer_of text))

message : (v : LogVersion) (list text : List ℕ) → RefusesBad (payload_in v list text)
unfolding payload_in
message v list text =
    then (ports_in_logs list) _ (ports list) (λ ends.
    then (body_in v text) _ (body v text) (λ b. ok (ends, b)))

content_of_cut : (v : LogVersion) (text : List ℕ) (parts : Option (List ℕ × List ℕ)) → RefusesBad (content_cut v text parts)
content_of_cut v text None = either (has_notices v && bytes_eq text (codes "notice")) (Ok Notice) (Err BadLine) (ok Notice) bad
content_of_cut v text (Some p) = then (payload_in v p.0 p.1) _ (message v p.0 p.1) (λ m. ok (Payload m))

content : (v : LogVersion) (text : List ℕ) → RefusesBad (content_in v text)
unfolding content_in
content v text = content_of_cut v text (cut 32 text)

delivery : (v : LogVersion) (text : List ℕ) → RefusesBad (delivery_in v text)
unfolding delivery_in
delivery v text =
    then (parts_in 32 text) _ (parts 32 text) (λ e.
    then (parts_in 32 e.1) _ (parts 32 e.1) (λ l.
    then (parts_in 32 l.1) _ (parts 32 l.1) (λ n.
    then (posted_in v e.0 l.0 n.0) _ (posted v e.0 l.0 n.0) (λ x.
    then (content_in v n.1) _ (content v n.1) (λ c. ok (record { posted = x; content = c }))))))

adoption : (text : List ℕ) → RefusesBad (adoption_in text)
unfolding adoption_in
adoption text =
    then (parts_in 32 text) _ (parts 32 text) (λ p.
    then (end_in p.0) _ (end p.0) (λ e.
    then (epoch_in p.1) _ (number 65535 p.1) (λ n. ok _)))

with_name : (v : LogVersion) (name rest : List ℕ) → RefusesBad (log_line_with v name rest)
unfolding log_line_with
with_name v name rest =
    either (bytes_eq name (codes "agent")) _ _ (then (agent_in rest) _ (then (number_in_logs 15 rest) _ (number 15 rest) (λ n. ok (record { 0 = n }))) (λ a. ok (line.Agent a)))
    (either (bytes_eq name (codes "put")) _ _ (then (delivery_in v rest) _ (delivery v rest) (λ d. ok _))
    (either (bytes_eq name (codes "got")) _ _ (then (delivery_in v rest) _ (delivery v rest) (λ d. ok _))
    (either (bytes_eq name (codes "adopted")) _ _ (then (adoption_in rest) _ (adoption rest) (λ e. ok _))
    (either (bytes_eq name (codes "closed")) _ _ (then (end_in rest) _ (end rest) (λ e. ok _)) bad))))

line_text : (v : LogVersion) (text : List ℕ) → RefusesBad (log_line_in v text)
unfolding log_line_in
line_text v text = then (parts_in 32 text) _ (parts 32 text) (λ p. with_name v p.0 p.1)

log_line : (v : LogVersion) (bytes : List ℕ) → RefusesBad (log_line_of v bytes)
unfolding log_line_of
log_line v bytes = either (is_utf8 bytes) (log_line_in v bytes) (Err BadLine) (line_text v bytes) bad

with : (logs : List AgentLog) (l : LogLine) → RefusesBad (with_log_line logs l)
with logs (line.Agent a) = ok _
with [] (line.Entry e) = bad
with (l ∷ logs) (line.Entry e) = either (closes_again (l ∷ logs) e) (Err BadLine) (Ok (with_entry (l ∷ logs) e)) bad (ok _)

pub bad_line : (v : LogVersion) (logs : List AgentLog) (bytes : List ℕ) → RefusesBad (line_added v logs bytes)
bad_line v logs bytes = then (log_line_of v bytes) (with_log_line logs) (log_line v bytes) (with logs)
