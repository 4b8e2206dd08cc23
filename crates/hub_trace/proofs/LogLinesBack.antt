-- The log line of an agent or an entry that was written reads back.
use Rattle.std.proofs.Common.{◌≡◌, ◌≢◌, get_or, ℕ, ◌<◌, ◌≤◌, ◌^◌, List, [], ◌∷◌, ◌++◌, Bool, true, false, cond, bytes_eq, codes, Ok, Err, refl, sym, ap, subst, ◌∙◌, arith, append_assoc, length, leb, None, ◌&&◌}
use Rattle.std.specs.Fmt.{decimal}
use Rattle.std.specs.List.{All, list_all}
use Rattle.std.proofs.lemmas.Bool.{ne_eqb}
use Rattle.std.proofs.lemmas.Bool.Decides.{nat_tests}
use Rattle.std.proofs.lemmas.Fmt.{digits_decimal}
use Rattle.std.proofs.lemmas.List.Elements.{All-head, All-tail}
use Rattle.hub_envelope.specs.Answer.{answer_of}
use Rattle.hub_envelope.specs.BodyText.{IsBodyText}
use Rattle.hub_envelope.specs.declared.ids.AgentId.{AgentId}
use Rattle.hub_envelope.specs.declared.ids.EndId.{EndId}
use Rattle.hub_envelope.proofs.Answers.{answer_of-again}
use Rattle.hub_envelope.proofs.BodyBytes.{body-first, body-visible}
use Rattle.hub_text.specs.EndList.{ends_text, more_ends_text}
use Rattle.hub_text.specs.Number.{is_digit}
use Rattle.hub_text.specs.Reading.{◌>>=◌, some_or}
use Rattle.hub_text.proofs.Numbers.{own, written_is}
use Rattle.hub_trace.specs.declared.log_entry.Delivery.{Delivery}
use Rattle.hub_trace.specs.declared.log_entry.LogEntry.{LogEntry}
use Rattle.hub_trace.specs.declared.log_entry.LogEntry.TheVariants.{Put, Got, Adopted, Closed}
use Rattle.hub_text.specs.Word.{cut}
use Rattle.hub_trace.specs.declared.content.Content.{Content}
use Rattle.hub_trace.specs.declared.content.Content.TheVariants.{Payload, Notice}
use Rattle.hub_envelope.specs.Naming.{posted_text}
use Rattle.hub_envelope.specs.declared.posted.Posted.{Posted}
use Rattle.hub_trace.specs.declared.log_version.LogVersion.{LogVersion}
use Rattle.hub_trace.specs.LogVersion.{max_body, max_line}
use Rattle.hub_trace.specs.declared.log_line.LogLine.TheVariants as line
use Rattle.hub_trace.specs.declared.error.LogError.TheVariants.{BadLine}
use Rattle.hub_trace.specs.declared.read.TheConstants.{LOGS_END}
use Rattle.hub_trace.specs.Limits.{IsContentWithin, IsDeliveryWithin, IsEntryWithin, IsPostedWithin, IsMessageWithin, IsPortList}
use Rattle.hub_trace.specs.LogLine.{LogRead, adoption_in, begins_with_space, body_answer, body_in, content_cut, content_in, delivery_in, end_in, epoch_in, posted_in, line_id_in, log_line_of, log_line_with, payload_in, number_in_logs, parts_in, ports_in_logs, log_line_in}
use Rattle.hub_trace.specs.Text.{content_text, delivery_text, entry_text}
use Rattle.hub_trace.proofs.Bytes.{HasOnly, HasOnly-append, HasOnly-weaker, Lacks, Lacks-decimal, both, cut-here, decimal-visible, other_than-digit, is_visible-digit, is_visible, other_than}
use Rattle.hub_trace.proofs.LogLineText.{text_line}
use Rattle.hub_trace.proofs.Versions.{lines_few}
use Rattle.hub_trace.proofs.PortTexts.{end_back, ports-back, small_end}
use Rattle.hub_trace.proofs.Utf8.{delivery_words, two_words, adopted_words, entry-utf8, agent-utf8}

-- ---- which bytes stand in a list of ports

module _ (p : ℕ → Bool) (dash : p 45 ≡ true) (comma : p 44 ≡ true) (digit : (b : ℕ) → is_digit b ≡ true → p b ≡ true) where
  end_only : (e : EndId) → e.0 ≤ 65535 → HasOnly p (decimal e.0)
  end_only e le = HasOnly-weaker is_digit p digit (decimal e.0) (digits_decimal own e.0 (small_end e.0 le))

  more_only : (ends : List EndId) → All (λ e. e.0 ≤ 65535) ends → HasOnly p (more_ends_text ends)
  more_only [] known = refl
  more_only (e ∷ ends) known =
      HasOnly-append p (44 ∷ decimal e.0) (more_ends_text ends)
      (both (p 44) (list_all p (decimal e.0)) comma (end_only e (All-head (λ (x : EndId). x.0 ≤ 65535) e ends known)))
      (more_only ends (All-tail (λ (x : EndId). x.0 ≤ 65535) e ends known))

  ports_only : (ends : List EndId) → All (λ e. e.0 ≤ 65535) ends → HasOnly p (ends_text ends)
  ports_only [] known = both (p 45) true dash refl
  ports_only (e ∷ ends) known =
      HasOnly-append p (decimal e.0) (more_ends_text ends)
      (end_only e (All-head (λ (x : EndId). x.0 ≤ 65535) e ends known))
      (more_only ends (All-tail (λ (x : EndId). x.0 ≤ 65535) e ends known))

ports_no_space : (ends : List EndId) → IsPortList ends → Lacks 32 (ends_text ends)
ports_no_space ends h = ports_only (other_than 32) refl refl (λ b. other_than-digit 32 b refl) ends h.known

ports_visible : (ends : List EndId) → IsPortList ends → HasOnly is_visible (ends_text ends)
ports_visible ends h = ports_only is_visible refl refl is_visible-digit ends h.known

-- ---- words and numbers

parts-here : (c : ℕ) (a rest : List ℕ) → Lacks c a → parts_in c (a ++ c ∷ rest) ≡ Ok (a, rest)
parts-here c a rest h = ap (some_or BadLine) (cut-here c a rest h)

number_back : (max n : ℕ) → n ≤ max → max < 2 ^ 64 → number_in_logs max (decimal n) ≡ Ok n
number_back max n le fits = ap (some_or BadLine) (written_is max n (decimal n) le fits refl)

-- ---- names

name_no_space : (v : LogVersion) (l : Posted) → IsPostedWithin v l → Lacks 32 (decimal l.epoch ++ 58 ∷ decimal l.number)
name_no_space v l h =
    let epoch = h.epoch in
    let number = h.number in
    HasOnly-append (other_than 32) (decimal l.epoch) (58 ∷ decimal l.number) (Lacks-decimal 32 l.epoch refl (omega arith)) (Lacks-decimal 32 l.number refl (omega arith))

posted_back : (v : LogVersion) (l : Posted) → IsPostedWithin v l → posted_in v (decimal l.end.0) (decimal l.line.0) (decimal l.epoch ++ 58 ∷ decimal l.number) ≡ Ok l
unfolding posted_in
posted_back v l h =
    let e1 : parts_in 58 (decimal l.epoch ++ 58 ∷ decimal l.number) ≡ Ok (decimal l.epoch, decimal l.number) = parts-here 58 (decimal l.epoch) (decimal l.number) (Lacks-decimal 58 l.epoch refl (let k = h.epoch in omega arith)) in
    let e2 : end_in (decimal l.end.0) ≡ Ok l.end = end_back l.end h.end in
    let e3 : line_id_in v (decimal l.line.0) ≡ Ok l.line = ap (λ (r : LogRead ℕ). r >>= λ (n : ℕ). Ok (record { 0 = n })) (number_back (max_line v) l.line.0 h.line (omega (arith, lines_few v))) in
    let e4 : epoch_in (decimal l.epoch) ≡ Ok l.epoch = number_back 65535 l.epoch h.epoch (omega arith) in
    let e5 : number_in_logs 4611686018427387903 (decimal l.number) ≡ Ok l.number = number_back 4611686018427387903 l.number h.number (omega arith) in
    rw (e1, e2, e3, e4, e5) refl

-- the words of a name, joined from the right
posted_words : (end line epoch number : List ℕ) → end ++ codes " " ++ line ++ codes " " ++ epoch ++ codes ":" ++ number ≡ end ++ (32 ∷ (line ++ (32 ∷ (epoch ++ (58 ∷ number)))))
posted_words end line epoch number = simp append_assoc

posted_visible : (v : LogVersion) (l : Posted) → IsPostedWithin v l → HasOnly is_visible (posted_text l)
posted_visible v l h =
    let end = h.end in
    let line = h.line in
    let few = lines_few v in
    let epoch = h.epoch in
    let number = h.number in
    subst (HasOnly is_visible) (sym (posted_words (decimal l.end.0) (decimal l.line.0) (decimal l.epoch) (decimal l.number)))
    (HasOnly-append is_visible (decimal l.end.0) (32 ∷ (decimal l.line.0 ++ 32 ∷ (decimal l.epoch ++ 58 ∷ decimal l.number))) (decimal-visible l.end.0 (omega arith))
    (HasOnly-append is_visible (decimal l.line.0) (32 ∷ (decimal l.epoch ++ 58 ∷ decimal l.number)) (decimal-visible l.line.0 (omega arith))
    (HasOnly-append is_visible (decimal l.epoch) (58 ∷ decimal l.number) (decimal-visible l.epoch (omega arith)) (decimal-visible l.number (omega arith)))))

-- ---- bodies

no_space : (text : List ℕ) → get_or text 0 0 ≢ 32 → begins_with_space text ≡ false
no_space [] other = refl
no_space (b ∷ text) other = ne_eqb b 32 other

body_back : (v : LogVersion) (text : List ℕ) → IsBodyText text → length text ≤ max_body v → body_in v text ≡ Ok text
unfolding body_in
body_back v text h le =
    let fits : leb (length text) (max_body v) ≡ true = grind (arith, nat_tests) in
    ap (λ b. cond b (Err BadLine) (body_answer v (answer_of text))) (no_space text (body-first text h)) ∙ ap (body_answer v) (answer_of-again text h)
    ∙ ap (λ b. cond b (Ok text) (Err BadLine)) fits

message_back : (v : LogVersion) (m : List EndId × List ℕ) → IsMessageWithin v m → payload_in v (ends_text m.0) m.1 ≡ Ok m
unfolding payload_in
message_back v m h =
    let e2 : ports_in_logs (ends_text m.0) ≡ Ok m.0 = ports-back m.0 h.ports in
    let e3 : body_in v m.1 ≡ Ok m.1 = body_back v m.1 h.body h.short in
    rw (e2, e3) refl

no_second : cut 32 (codes "notice") ≡ None
unfolding cut
no_second = refl

content_back : (v : LogVersion) (c : Content) → IsContentWithin v c → content_in v (content_text c) ≡ Ok c
unfolding content_in
content_back v (Payload m) h =
    ap (content_in v) (two_words (ends_text m.0) m.1) ∙ ap (content_cut v (ends_text m.0 ++ 32 ∷ m.1)) (cut-here 32 (ends_text m.0) m.1 (ports_no_space m.0 h.ports))
    ∙ ap (λ (r : LogRead (List EndId × List ℕ)). r >>= λ (x : List EndId × List ℕ). Ok (Payload x)) (message_back v m h)
content_back v Notice h =
    ap (content_cut v (codes "notice")) no_second
    ∙ ap (λ b. cond (b && true) (Ok Notice) (Err BadLine)) h

content_visible : (v : LogVersion) (c : Content) → IsContentWithin v c → HasOnly is_visible (content_text c)
content_visible v (Payload m) h =
    subst (HasOnly is_visible) (sym (two_words (ends_text m.0) m.1)) (HasOnly-append is_visible (ends_text m.0) (32 ∷ m.1) (ports_visible m.0 h.ports) (body-visible m.1 h.body))
content_visible v Notice h = refl

-- ---- deliveries

delivery_back : (v : LogVersion) (d : Delivery) → IsDeliveryWithin v d → delivery_in v (delivery_text d) ≡ Ok d
unfolding delivery_in
delivery_back v d h =
    let l = d.posted in
    let posted = h.posted in
    let end = decimal l.end.0 in
    let line = decimal l.line.0 in
    let name = decimal l.epoch ++ 58 ∷ decimal l.number in
    let content = content_text d.content in
    let end_le = posted.end in
    let line_le = posted.line in
    let few = lines_few v in
    let e0 : delivery_text d ≡ end ++ 32 ∷ (line ++ 32 ∷ (name ++ 32 ∷ content)) = delivery_words end line (decimal l.epoch) (decimal l.number) content in
    let e1 : parts_in 32 (end ++ 32 ∷ (line ++ 32 ∷ (name ++ 32 ∷ content))) ≡ Ok (end, line ++ 32 ∷ (name ++ 32 ∷ content)) = parts-here 32 end (line ++ 32 ∷ (name ++ 32 ∷ content)) (Lacks-decimal 32 l.end.0 refl (omega arith)) in
    let e2 : parts_in 32 (line ++ 32 ∷ (name ++ 32 ∷ content)) ≡ Ok (line, name ++ 32 ∷ content) = parts-here 32 line (name ++ 32 ∷ content) (Lacks-decimal 32 l.line.0 refl (omega arith)) in
    let e3 : parts_in 32 (name ++ 32 ∷ content) ≡ Ok (name, content) = parts-here 32 name content (name_no_space v l posted) in
    let e4 : posted_in v end line name ≡ Ok l = posted_back v l posted in
    let e5 : content_in v content ≡ Ok d.content = content_back v d.content h.content in
    rw (e0, e1, e2, e3, e4, e5) refl

delivery_visible : (v : LogVersion) (d : Delivery) → IsDeliveryWithin v d → HasOnly is_visible (delivery_text d)
delivery_visible v d h =
    subst (HasOnly is_visible) (sym (two_words (posted_text d.posted) (content_text d.content)))
    (HasOnly-append is_visible (posted_text d.posted) (32 ∷ content_text d.content) (posted_visible v d.posted h.posted) (content_visible v d.content h.content))

-- ---- entries

adoption_back : (e : EndId) (epoch : ℕ) → e.0 ≤ 65535 → epoch ≤ 65535 → adoption_in (decimal e.0 ++ 32 ∷ decimal epoch) ≡ Ok (e, epoch)
unfolding adoption_in
adoption_back e epoch known le =
    let e1 : parts_in 32 (decimal e.0 ++ 32 ∷ decimal epoch) ≡ Ok (decimal e.0, decimal epoch) = parts-here 32 (decimal e.0) (decimal epoch) (Lacks-decimal 32 e.0 refl (small_end e.0 known)) in
    let e2 : end_in (decimal e.0) ≡ Ok e = end_back e known in
    let e3 : epoch_in (decimal epoch) ≡ Ok epoch = number_back 65535 epoch le (omega arith) in
    rw (e1, e2, e3) refl

said_after : (v : LogVersion) (name rest : List ℕ) → Lacks 32 name → log_line_in v (name ++ 32 ∷ rest) ≡ log_line_with v name rest
unfolding log_line_in
said_after v name rest lacks =
    let e1 : parts_in 32 (name ++ 32 ∷ rest) ≡ Ok (name, rest) = parts-here 32 name rest lacks in
    rw e1 refl

entry_said : (v : LogVersion) (e : LogEntry) → IsEntryWithin v e → log_line_in v (entry_text e) ≡ Ok (line.Entry e)
unfolding log_line_with
entry_said v (Put d) h =
    said_after v (codes "put") (delivery_text d) refl
    ∙ ap (λ (r : LogRead Delivery). r >>= λ (x : Delivery). Ok (line.Entry (Put x))) (delivery_back v d h)
entry_said v (Got d) h =
    said_after v (codes "got") (delivery_text d) refl
    ∙ ap (λ (r : LogRead Delivery). r >>= λ (x : Delivery). Ok (line.Entry (Got x))) (delivery_back v d h)
entry_said v (Adopted e epoch) h =
    ap (log_line_in v) (adopted_words (decimal e.0) (decimal epoch))
    ∙ said_after v (codes "adopted") (decimal e.0 ++ 32 ∷ decimal epoch) refl
    ∙ ap (λ (r : LogRead (EndId × ℕ)). r >>= λ (x : EndId × ℕ). Ok (line.Entry (Adopted x.0 x.1))) (adoption_back e epoch h.0 h.1)
entry_said v (Closed e) h =
    said_after v (codes "closed") (decimal e.0) refl
    ∙ ap (λ (r : LogRead EndId). r >>= λ (x : EndId). Ok (line.Entry (Closed x))) (end_back e h)

pub entry-back : (v : LogVersion) (e : LogEntry) → IsEntryWithin v e → log_line_of v (entry_text e) ≡ Ok (line.Entry e)
entry-back v e h = text_line v (entry_text e) (entry-utf8 v e h) ∙ entry_said v e h

pub entry-visible : (v : LogVersion) (e : LogEntry) → IsEntryWithin v e → HasOnly is_visible (entry_text e)
entry-visible v (Put d) h = delivery_visible v d h
entry-visible v (Got d) h = delivery_visible v d h
entry-visible v (Adopted e epoch) h =
    subst (HasOnly is_visible) (sym (adopted_words (decimal e.0) (decimal epoch)))
    (HasOnly-append is_visible (decimal e.0) (32 ∷ decimal epoch) (decimal-visible e.0 (small_end e.0 h.0)) (decimal-visible epoch (small_end epoch h.1)))
entry-visible v (Closed e) h = decimal-visible e.0 (small_end e.0 h)

agent_said : (v : LogVersion) (a : AgentId) → a.0 ≤ 15 → log_line_in v (codes "agent " ++ decimal a.0) ≡ Ok (line.Agent a)
unfolding log_line_with
agent_said v a le =
    said_after v (codes "agent") (decimal a.0) refl
    ∙ ap (λ (r : LogRead ℕ). (r >>= λ (n : ℕ). Ok (record { 0 = n })) >>= λ (x : AgentId). Ok (line.Agent x)) (number_back 15 a.0 le (omega arith))

pub agent-back : (v : LogVersion) (a : AgentId) → a.0 ≤ 15 → log_line_of v (codes "agent " ++ decimal a.0) ≡ Ok (line.Agent a)
agent-back v a le = text_line v (codes "agent " ++ decimal a.0) (agent-utf8 a le) ∙ agent_said v a le

pub agent-visible : (a : AgentId) → a.0 ≤ 15 → HasOnly is_visible (codes "agent " ++ decimal a.0)
agent-visible a le = decimal-visible a.0 (omega arith)

-- neither is the line at which the logs end

pub entry-not_end : (e : LogEntry) → bytes_eq (entry_text e) LOGS_END.now ≡ false
entry-not_end (Put d) = refl
entry-not_end (Got d) = refl
entry-not_end (Adopted e epoch) = refl
entry-not_end (Closed e) = refl

pub agent-not_end : (a : AgentId) → bytes_eq (codes "agent " ++ decimal a.0) LOGS_END.now ≡ false
agent-not_end a = refl
