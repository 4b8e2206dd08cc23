-- The log lines of logs are UTF-8.
use Rattle.std.proofs.Common.{◌≡◌, ℕ, zero, suc, ◌<◌, ◌≤◌, ◌^◌, List, [], ◌∷◌, ◌++◌, get_or, codes, IsUtf8, All, sym, subst, arith, append_assoc, rules}
use Rattle.std.specs.Fmt.{decimal}
use Rattle.std.proofs.lemmas.Fmt.{IsAscii-decimal}
use Rattle.std.proofs.lemmas.List.Elements.{All-head, All-tail}
use Rattle.std.proofs.lemmas.Str.{IsUtf8-append, IsUtf8-from_ascii, IsUtf8-nil}
use Rattle.hub_envelope.specs.declared.ids.AgentId.{AgentId}
use Rattle.hub_envelope.specs.declared.ids.EndId.{EndId}
use Rattle.hub_text.specs.EndList.{ends_text, more_ends_text}
use Rattle.hub_trace.specs.declared.content.Content.{Content}
use Rattle.hub_trace.specs.declared.content.Content.TheVariants.{Payload, Notice}
use Rattle.hub_trace.specs.declared.log_version.LogVersion.{LogVersion}
use Rattle.hub_trace.specs.declared.log_entry.Delivery.{Delivery}
use Rattle.hub_trace.specs.declared.log_entry.LogEntry.{LogEntry}
use Rattle.hub_trace.specs.declared.log_entry.LogEntry.TheVariants.{Put, Got, Adopted, Closed}
use Rattle.hub_trace.specs.Limits.{IsContentWithin, IsDeliveryWithin, IsEntryWithin, IsPortList}
use Rattle.hub_trace.specs.Text.{content_text, delivery_text, entry_text}
use Rattle.hub_trace.proofs.PortTexts.{small_end}
use Rattle.hub_trace.proofs.Versions.{lines_few}

-- ---- bytes and numbers

one_ascii : (b i : ℕ) → b < 128 → get_or (b ∷ []) i 0 < 128
one_ascii b zero h = h
one_ascii b (suc i) h = omega arith

one : (b : ℕ) → b < 128 → IsUtf8 (b ∷ [])
one b small = IsUtf8-from_ascii (b ∷ []) (λ i. one_ascii b i small)

number : (n : ℕ) → n < 2 ^ 64 → IsUtf8 (decimal n)
number n small = IsUtf8-from_ascii (decimal n) (IsAscii-decimal n small)

-- a text, an ASCII byte and another text
pair : (before after : List ℕ) (b : ℕ) → IsUtf8 before → b < 128 → IsUtf8 after → IsUtf8 (before ++ b ∷ after)
pair before after b first small last = IsUtf8-append before (b ∷ after) first (IsUtf8-append (b ∷ []) after (one b small) last)

-- ---- the pieces of a line

pub delivery_words : (end line epoch number content : List ℕ) → end ++ codes " " ++ line ++ codes " " ++ epoch ++ codes ":" ++ number ++ codes " " ++ content
    ≡ end ++ (32 ∷ (line ++ (32 ∷ ((epoch ++ (58 ∷ number)) ++ (32 ∷ content)))))
delivery_words end line epoch number content = simp append_assoc

more_ports_utf8 : (ends : List EndId) → All (λ e. e.0 ≤ 65535) ends → IsUtf8 (more_ends_text ends)
more_ports_utf8 [] known = IsUtf8-nil
more_ports_utf8 (e ∷ ends) known =
    IsUtf8-append (44 ∷ decimal e.0) (more_ends_text ends)
    (IsUtf8-append (44 ∷ []) (decimal e.0) (one 44 (omega arith)) (number e.0 (small_end e.0 (All-head (λ (x : EndId). x.0 ≤ 65535) e ends known))))
    (more_ports_utf8 ends (All-tail (λ (x : EndId). x.0 ≤ 65535) e ends known))

ports_utf8 : (ends : List EndId) → IsPortList ends → IsUtf8 (ends_text ends)
ports_utf8 [] h = one 45 (omega arith)
ports_utf8 (e ∷ ends) h =
    IsUtf8-append (decimal e.0) (more_ends_text ends) (number e.0 (small_end e.0 (All-head (λ (x : EndId). x.0 ≤ 65535) e ends h.known)))
    (more_ports_utf8 ends (All-tail (λ (x : EndId). x.0 ≤ 65535) e ends h.known))

pub two_words : (first rest : List ℕ) → first ++ codes " " ++ rest ≡ first ++ (32 ∷ rest)
two_words first rest = simp append_assoc

notice_utf8 : IsUtf8 (codes "notice")
notice_utf8 = search rules

content_utf8 : (v : LogVersion) (c : Content) → IsContentWithin v c → IsUtf8 (content_text c)
content_utf8 v (Payload m) h = subst IsUtf8 (sym (two_words (ends_text m.0) m.1)) (pair (ends_text m.0) m.1 32 (ports_utf8 m.0 h.ports) (omega arith) h.body.utf8)
content_utf8 v Notice h = notice_utf8

delivery_utf8 : (v : LogVersion) (d : Delivery) → IsDeliveryWithin v d → IsUtf8 (delivery_text d)
delivery_utf8 v d h =
    let l = d.posted in
    let end = h.posted.end in
    let line = h.posted.line in
    let few = lines_few v in
    let epoch = h.posted.epoch in
    let number_le = h.posted.number in
    let name = pair (decimal l.epoch) (decimal l.number) 58 (number l.epoch (omega arith)) (omega arith) (number l.number (omega arith)) in
    subst IsUtf8 (sym (delivery_words (decimal l.end.0) (decimal l.line.0) (decimal l.epoch) (decimal l.number) (content_text d.content)))
    (pair (decimal l.end.0) _ 32 (number l.end.0 (omega arith)) (omega arith)
    (pair (decimal l.line.0) _ 32 (number l.line.0 (omega arith)) (omega arith)
    (pair (decimal l.epoch ++ 58 ∷ decimal l.number) _ 32 name (omega arith) (content_utf8 v d.content h.content))))

pub adopted_words : (end epoch : List ℕ) → codes "adopted " ++ end ++ codes " " ++ epoch ≡ codes "adopted" ++ (32 ∷ (end ++ (32 ∷ epoch)))
adopted_words end epoch = simp append_assoc

-- ---- lines

put_utf8 : IsUtf8 (codes "put ")
put_utf8 = search rules

got_utf8 : IsUtf8 (codes "got ")
got_utf8 = search rules

adopted_utf8 : IsUtf8 (codes "adopted")
adopted_utf8 = search rules

closed_utf8 : IsUtf8 (codes "closed ")
closed_utf8 = search rules

agent_word_utf8 : IsUtf8 (codes "agent ")
agent_word_utf8 = search rules

pub entry-utf8 : (v : LogVersion) (e : LogEntry) → IsEntryWithin v e → IsUtf8 (entry_text e)
entry-utf8 v (Put d) h = IsUtf8-append (codes "put ") (delivery_text d) put_utf8 (delivery_utf8 v d h)
entry-utf8 v (Got d) h = IsUtf8-append (codes "got ") (delivery_text d) got_utf8 (delivery_utf8 v d h)
entry-utf8 v (Adopted e epoch) h =
    subst IsUtf8 (sym (adopted_words (decimal e.0) (decimal epoch)))
    (pair (codes "adopted") _ 32 adopted_utf8 (omega arith) (pair (decimal e.0) (decimal epoch) 32 (number e.0 (small_end e.0 h.0)) (omega arith) (number epoch (small_end epoch h.1))))
entry-utf8 v (Closed e) h = IsUtf8-append (codes "closed ") (decimal e.0) closed_utf8 (number e.0 (small_end e.0 h))

pub agent-utf8 : (a : AgentId) → a.0 ≤ 15 → IsUtf8 (codes "agent " ++ decimal a.0)
agent-utf8 a le = IsUtf8-append (codes "agent ") (decimal a.0) agent_word_utf8 (number a.0 (omega arith))
