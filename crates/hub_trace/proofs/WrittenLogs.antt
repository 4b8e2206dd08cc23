-- A file of logs that was written reads back.
use Rattle.std.proofs.Common.{◌≡◌, ℕ, ◌+◌, ◌≤◌, ◌⊎◌, inl, inr, List, [], ◌∷◌, ◌++◌, get_or, true, false, cond, bytes_eq, codes, Result, Ok, Err, MatchResult, ⊎_elim, refl, sym, ap, subst, ◌∙◌, arith, length-append, append_assoc}
use Rattle.std.specs.Prelude.{◌==◌}
use Rattle.std.specs.Fmt.{decimal}
use Rattle.std.specs.List.{All, flat_map}
use Rattle.std.proofs.lemmas.Bool.Decides.{nat_tests}
use Rattle.std.proofs.lemmas.List.{append-nil}
use Rattle.std.proofs.lemmas.List.Elements.{All-head, All-tail}
use Rattle.hub_envelope.specs.declared.ids.AgentId.{AgentId}
use Rattle.hub_envelope.specs.declared.ids.EndId.{EndId}
use Rattle.hub_text.specs.Reading.{◌>>=◌, AreLinesReadAs}
use Rattle.hub_text.specs.TextLines.{text_lines_of}
use Rattle.hub_text.proofs.FirstTextLine.{HasNoEnd, line_before}
use Rattle.hub_trace.specs.declared.log_entry.LogEntry.{LogEntry}
use Rattle.hub_trace.specs.declared.log_entry.LogEntry.TheVariants.{Put, Got, Adopted, Closed}
use Rattle.hub_trace.specs.declared.log_line.LogLine.{LogLine}
use Rattle.hub_trace.specs.declared.log.TheConstants.{LOG_HEADER}
use Rattle.hub_trace.specs.declared.read.TheConstants.{LOGS_END}
use Rattle.hub_trace.specs.declared.error.LogError.{LogError}
use Rattle.hub_trace.specs.declared.error.LogError.TheVariants as error
use Rattle.hub_trace.specs.declared.log_version.LogVersion.TheVariants.{Third}
use Rattle.hub_trace.specs.Accepted.{AgentLog}
use Rattle.hub_trace.specs.Closings.{all_closings, closes_again, closings}
use Rattle.hub_trace.specs.Limits.{AreDistinct, AreWithin, IsEntryWithin, IsLogWithin}
use Rattle.hub_trace.specs.LogLine.{LogRead}
use Rattle.hub_trace.specs.Read.{after_log_line, below_header, line_added, logs_from, logs_of, with_entry, with_log_line}
use Rattle.hub_trace.specs.Text.{entry_text, file_text, log_text}
use Rattle.hub_trace.proofs.Adding.{may_add}
use Rattle.hub_trace.proofs.Bytes.{All-from_Lacks, HasOnly, Lacks-visible, is_visible}
use Rattle.hub_trace.proofs.LogLinesBack.{agent-back, agent-not_end, agent-visible, entry-back, entry-not_end, entry-visible}
use Rattle.hub_trace.proofs.PortTexts.{none_before}

-- what is read of these bytes, after these logs, whichever number the next line has
abbrev GivesAll : List AgentLog → List AgentLog → List ℕ → Type 0
GivesAll all logs bytes = (n : ℕ) → logs_from Third n logs (text_lines_of bytes) ≡ Ok all

no_end : (text : List ℕ) → HasOnly is_visible text → HasNoEnd text
no_end text visible k lt e =
    let other = All-from_Lacks 10 text (Lacks-visible text visible) k 0 lt in
    let same : (get_or text k 0 == 10) ≡ true = grind (arith, nat_tests) in
    let wrong : true ≡ false = sym same ∙ other in
    cc

line_more : (all logs longer : List AgentLog) (text rest : List ℕ) → HasOnly is_visible text → bytes_eq text LOGS_END.now ≡ false → line_added Third logs text ≡ Ok longer → GivesAll all longer rest
    → GivesAll all logs (text ++ (10 ∷ rest))
unfolding logs_from
line_more all logs longer text rest visible other added gives n =
    ap (logs_from Third n logs) (line_before text rest (no_end text visible))
    ∙ ap (λ b. cond b (Ok logs) (after_log_line n (line_added Third logs text) (λ x. logs_from Third (n + 1) x (text_lines_of rest)))) other
    ∙ ap (λ (r : LogRead (List AgentLog)). after_log_line n r (λ x. logs_from Third (n + 1) x (text_lines_of rest))) added
    ∙ gives (n + 1)

-- ---- what the entries close

closings_append : (xs ys : List LogEntry) → closings (xs ++ ys) ≡ closings xs ++ closings ys
closings_append [] ys = refl
closings_append (Put d ∷ xs) ys = closings_append xs ys
closings_append (Got d ∷ xs) ys = closings_append xs ys
closings_append (Adopted e k ∷ xs) ys = closings_append xs ys
closings_append (Closed e ∷ xs) ys = ap (λ es. e ∷ es) (closings_append xs ys)

around : (before after others : List EndId) (x : EndId) → (before ++ (x ∷ after)) ++ others ≡ (before ++ []) ++ (x ∷ (after ++ others))
around before after others x = simp (append_assoc, append-nil)

closings_around : (done : List AgentLog) (a : AgentId) (past es : List LogEntry) (others : List AgentLog) (x : EndId)
    → all_closings (done ++ ((a, past ++ (Closed x ∷ es)) ∷ others)) ≡ all_closings (done ++ ((a, past) ∷ [])) ++ (x ∷ (closings es ++ all_closings others))
closings_around [] a past es others x =
    ap (λ (xs : List EndId). xs ++ all_closings others) (closings_append past (Closed x ∷ es)) ∙ around (closings past) (closings es) (all_closings others) x
closings_around (d ∷ done) a past es others x =
    ap (λ (xs : List EndId). closings d.1 ++ xs) (closings_around done a past es others x)
    ∙ sym (append_assoc (closings d.1) (all_closings (done ++ ((a, past) ∷ []))) (x ∷ (closings es ++ all_closings others)))

closes_new : (done : List AgentLog) (a : AgentId) (past es : List LogEntry) (others : List AgentLog) (e : LogEntry) → AreDistinct (all_closings (done ++ ((a, past ++ (e ∷ es)) ∷ others)))
    → closes_again (done ++ ((a, past) ∷ [])) e ≡ false
closes_new done a past es others (Put d) distinct = refl
closes_new done a past es others (Got d) distinct = refl
closes_new done a past es others (Adopted x k) distinct = refl
closes_new done a past es others (Closed x) distinct =
    none_before (all_closings (done ++ ((a, past) ∷ []))) (closings es ++ all_closings others) x (subst AreDistinct (closings_around done a past es others x) distinct)

-- ---- entries

in_newest : (done : List AgentLog) (a : AgentId) (past : List LogEntry) (e : LogEntry) → with_entry (done ++ ((a, past) ∷ [])) e ≡ done ++ ((a, past ++ (e ∷ [])) ∷ [])
in_newest [] a past e = refl
in_newest (d ∷ []) a past e = refl
in_newest (d ∷ next ∷ done) a past e = ap (λ xs. d ∷ xs) (in_newest (next ∷ done) a past e)

abbrev entry_lines : List LogEntry → List ℕ
entry_lines es = flat_map (λ e. entry_text e ++ codes "\n") es

abbrev logs_text : List AgentLog → List ℕ
logs_text logs = flat_map log_text logs

entry_first : (first lines text : List ℕ) → (first ++ codes "\n" ++ lines) ++ text ≡ first ++ (10 ∷ (lines ++ text))
entry_first first lines text = simp append_assoc

log_words : (first lines others tail : List ℕ) → (first ++ codes "\n" ++ lines ++ others) ++ tail ≡ first ++ (10 ∷ (lines ++ (others ++ tail)))
log_words first lines others tail = simp append_assoc

entry_added : (done : List AgentLog) (a : AgentId) (past : List LogEntry) (e : LogEntry) → IsEntryWithin Third e → closes_again (done ++ ((a, past) ∷ [])) e ≡ false
    → line_added Third (done ++ ((a, past) ∷ [])) (entry_text e) ≡ Ok (done ++ ((a, past ++ (e ∷ [])) ∷ []))
entry_added done a past e within once =
    let logs = done ++ ((a, past) ∷ []) in
    ap (λ (r : LogRead LogLine). r >>= with_log_line logs) (entry-back Third e within)
    ∙ may_add logs e (omega (arith, length-append done ((a, past) ∷ []))) once
    ∙ ap (λ (xs : List AgentLog). Ok xs) (in_newest done a past e)

entries_more : (all done : List AgentLog) (a : AgentId) (past es : List LogEntry) (others : List AgentLog) (rest : List ℕ) → All (IsEntryWithin Third) es → AreDistinct (all_closings (done ++ ((a, past ++ es) ∷ others)))
    → GivesAll all (done ++ ((a, past ++ es) ∷ [])) rest → GivesAll all (done ++ ((a, past) ∷ [])) (entry_lines es ++ rest)
entries_more all done a past [] others rest within distinct gives = subst (λ (xs : List LogEntry). GivesAll all (done ++ ((a, xs) ∷ [])) rest) (append-nil past) gives
entries_more all done a past (e ∷ es) others rest within distinct gives =
    let here = All-head (IsEntryWithin Third) e es within in
    let more : (past ++ (e ∷ [])) ++ es ≡ past ++ (e ∷ es) = append_assoc past (e ∷ []) es in
    subst (GivesAll all (done ++ ((a, past) ∷ []))) (sym (entry_first (entry_text e) (entry_lines es) rest))
    (line_more all (done ++ ((a, past) ∷ [])) (done ++ ((a, past ++ (e ∷ [])) ∷ [])) (entry_text e) (entry_lines es ++ rest) (entry-visible Third e here) (entry-not_end e)
    (entry_added done a past e here (closes_new done a past es others e distinct))
    (entries_more all done a (past ++ (e ∷ [])) es others rest (All-tail (IsEntryWithin Third) e es within)
    (subst (λ (xs : List LogEntry). AreDistinct (all_closings (done ++ ((a, xs) ∷ others)))) (sym more) distinct)
    (subst (λ (xs : List LogEntry). GivesAll all (done ++ ((a, xs) ∷ [])) rest) (sym more) gives)))

-- ---- logs

agent_added : (done : List AgentLog) (a : AgentId) → a.0 ≤ 15 → line_added Third done (codes "agent " ++ decimal a.0) ≡ Ok (done ++ ((a, []) ∷ []))
agent_added done a le = ap (λ (r : LogRead LogLine). r >>= with_log_line done) (agent-back Third a le)

logs_more : (all done logs : List AgentLog) (tail : List ℕ) → All (IsLogWithin Third) logs → AreDistinct (all_closings (done ++ logs)) → GivesAll all (done ++ logs) tail → GivesAll all done (logs_text logs ++ tail)
logs_more all done [] tail within distinct gives = subst (λ (xs : List AgentLog). GivesAll all xs tail) (append-nil done) gives
logs_more all done (l ∷ logs) tail within distinct gives =
    let agent = codes "agent " ++ decimal l.0.0 in
    let here = All-head (IsLogWithin Third) l logs within in
    let one_more : (done ++ (l ∷ [])) ++ logs ≡ done ++ (l ∷ logs) = append_assoc done (l ∷ []) logs in
    subst (GivesAll all done) (sym (log_words agent (entry_lines l.1) (logs_text logs) tail))
    (line_more all done (done ++ ((l.0, []) ∷ [])) agent (entry_lines l.1 ++ (logs_text logs ++ tail)) (agent-visible l.0 here.agent) (agent-not_end l.0) (agent_added done l.0 here.agent)
    (entries_more all done l.0 [] l.1 logs (logs_text logs ++ tail) here.entries distinct
    (logs_more all (done ++ (l ∷ [])) logs tail (All-tail (IsLogWithin Third) l logs within) (subst (λ (xs : List AgentLog). AreDistinct (all_closings xs)) (sym one_more) distinct)
    (subst (λ (xs : List AgentLog). GivesAll all xs tail) (sym one_more) gives))))

-- ---- files

below : (logs : List AgentLog) (tail : List ℕ) → AreWithin Third logs → GivesAll logs logs tail → logs_of (file_text logs ++ tail) ≡ Ok logs
below logs tail h gives =
    ap below_header (line_before LOG_HEADER.now (logs_text logs ++ tail) (no_end LOG_HEADER.now refl))
    ∙ logs_more logs [] logs tail h.each h.closed_once gives 2

no_more : (logs : List AgentLog) → GivesAll logs logs []
unfolding text_lines_of logs_from
no_more logs n = refl

deliveries_follow : (logs : List AgentLog) (more : List ℕ) → GivesAll logs logs (codes "deliveries\n" ++ more)
unfolding logs_from
deliveries_follow logs more n = ap (logs_from Third n logs) (line_before LOGS_END.now more (no_end LOGS_END.now refl))

same_value : {X E : Type 0} (r : Result X E) (x y : X) → r ≡ Ok x → r ≡ Ok y → x ≡ y
same_value {X} {E} r x y p q =
    let same : ◌≡◌ {A = Result X E} (Ok x) (Ok y) = sym p ∙ q in
    cc

not_both : {X E : Type 0} (r : Result X E) (e : E) (x : X) → r ≡ Err e → r ≡ Ok x → ⊥
not_both {X} {E} r e x p q =
    let wrong : ◌≡◌ {A = Result X E} (Err e) (Ok x) = sym p ∙ q in
    cc

file_back : (bytes : List ℕ) (logs : List AgentLog) (more : List ℕ) → AreWithin Third logs
    → (bytes ≡ file_text logs) ⊎ (bytes ≡ file_text logs ++ codes "deliveries\n" ++ more) → logs_of bytes ≡ Ok logs
file_back bytes logs more h is =
    ⊎_elim
    (λ (whole : bytes ≡ file_text logs). ap logs_of (whole ∙ sym (append-nil (file_text logs))) ∙ below logs [] h (no_more logs))
    (λ (front : bytes ≡ file_text logs ++ codes "deliveries\n" ++ more).
    ap logs_of (front ∙ append_assoc (file_text logs) (codes "deliveries\n") more) ∙ below logs (codes "deliveries\n" ++ more) h (deliveries_follow logs more))
    is

-- what is returned where it is what the definition reads
pub read_back : {X : Type 0} (view : X → List AgentLog) (bytes : List ℕ) (r : Result X (ℕ × LogError)) → AreLinesReadAs error.OutOfMemory view r (logs_of bytes) → (logs : List AgentLog) (more : List ℕ) → AreWithin Third logs
    → (bytes ≡ file_text logs) ⊎ (bytes ≡ file_text logs ++ codes "deliveries\n" ++ more) → MatchResult r (λ x. view x ≡ logs) (λ e. e.1 ≡ error.OutOfMemory)
read_back view bytes (Ok x) reads logs more h is = same_value (logs_of bytes) (view x) logs reads (file_back bytes logs more h is)
read_back view bytes (Err e) (inl memory) logs more h is = memory
read_back view bytes (Err e) (inr bad) logs more h is = absurd (not_both (logs_of bytes) e logs bad (file_back bytes logs more h is))
