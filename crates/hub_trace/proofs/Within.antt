-- What is read is within the limits.
use Rattle.std.proofs.Common.{◌≡◌, ℕ, zero, suc, ◌<◌, ◌≤◌, List, [], ◌∷◌, ◌++◌, length, get_or, Bool, true, false, cond, Result, Ok, Err, OnOk, refl, sym, ap, subst, ◌∙◌, arith}
use Rattle.std.specs.Prelude.{◌==◌}
use Rattle.std.specs.List.{All}
use Rattle.std.proofs.lemmas.List.Elements.{All-push, All-nil, All-head, All-tail, All-cons}
use Rattle.hub_envelope.specs.declared.ids.AgentId.{AgentId}
use Rattle.hub_envelope.specs.declared.ids.EndId.{EndId}
use Rattle.hub_text.specs.Reading.{IsReadAs}
use Rattle.hub_trace.specs.declared.log_entry.LogEntry.{LogEntry}
use Rattle.hub_trace.specs.declared.log_entry.LogEntry.TheVariants.{Put, Got, Adopted, Closed}
use Rattle.hub_trace.specs.declared.error.LogError.TheVariants.{BadLine}
use Rattle.hub_trace.specs.declared.log_line.LogLine.{LogLine}
use Rattle.hub_trace.specs.declared.log_line.LogLine.TheVariants as line
use Rattle.hub_trace.specs.declared.log_version.LogVersion.{LogVersion}
use Rattle.hub_trace.specs.Accepted.{AgentLog}
use Rattle.hub_trace.specs.Closings.{all_closings, closes_again, closes_one, closings, is_closed_by}
use Rattle.hub_trace.specs.Limits.{AreDistinct, AreWithin, IsEntryWithin, IsLogLineWithin, IsLogWithin}
use Rattle.hub_trace.specs.PortList.{lists_end}
use Rattle.hub_trace.specs.Read.{with_entry, with_log_line}
use Rattle.hub_trace.proofs.Adding.{all_closings_more, any_append, closings_more}
use Rattle.hub_trace.proofs.PortLists.{distinct_more, first_no, no_pairs, second_no}

-- ---- what one log closes

closes_here : (log : AgentLog) (logs : List AgentLog) (e : LogEntry) → closes_again (log ∷ logs) e ≡ false → closes_one (is_closed_by log.1) e ≡ false
closes_here log logs (Put d) h = refl
closes_here log logs (Got d) h = refl
closes_here log logs (Adopted x k) h = refl
closes_here log logs (Closed x) h =
    first_no (lists_end (closings log.1) x.0) (lists_end (all_closings logs) x.0) (sym (any_append (λ y. y.0 == x.0) (closings log.1) (all_closings logs)) ∙ h)

closes_later : (log : AgentLog) (logs : List AgentLog) (e : LogEntry) → closes_again (log ∷ logs) e ≡ false → closes_again logs e ≡ false
closes_later log logs (Put d) h = refl
closes_later log logs (Got d) h = refl
closes_later log logs (Adopted x k) h = refl
closes_later log logs (Closed x) h =
    second_no (lists_end (closings log.1) x.0) (lists_end (all_closings logs) x.0) (sym (any_append (λ y. y.0 == x.0) (closings log.1) (all_closings logs)) ∙ h)

-- an end that no log closes isn't closed by one of them
pub not_closed_by : (logs : List AgentLog) (n : ℕ) (log : AgentLog) (e : LogEntry) → n < length logs → log ≡ get_or logs n log → closes_again logs e ≡ false → closes_one (is_closed_by log.1) e ≡ false
not_closed_by [] n log e lt is h = absurd (omega arith)
not_closed_by (l ∷ logs) zero log e lt is h = ap (λ (x : AgentLog). closes_one (is_closed_by x.1) e) is ∙ closes_here l logs e h
not_closed_by (l ∷ logs) (suc n) log e lt is h = not_closed_by logs n log e (omega arith) is (closes_later l logs e h)

append_nil : (xs : List EndId) → xs ++ [] ≡ xs
append_nil [] = refl
append_nil (x ∷ xs) = ap (λ ys. x ∷ ys) (append_nil xs)

closed_once_more : (ends : List EndId) (e : LogEntry) → AreDistinct ends → closes_one (lists_end ends) e ≡ false → AreDistinct (ends ++ closings (e ∷ []))
closed_once_more ends (Put d) h fresh = subst AreDistinct (sym (append_nil ends)) h
closed_once_more ends (Got d) h fresh = subst AreDistinct (sym (append_nil ends)) h
closed_once_more ends (Adopted x k) h fresh = subst AreDistinct (sym (append_nil ends)) h
closed_once_more ends (Closed x) h fresh = distinct_more ends x h fresh

-- a log within the limits stays so with an entry within the limits that closes no end again
pub log_within_more : (v : LogVersion) (log : AgentLog) (e : LogEntry) → IsLogWithin v log → IsEntryWithin v e → closes_one (is_closed_by log.1) e ≡ false → IsLogWithin v (log.0, log.1 ++ e ∷ [])
log_within_more v log e h within fresh = record {
  agent = h.agent;
  entries = All-push (IsEntryWithin v) log.1 e h.entries within;
  closed_once = subst AreDistinct (sym (closings_more log.1 e)) (closed_once_more (closings log.1) e h.closed_once fresh);
}

pub new_log : (v : LogVersion) (a : AgentId) → a.0 ≤ 15 → IsLogWithin v (a, [])
new_log v a le = record { agent = le; entries = All-nil (IsEntryWithin v); closed_once = no_pairs }

-- ---- what all logs close

within_last : (v : LogVersion) (logs : List AgentLog) (e : LogEntry) → All (IsLogWithin v) logs → IsEntryWithin v e → closes_again logs e ≡ false → All (IsLogWithin v) (with_entry logs e)
within_last v [] e h within fresh = h
within_last v (l ∷ []) e h within fresh =
    All-cons (IsLogWithin v) (l.0, l.1 ++ e ∷ []) [] (log_within_more v l e (All-head (IsLogWithin v) l [] h) within (closes_here l [] e fresh)) (All-nil (IsLogWithin v))
within_last v (l ∷ next ∷ logs) e h within fresh =
    All-cons (IsLogWithin v) l (with_entry (next ∷ logs) e) (All-head (IsLogWithin v) l (next ∷ logs) h)
    (within_last v (next ∷ logs) e (All-tail (IsLogWithin v) l (next ∷ logs) h) within (closes_later l (next ∷ logs) e fresh))

closings_of_new : (logs : List AgentLog) (l : AgentLog) → closings l.1 ≡ [] → all_closings (logs ++ l ∷ []) ≡ all_closings logs
closings_of_new [] l h = append_nil (closings l.1) ∙ h
closings_of_new (x ∷ logs) l h = ap (λ ys. closings x.1 ++ ys) (closings_of_new logs l h)

added : (v : LogVersion) (l : AgentLog) (logs new : List AgentLog) (e : LogEntry) (b : Bool) → closes_again (l ∷ logs) e ≡ b → cond b (Err BadLine) (Ok (with_entry (l ∷ logs) e)) ≡ Ok new → AreWithin v (l ∷ logs) → IsEntryWithin v e → AreWithin v new
added v l logs new e true again made h within = cc
added v l logs new e false again made h within =
    let is : with_entry (l ∷ logs) e ≡ new = cc in
    subst (AreWithin v) is (record {
      each = within_last v (l ∷ logs) e h.each within again;
      closed_once = subst AreDistinct (sym (all_closings_more (l ∷ logs) e (omega arith))) (closed_once_more (all_closings (l ∷ logs)) e h.closed_once again);
    })

-- logs within the limits stay so with a log line within the limits
pub line_within : (v : LogVersion) (logs new : List AgentLog) (l : LogLine) → with_log_line logs l ≡ Ok new → IsLogLineWithin v l → AreWithin v logs → AreWithin v new
line_within v logs new (line.Agent a) made within h =
    let is : logs ++ (a, []) ∷ [] ≡ new = cc in
    subst (AreWithin v) is (record {
      each = All-push (IsLogWithin v) logs (a, []) h.each (new_log v a within);
      closed_once = subst AreDistinct (sym (closings_of_new logs (a, []) refl)) h.closed_once;
    })
line_within v [] new (line.Entry e) made within h = cc
line_within v (x ∷ logs) new (line.Entry e) made within h = added v x logs new e (closes_again (x ∷ logs) e) refl made h within

-- a fact of an answer that reads as a definition
pub on_read : {A X E : Type 0} (memory : E) (view : A → X) (r : Result A E) (read : Result X E) (Q : Type 0) → ((x : A) → read ≡ Ok (view x) → Q) → IsReadAs memory view r read → OnOk r Q
on_read memory view (Ok x) read Q f h = f x h
on_read memory view (Err e) read Q f h = tt
