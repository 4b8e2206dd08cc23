-- Adding an entry to the newest log.
use Rattle.std.proofs.Common.{◌≡◌, ℕ, zero, suc, ◌+◌, ◌<◌, List, [], ◌∷◌, ◌++◌, length, get_or, set, Bool, true, false, cond, ◌||◌, Ok, Err, refl, sym, ap, ◌∙◌, arith, append_assoc}
use Rattle.std.specs.Prelude.{◌==◌}
use Rattle.std.specs.List.{list_any}
use Rattle.hub_envelope.specs.declared.ids.EndId.{EndId}
use Rattle.hub_trace.specs.declared.log_entry.LogEntry.{LogEntry}
use Rattle.hub_trace.specs.declared.log_entry.LogEntry.TheVariants.{Put, Got, Adopted, Closed}
use Rattle.hub_trace.specs.declared.log_line.LogLine.TheVariants as line
use Rattle.hub_trace.specs.declared.error.LogError.TheVariants.{BadLine}
use Rattle.hub_trace.specs.Accepted.{AgentLog}
use Rattle.hub_trace.specs.Closings.{all_closings, closes_again, closes_one, closings, is_closed_in}
use Rattle.hub_trace.specs.Read.{TellsClosed, with_entry, with_log_line}

-- the newest log is written with the entry
with_last : (logs : List AgentLog) (log new : AgentLog) (e : LogEntry) (n : ℕ) → length logs ≡ n + 1 → log ≡ get_or logs n log → new ≡ (log.0, log.1 ++ e ∷ []) → with_entry logs e ≡ set logs n new
with_last [] log new e n len is made = absurd (omega arith)
with_last (l ∷ []) log new e zero len is made = ap (λ (x : AgentLog). (x.0, x.1 ++ e ∷ []) ∷ []) (sym is) ∙ ap (λ (x : AgentLog). x ∷ []) (sym made)
with_last (l ∷ []) log new e (suc n) len is made = absurd (omega arith)
with_last (l ∷ next ∷ logs) log new e zero len is made = absurd (omega arith)
with_last (l ∷ next ∷ logs) log new e (suc n) len is made = ap (λ xs. l ∷ xs) (with_last (next ∷ logs) log new e n (omega arith) is made)

same_test : (f g : ℕ → Bool) → ((end : ℕ) → f end ≡ g end) → (e : LogEntry) → closes_one f e ≡ closes_one g e
same_test f g h (Put d) = refl
same_test f g h (Got d) = refl
same_test f g h (Adopted e k) = refl
same_test f g h (Closed e) = h e.0

pub may_add : (logs : List AgentLog) (e : LogEntry) → 0 < length logs → closes_again logs e ≡ false → with_log_line logs (line.Entry e) ≡ Ok (with_entry logs e)
may_add [] e some once = absurd (omega arith)
may_add (l ∷ logs) e some once = ap (λ b. cond b (Err BadLine) (Ok (with_entry (l ∷ logs) e))) once

pub entry_added : (logs : List AgentLog) (n : ℕ) (log new : AgentLog) (e : LogEntry) (f : ℕ → Bool) → TellsClosed f logs → length logs ≡ n + 1 → log ≡ get_or logs n log
    → closes_one f e ≡ false → new ≡ (log.0, log.1 ++ e ∷ []) → with_log_line logs (line.Entry e) ≡ Ok (set logs n new)
entry_added logs n log new e f closed some is once made =
    may_add logs e (omega arith) (sym (same_test f (is_closed_in logs) closed e) ∙ once)
    ∙ ap (λ (xs : List AgentLog). Ok xs) (with_last logs log new e n some is made)

pub any_append : (p : EndId → Bool) (xs ys : List EndId) → list_any p (xs ++ ys) ≡ (list_any p xs || list_any p ys)
any_append p [] ys = refl
any_append p (x ∷ xs) ys = ap (λ b. p x || b) (any_append p xs ys) ∙ or_assoc (p x) (list_any p xs) (list_any p ys)
  where
    or_assoc : (a b c : Bool) → (a || (b || c)) ≡ ((a || b) || c)
    or_assoc true b c = refl
    or_assoc false b c = refl

pub closings_more : (entries : List LogEntry) (e : LogEntry) → closings (entries ++ e ∷ []) ≡ closings entries ++ closings (e ∷ [])
closings_more [] e = refl
closings_more (Put d ∷ entries) e = closings_more entries e
closings_more (Got d ∷ entries) e = closings_more entries e
closings_more (Adopted x k ∷ entries) e = closings_more entries e
closings_more (Closed x ∷ entries) e = ap (λ xs. x ∷ xs) (closings_more entries e)

append_nil : (xs : List EndId) → xs ++ [] ≡ xs
append_nil [] = refl
append_nil (x ∷ xs) = ap (λ ys. x ∷ ys) (append_nil xs)

pub all_closings_more : (logs : List AgentLog) (e : LogEntry) → 0 < length logs → all_closings (with_entry logs e) ≡ all_closings logs ++ closings (e ∷ [])
all_closings_more [] e some = absurd (omega arith)
all_closings_more (l ∷ []) e some = append_nil (closings (l.1 ++ e ∷ [])) ∙ closings_more l.1 e ∙ ap (λ xs. xs ++ closings (e ∷ [])) (sym (append_nil (closings l.1)))
all_closings_more (l ∷ next ∷ logs) e some = ap (λ xs. closings l.1 ++ xs) (all_closings_more (next ∷ logs) e (omega arith)) ∙ sym (append_assoc (closings l.1) (all_closings (next ∷ logs)) (closings (e ∷ [])))

pub closed_by : (e : LogEntry) (end : ℕ) → list_any (λ x. x.0 == end) (closings (e ∷ [])) ≡ closes_one (λ x. x == end) e
closed_by (Put d) end = refl
closed_by (Got d) end = refl
closed_by (Adopted x k) end = refl
closed_by (Closed x) end = or_false (x.0 == end)
  where
    or_false : (a : Bool) → (a || false) ≡ a
    or_false true = refl
    or_false false = refl

closed_more : (logs : List AgentLog) (e : LogEntry) (end : ℕ) → 0 < length logs → is_closed_in (with_entry logs e) end ≡ (is_closed_in logs end || closes_one (λ x. x == end) e)
closed_more logs e end some =
    ap (list_any (λ x. x.0 == end)) (all_closings_more logs e some) ∙ any_append (λ x. x.0 == end) (all_closings logs) (closings (e ∷ []))
    ∙ ap (λ b. is_closed_in logs end || b) (closed_by e end)

-- the set of closed ends after an entry more
pub still_closed : (logs : List AgentLog) (n : ℕ) (log new : AgentLog) (e : LogEntry) (f g : ℕ → Bool) → TellsClosed f logs → length logs ≡ n + 1 → log ≡ get_or logs n log
    → new ≡ (log.0, log.1 ++ e ∷ []) → ((end : ℕ) → g end ≡ (f end || closes_one (λ x. x == end) e)) → TellsClosed g (set logs n new)
still_closed logs n log new e f g closed some is made noted end =
    noted end ∙ ap (λ b. b || closes_one (λ x. x == end) e) (closed end) ∙ sym (closed_more logs e end (omega arith))
    ∙ ap (λ (xs : List AgentLog). is_closed_in xs end) (with_last logs log new e n some is made)

-- an entry that closes an end again isn't added
pub again : (logs : List AgentLog) (e : LogEntry) (f : ℕ → Bool) → TellsClosed f logs → closes_one f e ≡ true → with_log_line logs (line.Entry e) ≡ Err BadLine
again [] e f closed h = refl
again (l ∷ logs) e f closed h = ap (λ b. cond b (Err BadLine) (Ok (with_entry (l ∷ logs) e))) (sym (same_test f (is_closed_in (l ∷ logs)) closed e) ∙ h)

-- what the test doesn't tell isn't closed by the logs
pub not_in_logs : (logs : List AgentLog) (e : LogEntry) (f : ℕ → Bool) → TellsClosed f logs → closes_one f e ≡ false → closes_again logs e ≡ false
not_in_logs logs e f closed h = sym (same_test f (is_closed_in logs) closed e) ∙ h
