-- What an agent writes, one entry after the other.
use Rattle.std.proofs.Common.{◌≡◌, ◌∙◌, ℕ, List, [], ◌∷◌, ◌++◌, Result, Ok, Err, OnOk, ap, sym}
use Rattle.std.proofs.lemmas.List.{append-nil, append_assoc}
use Rattle.hub_envelope.specs.declared.ids.EndId.{EndId}
use Rattle.hub_logging.specs.Notes.{Notes}
use Rattle.hub_trace.specs.Accepted.{AgentLog, log_with}
use Rattle.hub_trace.specs.declared.log_entry.LogEntry.{LogEntry}
use Rattle.hub_trace.specs.declared.log_entry.LogEntry.TheVariants.{Adopted}
use Rattle.hub_agent.specs.Entries.{WritesEntries, WritesNothing, log_and}

pub log_and_both : (log : AgentLog) (xs ys : List LogEntry) → log_and (log_and log xs) ys ≡ log_and log (xs ++ ys)
log_and_both log xs ys = ap (λ (entries : List LogEntry). (log.0, entries)) (append_assoc log.1 xs ys)

pub log_and_none : (log : AgentLog) → log ≡ log_and log []
log_and_none log = ap (λ (entries : List LogEntry). (log.0, entries)) (sym (append-nil log.1))

-- some entries, and then others
pub writes_both : (first rest : List LogEntry) (before now after : Notes) → WritesEntries first before now → WritesEntries rest now after → WritesEntries (first ++ rest) before after
writes_both first rest before now after is behind = behind ∙ ap (λ (log : AgentLog). log_and log rest) is ∙ log_and_both before.log first rest

pub writes_none : (before after : Notes) → WritesNothing before after → WritesEntries [] before after
writes_none before after same = same ∙ log_and_none before.log

pub writes_same : (before after : Notes) → after ≡ before → WritesEntries [] before after
writes_same before after same = writes_none before after (ap (λ (n : Notes). n.log) same)

-- where it is no error, what was written is one entry more
pub wrote : {X E : Type 0} (result : Result X E) (old new now : Notes) (e : LogEntry) → OnOk result (new ≡ record old { log = log_with old.log e }) → old ≡ now → OnOk result (WritesEntries (e ∷ []) now new)
wrote (Ok x) old new now e written same = ap (λ (n : Notes). n.log) written ∙ ap (λ (n : Notes). log_with n.log e) same
wrote (Err x) old new now e written same = tt

-- the same of an adoption, whatever its epoch
pub wrote_some : {X E : Type 0} (result : Result X E) (end : EndId) (epoch : ℕ) (before after : Notes) → OnOk result (after ≡ record before { log = log_with before.log (Adopted end epoch) })
    → OnOk result ((epoch : ℕ) × WritesEntries (Adopted end epoch ∷ []) before after)
wrote_some (Ok x) end epoch before after written = (epoch, ap (λ (n : Notes). n.log) written)
wrote_some (Err x) end epoch before after written = tt

-- the same of what the notes were before
pub wrote_since : {X E : Type 0} (result : Result X E) (old now new : Notes) (entries : List LogEntry) → old ≡ now → OnOk result (WritesEntries entries old new) → OnOk result (WritesEntries entries now new)
wrote_since (Ok x) old now new entries same written = written ∙ ap (λ (n : Notes). log_and n.log entries) same
wrote_since (Err x) old now new entries same written = tt
