-- Verdicts of lists that are equal, and the one that is clean.
use Rattle.std.proofs.Common.{◌≡◌, ℕ, List, refl, subst}
use Rattle.hub_trace.specs.declared.log_entry.Delivery.{Delivery}
use Rattle.hub_trace.specs.declared.verdict.Verdict.{Verdict}
use Rattle.hub_trace.specs.declared.verdict.Verdict.TheVariants.{Clean, Fault}
use Rattle.hub_trace.specs.Accepted.{AgentLog, accepted}
use Rattle.hub_trace.specs.Got.{Receipt, got}
use Rattle.hub_trace.specs.Clean.{IsClean}
use Rattle.hub_trace.specs.Verdict.{IsVerdict}
use Rattle.hub_trace.proofs.Faults.{fault_is_not_clean}

pub verdict_along : (put put' : ℕ → ℕ → List Delivery) (receipts receipts' : ℕ → ℕ → List Receipt) → ((e l : ℕ) → put e l ≡ put' e l) → ((e l : ℕ) → receipts e l ≡ receipts' e l)
    → (verdict : Verdict) → IsVerdict put receipts verdict → IsVerdict put' receipts' verdict
verdict_along put put' receipts receipts' a g verdict h =
    subst (λ (p : (ℕ → ℕ → List Delivery) × (ℕ → ℕ → List Receipt)). IsVerdict p.0 p.1 verdict) (λ i. ((λ e l. a e l i), (λ e l. g e l i))) h

pub clean_exactly : (logs : List AgentLog) (verdict : Verdict) → IsVerdict (accepted logs) (got logs) verdict → (verdict ≡ Clean → IsClean logs) × (IsClean logs → verdict ≡ Clean)
clean_exactly logs Clean h = ((λ _. h), (λ _. refl))
clean_exactly logs (Fault e l place kind) h = ((λ same. cc), (λ clean. absurd (fault_is_not_clean h.0 (clean e.0 l.0))))
