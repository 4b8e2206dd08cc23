-- What a verdict claims.
use Rattle.std.specs.Prelude.{◌≡◌, ℕ, ◌<◌, ◌⊎◌, List}
use Rattle.hub_trace.specs.declared.log_entry.Delivery.{Delivery}
use Rattle.hub_trace.specs.declared.verdict.Verdict.{Verdict}
use Rattle.hub_trace.specs.declared.verdict.Verdict.TheVariants.{Clean, Fault}
use Rattle.hub_trace.specs.Got.{Receipt}
use Rattle.hub_trace.specs.Clean.{IsCleanLine}
use Rattle.hub_trace.specs.Fault.{IsFirstFault}

-- the first line comes before the second: by end, then by line
abbrev pub IsLineBefore : ℕ → ℕ → ℕ → ℕ → Type 0
IsLineBefore end line other_end other_line = (end < other_end) ⊎ ((end ≡ other_end) × (line < other_line))

-- Of what was accepted and what was got at each end and line: all lines are clean, or this is the first
-- fault of a line before which all are clean.
abbrev pub IsVerdict : (ℕ → ℕ → List Delivery) → (ℕ → ℕ → List Receipt) → Verdict → Type 0
IsVerdict put receipts Clean = (end line : ℕ) → IsCleanLine (put end line) (receipts end line)
IsVerdict put receipts (Fault end line place kind) =
    IsFirstFault (put end.0 line.0) (receipts end.0 line.0) place kind
    × ((e l : ℕ) → IsLineBefore e l end.0 line.0 → IsCleanLine (put e l) (receipts e l))
