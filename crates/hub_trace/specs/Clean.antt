-- When logs are clean.
use Rattle.std.specs.Prelude.{◌≡◌, ℕ, false, List, ◌++◌, map}
use Rattle.std.specs.List.{All, AllPairs}
use Rattle.hub_trace.specs.declared.log_entry.Delivery.{Delivery}
use Rattle.hub_trace.specs.Accepted.{AgentLog, accepted}
use Rattle.hub_trace.specs.Content.{is_notice}
use Rattle.hub_trace.specs.Got.{Receipt, got}

-- the accepted list is what was got, in name and content, followed by some list
abbrev pub IsPrefix : List Receipt → List Delivery → Type 0
IsPrefix receipts put = (rest : List Delivery) × (put ≡ map (λ r. r.delivery) receipts ++ rest)

-- nothing was got after the end was closed
abbrev pub IsInTime : List Receipt → Type 0
IsInTime receipts = All (λ r. r.late ≡ false) receipts

-- nothing was got after a notice: of two receipts the earlier is none
abbrev pub IsNoticeLast : List Receipt → Type 0
IsNoticeLast receipts = AllPairs (λ earlier later. is_notice earlier.delivery.content ≡ false) receipts

abbrev pub IsCleanLine : List Delivery → List Receipt → Type 0
IsCleanLine put receipts = IsPrefix receipts put × IsInTime receipts × IsNoticeLast receipts

-- every line of every end is clean
abbrev pub IsClean : List AgentLog → Type 0
IsClean logs = (end line : ℕ) → IsCleanLine (accepted logs end line) (got logs end line)
