-- What was got of all lines, as `deliveries_by_sender_line` tells it, and how it is written.
use Rattle.std.specs.Prelude.{◌≡◌, ◌≢◌, ℕ, List, [], ◌++◌, ◌==◌, ◌&&◌, codes, map}
use Rattle.std.specs.Fmt.{decimal}
use Rattle.std.specs.List.{All, AllPairs, filter, flat_map}
use Rattle.hub_envelope.specs.declared.ids.EndId.{EndId}
use Rattle.hub_envelope.specs.declared.ids.LineId.{LineId}
use Rattle.hub_trace.specs.declared.delivered.SenderLineDeliveries.{SenderLineDeliveries}
use Rattle.hub_envelope.specs.declared.posted.Posted.{Posted}
use Rattle.hub_trace.specs.Accepted.{AgentLog}
use Rattle.hub_trace.specs.Got.{Receipt, got}
use Rattle.hub_trace.specs.Verdict.{IsLineBefore}

-- ` EP:N`
abbrev pub name_printed : Posted → List ℕ
name_printed l = codes " " ++ decimal l.epoch ++ codes ":" ++ decimal l.number

-- `end E line L EP:N EP:N ..`
abbrev pub delivered_line_text : SenderLineDeliveries → List ℕ
delivered_line_text d =
    codes "end " ++ decimal d.end.0 ++ codes " line " ++ decimal d.line.0
    ++ flat_map name_printed d.names.items

-- the names of what was got
abbrev pub names_of : List Receipt → List Posted
names_of receipts = map (λ r. r.delivery.posted) receipts

-- the names that stand under an end and a line number
abbrev pub names_under : ℕ → ℕ → List SenderLineDeliveries → List Posted
names_under end line lines =
    flat_map (λ d. d.names.items) (filter (λ d. (d.end.0 == end) && (d.line.0 == line)) lines)

-- the first comes before the second: by end, then by line number
abbrev pub IsEarlierLine : SenderLineDeliveries → SenderLineDeliveries → Type 0
IsEarlierLine a b = IsLineBefore a.end.0 a.line.0 b.end.0 b.line.0

-- each line that delivered something, with the names of all that it delivered
pub record AreDeliveries (logs : List AgentLog) (lines : List SenderLineDeliveries) : Type 0 where
  pub rising : AllPairs IsEarlierLine lines
  pub none_empty : All (λ d. d.names.items ≢ []) lines
  pub names : (end line : ℕ) → names_under end line lines ≡ names_of (got logs end line)

-- the end, the line number and the names
abbrev pub parts_of : SenderLineDeliveries → EndId × LineId × List Posted
parts_of d = (d.end, d.line, d.names.items)

-- all deliveries of the same logs have the same parts in the same order
abbrev pub DeliveriesAreOne : Type 0
DeliveriesAreOne =
    (logs : List AgentLog) (lines others : List SenderLineDeliveries)
    → AreDeliveries logs lines → AreDeliveries logs others → map parts_of lines ≡ map parts_of others
