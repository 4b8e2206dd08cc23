-- The outcome lines.
use Rattle.std.specs.Prelude.{ℕ, List, [], ◌∷◌, ◌++◌, codes, if◌then◌else◌}
use Rattle.std.specs.List.{flat_map}
use Rattle.std.specs.Fmt.{decimal}
use Rattle.hub_envelope.specs.declared.ids.EndId.{EndId}
use Rattle.hub_envelope.specs.declared.envelope.Envelope.{Envelope}
use Rattle.hub_text.specs.EndList.{ends_text}
use Rattle.hub_core.specs.declared.step.Outcome.{Outcome}
use Rattle.hub_core.specs.declared.step.Outcome.TheVariants as outcome

-- the ports of a delivery, where there are some
abbrev pub ports_text : List EndId → List ℕ
ports_text [] = []
ports_text (p ∷ ports) = codes "with " ++ ends_text (p ∷ ports) ++ codes " "

-- the name of an envelope on its line
abbrev pub name_text : Envelope → List ℕ
name_text v = decimal v.epoch ++ codes ":" ++ decimal v.number

-- a delivery, or a notice, which has no body and no ports to show
abbrev pub got_line : Envelope → List ℕ
got_line v =
    if v.notice then codes "notice " ++ name_text v ++ codes " from " ++ decimal v.line.0 ++ codes "\n"
    else codes "got " ++ name_text v ++ codes " from " ++ decimal v.line.0 ++ codes " " ++ ports_text v.ports ++ v.body ++ codes "\n"

-- a space, the name and the line
abbrev pub listed_name : Envelope → List ℕ
listed_name v = codes " " ++ name_text v ++ codes "/" ++ decimal v.line.0

abbrev pub names_text : List Envelope → List ℕ
names_text vs = flat_map listed_name vs

-- what was discarded, in order, or that nothing was
abbrev pub discarded_line : List Envelope → List ℕ
discarded_line [] = codes "discarded nothing\n"
discarded_line (v ∷ vs) = codes "discarded" ++ names_text (v ∷ vs) ++ codes "\n"

-- a space and the number of each end
abbrev pub numbers_text : List EndId → List ℕ
numbers_text es = flat_map (λ e. codes " " ++ decimal e.0) es

-- the ends of an agent that ends, or that it has none
abbrev pub ending_line : List EndId → List ℕ
ending_line [] = codes "ending nothing\n"
ending_line (e ∷ es) = codes "ending" ++ numbers_text (e ∷ es) ++ codes "\n"

-- the line of an outcome, with its LF; a cast is shown by what its destinations answer, and never by these alone
unfoldable pub outcome_line : Outcome → List ℕ
outcome_line outcome.NotNow = codes "not-now\n"
outcome_line outcome.NoMemory = codes "no-memory\n"
outcome_line (outcome.Agent a) = codes "agent " ++ decimal a.0 ++ codes "\n"
outcome_line outcome.TooManyAgents = codes "too-many-agents\n"
outcome_line (outcome.Ends e f) = codes "ends " ++ decimal e.0 ++ codes " " ++ decimal f.0 ++ codes "\n"
outcome_line (outcome.End e) = codes "end " ++ decimal e.0 ++ codes "\n"
outcome_line outcome.TooManyEnds = codes "too-many-ends\n"
outcome_line (outcome.Line l) = codes "line " ++ decimal l.0 ++ codes "\n"
outcome_line outcome.NoOrigin = codes "no-origin\n"
outcome_line outcome.InvalidState = codes "invalid-state\n"
outcome_line outcome.NotTransferable = codes "not-transferable\n"
outcome_line outcome.NoSuchEnd = codes "no-such-end\n"
outcome_line outcome.NoLine = codes "no-line\n"
outcome_line outcome.In = codes "in\n"
outcome_line outcome.Closed = codes "closed\n"
outcome_line outcome.Moved = codes "moved\n"
outcome_line (outcome.Accepted name) = codes "accepted " ++ decimal name.epoch ++ codes ":" ++ decimal name.number ++ codes "\n"
outcome_line outcome.TooManyPorts = codes "too-many-ports\n"
outcome_line outcome.Left = codes "left\n"
outcome_line (outcome.Hopped k) = codes "hopped " ++ decimal k ++ codes "\n"
outcome_line outcome.Started = codes "started\n"
outcome_line (outcome.Got v) = got_line v
outcome_line outcome.Empty = codes "empty\n"
outcome_line outcome.Busy = codes "busy\n"
outcome_line outcome.Again = codes "again\n"
outcome_line outcome.Disabled = codes "disabled\n"
outcome_line (outcome.Clear queue) = codes "clear\n"
outcome_line (outcome.Adopted k) = codes "adopted " ++ decimal k ++ codes "\n"
outcome_line outcome.TooManyMoves = codes "too-many-moves\n"
outcome_line outcome.Done = codes "done\n"
outcome_line outcome.Handed = codes "handed\n"
outcome_line outcome.Ordered = codes "ordered\n"
outcome_line outcome.GoingOn = codes "going-on\n"
outcome_line (outcome.Ending es) = ending_line es
outcome_line (outcome.Destinations es) = codes "cast\n"
outcome_line (outcome.Discarded vs) = discarded_line vs
