-- What the log of an agent says of an action, of a turn, and of the end of its loop.
use Rattle.std.specs.Prelude.{◌≡◌, ◌≢◌, ◌⊎◌, ℕ, All, Bool, true, false, List, [], ◌∷◌, ◌++◌, map, Option, Some, None, Result, Ok, Err}
use Rattle.std.specs.List.{flat_map}
use Rattle.hub_broadcast.specs.declared.casting.CastOutcome.{CastOutcome}
use Rattle.hub_broadcast.specs.declared.casting.CastOutcome.TheVariants.{Accepted}
use Rattle.hub_broadcast.specs.Rising.{Rise}
use Rattle.hub_envelope.specs.declared.envelope.Envelope.{Envelope}
use Rattle.hub_envelope.specs.declared.ids.EndId.{EndId}
use Rattle.hub_envelope.specs.declared.posted.Posted.{Posted}
use Rattle.hub_logging.specs.Notes.{Notes, notes_of}
use Rattle.hub_ports.specs.declared.closing.ClosedPort.{ClosedPort}
use Rattle.hub_loop.specs.declared.handler.Turn.{Turn}
use Rattle.hub_loop.specs.declared.handler.Turn.TheVariants.{Delivered, Idle, Ending}
use Rattle.hub_ports.specs.declared.closing.Noticed.{Noticed}
use Rattle.hub_ports.specs.declared.error.PortError.{PortError}
use Rattle.hub_ports.specs.declared.error.PortError.TheVariants.{Doomed}
use Rattle.hub_ports.specs.declared.closing.Noticed.TheVariants as notice
use Rattle.hub_script.specs.declared.action.ActionKind.{ActionKind}
use Rattle.hub_script.specs.declared.action.ActionKind.TheVariants.{Post, Send, Cast, Start, Loaded, Close, Wait, Receive, Order, Event, Hand, Fetch}
use Rattle.hub_trace.specs.Accepted.{AgentLog, message_at, notice_at}
use Rattle.hub_trace.specs.declared.content.Content.{Content}
use Rattle.hub_trace.specs.declared.content.Content.TheVariants as content
use Rattle.hub_trace.specs.declared.log_entry.Delivery.{Delivery}
use Rattle.hub_trace.specs.declared.log_entry.LogEntry.{LogEntry}
use Rattle.hub_trace.specs.declared.log_entry.LogEntry.TheVariants.{Put, Got, Adopted, Closed}
use Rattle.hub_agent.specs.declared.acting.Awaited.{Awaited}
use Rattle.hub_agent.specs.declared.acting.Awaited.TheVariants.{Messages, Port, Queue}

-- the log with these entries behind the others
abbrev pub log_and : AgentLog → List LogEntry → AgentLog
log_and log entries = (log.0, log.1 ++ entries)

-- the agent has written these entries, in this order, and no others
abbrev pub WritesEntries : List LogEntry → Notes → Notes → Type 0
WritesEntries entries before after = after.log ≡ log_and before.log entries

-- the agent has written nothing
abbrev pub WritesNothing : Notes → Notes → Type 0
WritesNothing before after = after.log ≡ before.log

-- the notice of a port that was closed is logged where it was put
abbrev pub notice_entries : Noticed → List LogEntry
notice_entries (notice.Put posted) = Put (notice_at posted) ∷ []
notice_entries notice.PeerClosed = []
notice_entries notice.Moving = []
notice_entries notice.OutOfMemory = []

-- the closing of an end, behind what became of its notice
abbrev pub closing_entries : EndId → Noticed → List LogEntry
closing_entries end noticed = notice_entries noticed ++ Closed end ∷ []

-- the closings of the ports that a doomed post has closed
abbrev pub doomed_entries : List ClosedPort → List LogEntry
doomed_entries closings = flat_map (λ c. closing_entries c.end c.noticed) closings

-- an end was closed; its notice, where one was put, comes first
abbrev pub IsClosing : EndId → List LogEntry → Type 0
IsClosing end entries = (entries ≡ Closed end ∷ []) ⊎ ((posted : Posted) × (entries ≡ Put (notice_at posted) ∷ Closed end ∷ []))

-- these ends were closed, in this order
abbrev pub AreClosings : List EndId → List LogEntry → Type 0
AreClosings [] entries = entries ≡ []
AreClosings (end ∷ ends) entries =
    (first : List LogEntry) × (rest : List LogEntry) × (entries ≡ first ++ rest) × IsClosing end first × AreClosings ends rest

-- A post of these ports and this body. Accepted: one entry, with both. Doomed: the ports were closed. Else nothing.
abbrev pub IsPostLogged : List EndId → List ℕ → List LogEntry → Type 0
IsPostLogged ports body entries =
    (entries ≡ []) ⊎ ((posted : Posted) × (entries ≡ Put (message_at posted ports body) ∷ [])) ⊎ AreClosings ports entries

-- what is logged of the answer to a post: an accepted one, or what a doomed one has closed
abbrev pub answer_entries : List EndId → List ℕ → Result Posted PortError → List LogEntry
answer_entries ports body (Ok posted) = Put (message_at posted ports body) ∷ []
answer_entries ports body (Err (Doomed closings)) = doomed_entries closings
answer_entries ports body (Err error) = []

-- what is logged of each post of a cast, where it was accepted
abbrev pub outcome_entries : List ℕ → CastOutcome → List LogEntry
outcome_entries body (Accepted posted) = Put (message_at posted [] body) ∷ []
outcome_entries body outcome = []

abbrev pub cast_entries : List ℕ → List (EndId × CastOutcome) → List LogEntry
cast_entries body outcomes = flat_map (λ o. outcome_entries body o.1) outcomes

-- what is logged of an end that was closed: of a port its notice too
abbrev pub closed_entries : EndId → Option ClosedPort → List LogEntry
closed_entries end None = Closed end ∷ []
closed_entries end (Some port) = closing_entries end port.noticed

-- A cast of a member: one entry with its body and no ports for each of its posts that was accepted. The ends where they were put rise,
-- so there is at most one at each end, and none at the member's own.
abbrev pub IsCastLogged : EndId → List ℕ → List LogEntry → Type 0
IsCastLogged member body entries =
    (all : List Posted) × (entries ≡ map (λ posted. Put (message_at posted [] body)) all)
    × Rise (map (λ posted. posted.end.0) all) × All (λ posted. posted.end.0 ≢ member.0) all

-- a closing, or nothing where the end wasn't held
abbrev pub IsCloseLogged : EndId → List LogEntry → Type 0
IsCloseLogged end entries = (entries ≡ []) ⊎ IsClosing end entries

-- these ends were adopted, in this order
abbrev pub AreAdoptions : List EndId → List LogEntry → Type 0
AreAdoptions [] entries = entries ≡ []
AreAdoptions (end ∷ ends) entries =
    (epoch : ℕ) × (rest : List LogEntry) × (entries ≡ Adopted end epoch ∷ rest) × AreAdoptions ends rest

-- the ports that a delivery lists; a notice lists none
abbrev pub ports_listed : Content → List EndId
ports_listed (content.Payload m) = m.0
ports_listed content.Notice = []

-- some of these ends were adopted, in the order of the list
abbrev pub AreAdoptedOf : List EndId → List LogEntry → Type 0
AreAdoptedOf [] entries = entries ≡ []
AreAdoptedOf (end ∷ ends) entries =
    AreAdoptedOf ends entries ⊎ ((epoch : ℕ) × (rest : List LogEntry) × (entries ≡ Adopted end epoch ∷ rest) × AreAdoptedOf ends rest)

-- A turn: nothing, or one delivery, behind which those of its ports that were found are adopted, in list order.
abbrev pub IsTurnLogged : List LogEntry → Type 0
IsTurnLogged entries =
    (entries ≡ []) ⊎ ((d : Delivery) × (adoptions : List LogEntry) × (entries ≡ Got d ∷ adoptions) × AreAdoptedOf (ports_listed d.content) adoptions)

-- turns, one after the other
abbrev pub AreTurnEntries : List (List LogEntry) → Type 0
AreTurnEntries [] = Unit {0}
AreTurnEntries (turn ∷ turns) = IsTurnLogged turn × AreTurnEntries turns

abbrev pub AreTurnsLogged : List LogEntry → Type 0
AreTurnsLogged entries = (turns : List (List LogEntry)) × (entries ≡ flat_map (λ turn. turn) turns) × AreTurnEntries turns

-- the agent took turns, and then adopted the queue that it fetched, unless it was ordered to end before
abbrev pub IsFetchLogged : EndId → List LogEntry → Type 0
IsFetchLogged queue entries =
    (turns : List LogEntry) × (last : List LogEntry) × (entries ≡ turns ++ last) × AreTurnsLogged turns
    × ((last ≡ []) ⊎ ((epoch : ℕ) × (last ≡ Adopted queue epoch ∷ [])))

-- what an agent may write of an action
abbrev pub IsLoggedFor : ActionKind → List LogEntry → Type 0
IsLoggedFor (Post port body transfer) entries = IsPostLogged transfer body entries
IsLoggedFor (Send queue body transfer) entries = IsPostLogged transfer body entries
IsLoggedFor (Cast member body) entries = IsCastLogged member body entries
IsLoggedFor (Close end) entries = IsCloseLogged end entries
IsLoggedFor (Wait messages) entries = AreTurnsLogged entries
IsLoggedFor (Receive port) entries = AreTurnsLogged entries
IsLoggedFor (Fetch queue) entries = IsFetchLogged queue entries
IsLoggedFor (Start end) entries = entries ≡ []
IsLoggedFor (Loaded queue) entries = entries ≡ []
IsLoggedFor (Order to) entries = entries ≡ []
IsLoggedFor (Event event) entries = entries ≡ []
IsLoggedFor (Hand to) entries = entries ≡ []

-- what it may write of these actions, one after the other
abbrev pub AreLoggedFor : List ActionKind → List LogEntry → Type 0
AreLoggedFor [] entries = entries ≡ []
AreLoggedFor (action ∷ later) entries =
    (first : List LogEntry) × (rest : List LogEntry) × (entries ≡ first ++ rest) × IsLoggedFor action first × AreLoggedFor later rest

-- the notice of an end, where one was put, and its closing, where the loop held it
abbrev pub put_entries : Option Posted → List LogEntry
put_entries None = []
put_entries (Some posted) = Put (notice_at posted) ∷ []

abbrev pub held_entries : EndId → Bool → List LogEntry
held_entries end true = Closed end ∷ []
held_entries end false = []

abbrev pub ending_entries : EndId → Option Posted → Bool → List LogEntry
ending_entries end notice is_held = put_entries notice ++ held_entries end is_held

-- at the end of a loop there are notices and closings alone
abbrev pub AreEndings : List LogEntry → Type 0
AreEndings [] = Unit {0}
AreEndings (Put d ∷ entries) = (d.content ≡ content.Notice) × AreEndings entries
AreEndings (Closed end ∷ entries) = AreEndings entries
AreEndings (Got d ∷ entries) = ⊥
AreEndings (Adopted end epoch ∷ entries) = ⊥

-- what a turn leaves of the agent's notes, before the adoptions are logged
abbrev pub TurnLeaves : Turn → Notes → Notes → Type 0
TurnLeaves Delivered before after = (e : Envelope) × (missing : List EndId) × (after ≡ notes_of before e missing)
TurnLeaves (Idle busy) before after = after ≡ before
TurnLeaves Ending before after = after ≡ before

-- what the agent writes of what it has waited for, once it has come
abbrev pub IsComeLogged : Awaited → Bool → List LogEntry → Type 0
IsComeLogged (Queue queue) true entries = (epoch : ℕ) × (entries ≡ Adopted queue epoch ∷ [])
IsComeLogged awaited came entries = entries ≡ []

-- what it writes while it waits
abbrev pub IsWaitLogged : Awaited → List LogEntry → Type 0
IsWaitLogged (Queue queue) entries = IsFetchLogged queue entries
IsWaitLogged (Messages after count) entries = AreTurnsLogged entries
IsWaitLogged (Port port) entries = AreTurnsLogged entries
