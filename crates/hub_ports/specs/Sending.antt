-- What a post with ports comes to.
use Rattle.std.specs.Prelude.{◌≡◌, ◌⊎◌, ℕ, ◌<◌, false, List, length, Result, Ok, Err}
use Rattle.hub_envelope.specs.declared.envelope.Draft.{Draft}
use Rattle.hub_envelope.specs.declared.ids.AgentId.{AgentId}
use Rattle.hub_queue.specs.declared.error.PostError.{PostError}
use Rattle.hub_queue.specs.declared.error.PostError.TheVariants as why
use Rattle.hub_envelope.specs.declared.posted.Posted.{Posted}
use Rattle.hub_queue.specs.Posting.{IsPosted}
use Rattle.hub_queue.specs.Standing.{StandSeat}
use Rattle.hub_ports.specs.declared.error.PortError.{PortError}
use Rattle.hub_ports.specs.declared.error.PortError.TheVariants.{Closed, Moving, OutOfMemory, Doomed, TooManyPorts, Strayed, Taken}
use Rattle.hub_ports.specs.Closing.{AreDoomed}
use Rattle.hub_ports.specs.Seats.{PortSeat, ends_of}
use Rattle.hub_ports.specs.Splitting.{IsSplit}

-- the draft of a message that names these ports, in order
abbrev pub draft_of : AgentId → List ℕ → List PortSeat → Draft
draft_of agent body ports = record { agent = agent; body = body; ports = ends_of ports; notice = false }

-- the draft was refused at the line for this reason: nothing more was put on it, and closed and moving only where the line was turned in this call and found that flag
abbrev pub IsRefusedAtLine : StandSeat → StandSeat → Draft → PostError → Type 0
IsRefusedAtLine old new draft why = IsPosted old new draft (Err (why, draft))

-- it was refused there for want of memory, or never came to the line
abbrev pub WantsMemory : StandSeat → StandSeat → Draft → Type 0
WantsMemory old new draft = IsRefusedAtLine old new draft why.OutOfMemory ⊎ (new ≡ old)

-- the body and all ports came back, the ports in order
abbrev pub CameBack : Draft → List ℕ → List PortSeat → Type 0
CameBack draft body back = (body ≡ draft.body) × (ends_of back ≡ draft.ports)

-- The line has put nothing more, whatever the error. Doomed and too many ports: nothing was posted or put in flight; the ports were closed in order, or came back as they were. Taken: nothing was posted. Out of memory: the line refused it, or nothing was posted. Strayed: the same, for any reason of the line; each port came back or is named.
abbrev pub IsUnsent : StandSeat → StandSeat → Draft → List PortSeat → PortError → Type 0
IsUnsent old new draft ports (Closed body back) = IsRefusedAtLine old new draft why.Closed × CameBack draft body back.items
IsUnsent old new draft ports (Moving body back) = IsRefusedAtLine old new draft why.Moving × CameBack draft body back.items
IsUnsent old new draft ports (OutOfMemory body back) = WantsMemory old new draft × CameBack draft body back.items
IsUnsent old new draft ports (Doomed closings) = (new ≡ old) × AreDoomed ports closings
IsUnsent old new draft ports (TooManyPorts body back) = (new ≡ old) × (body ≡ draft.body) × (back.items ≡ ports)
IsUnsent old new draft ports (Strayed missing body back) =
    (((why : PostError) × IsRefusedAtLine old new draft why) ⊎ (new ≡ old)) × (body ≡ draft.body) × (0 < length missing.items) × IsSplit draft.ports (ends_of back.items) missing.items
IsUnsent old new draft ports (Taken body back) = (new ≡ old) × CameBack draft body back.items

-- Ok: what the line has put grew by one envelope with this agent, this body and these ports, in order.
abbrev pub IsSent : StandSeat → StandSeat → AgentId → List ℕ → List PortSeat → Result Posted PortError → Type 0
IsSent old new agent body ports (Ok posted) = IsPosted old new (draft_of agent body ports) (Ok posted)
IsSent old new agent body ports (Err e) = IsUnsent old new (draft_of agent body ports) ports e

-- the answer is Doomed
abbrev pub IsDoomed : Result Posted PortError → Type 0
IsDoomed (Err (Doomed closings)) = Unit {0}
IsDoomed _ = ⊥

-- the answer is that there were too many ports
abbrev pub IsTooMany : Result Posted PortError → Type 0
IsTooMany (Err (TooManyPorts body back)) = Unit {0}
IsTooMany _ = ⊥
