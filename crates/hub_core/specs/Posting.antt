-- What the steps of a poster are answered (WHATWG HTML, "Message ports", the message port post message steps
-- with their transfer list; entering and leaving a gate are this project's own).
use Rattle.std.specs.Prelude.{if◌then◌else◌, ◌&&◌, ◌==◌, ◌||◌, ◌∷◌}
use Rattle.hub_core.specs.Words.{Acceptance, AgentId, Arrived, Bad, Bool, EndId, Good, HoldsTarget, Inside, Kind, List, Listing, MAX_PORTS, Client, Member, None, Option, Out, Outcome, Phase, Place, Port, Sender, Some, Swept, With, Worker}
use Rattle.hub_core.specs.Words.{[], false, is_some, length, list_all, nat_lt, not, option_and_then, option_map, true, unwrap_or, ℕ}
use Rattle.hub_core.specs.declared.step.Outcome.TheVariants as outcome
use Rattle.hub_core.specs.Notions.{AgentNow, EndNow, Facts, LineNow, names, peer_of, maker_of, CastNow, has_body, source_for, count_in_queue}

abbrev pub is_out : Phase → Bool
is_out Out = true
is_out _ = false

abbrev pub is_inside : Phase → Bool
is_inside Inside = true
is_inside _ = false

-- the agent that has an end of this place, where the agent runs the agent that has an end of this place
abbrev pub with_agent : Option Place → Option AgentId
with_agent (Some (With a)) = Some a
with_agent _ = None

-- the agent, where it runs
abbrev pub running : (ℕ → AgentNow) → Option AgentId → Option AgentId
running agent None = None
running agent (Some a) = if (agent a.0).runs then Some a else None

-- the running agent that has the end
abbrev pub holder : Facts → ℕ → Option AgentId
holder f e = running f.agent (with_agent (f.end e).place)

-- where the poster of the line is
abbrev pub phase_of_line : Facts → Sender → Phase
phase_of_line f s = (f.line s.end.0 s.line.0).phase

-- the agent whose cast goes to the end next: the one that made the source, running or ending
abbrev pub speaker : Facts → ℕ → Option AgentId
speaker f x = option_and_then (λ q. maker_of (f.end q.0).kind) (source_for f.roster.cast x)

abbrev pub owner_by : (ℕ → EndNow) → ℕ → Option AgentId → Option Kind → Option AgentId
owner_by end l held (Some (Port q)) = if l == 0 then with_agent (end q.0).place else None
owner_by end l held (Some Client) = held
owner_by end l held (Some Worker) = held
owner_by end l held _ = None

-- the agent, running or ending, whose poster the line has: for line 0 of a port the one that has the port that it is
-- entangled with, and for a line of a queue the one that holds it; that of a cast is no agent's
abbrev pub owner : Facts → ℕ → ℕ → Option AgentId
owner f x l = owner_by f.end l (f.line x l).held_by (f.end x).kind

abbrev pub poster_of : Option AgentId → Option AgentId → ℕ → Option Kind → Option AgentId
poster_of speaker runs l (Some (Member a)) = if l == 0 then speaker else None
poster_of speaker runs l _ = runs

-- the agent that posts on the line: the owner, where it runs, and for line 0 of a broadcast channel the agent whose cast
-- goes there next
abbrev pub poster : Facts → Sender → Option AgentId
poster f s = poster_of (speaker f s.end.0) (running f.agent (owner f s.end.0 s.line.0)) s.line.0 (f.end s.end.0).kind

-- whether a port of this place can be closed, and its poster say so: an agent has it, or it has arrived or was swept
abbrev pub is_here : Option Place → Bool
is_here (Some (With a)) = true
is_here (Some (Arrived a)) = true
is_here (Some Swept) = true
is_here _ = false

-- whether the place of the port that posts on the line lets its poster put a notice
abbrev pub port_place_allows_notice : Facts → Sender → Bool
port_place_allows_notice f s = s.line.0 == 0 && is_here (option_and_then (λ q. (f.end q).place) (peer_of (f.end s.end.0).kind))

-- whether a poster may enter: to post, or to put a notice alone
abbrev pub may_enter : Facts → Sender → Bool
may_enter f s = is_some (poster f s) || port_place_allows_notice f s

-- An Enter tests that its poster may enter and is out, and that no notice was put on the line; then it looks for a
-- retired queue and for a closed end.
abbrev pub enter_answer : Facts → Sender → Outcome
enter_answer f s =
    if not (may_enter f s && is_out (phase_of_line f s) && not (f.line s.end.0 s.line.0).noticed) then outcome.NotNow
    else (if nat_lt (f.line s.end.0 s.line.0).stand (f.end s.end.0).newest then outcome.Moved
    else (if (f.end s.end.0).closed then outcome.Closed
    else outcome.In))

abbrev pub leave_answer : Facts → Sender → Outcome
leave_answer f s = if is_out (phase_of_line f s) then outcome.NotNow else outcome.Left

abbrev pub is_distinct : List EndId → Bool
is_distinct [] = true
is_distinct (p ∷ ps) = not (names ps p.0) && is_distinct ps

abbrev pub is_holder : AgentId → Option AgentId → Bool
is_holder a None = false
is_holder a (Some b) = a.0 == b.0

abbrev pub is_with : AgentId → Option Place → Bool
is_with a place = is_holder a (with_agent place)

-- whether there is the line that a port holds, its poster is out, and no notice was put there
abbrev pub is_free : (ℕ → ℕ → LineNow) → Option ℕ → Bool
is_free line None = false
is_free line (Some q) = is_out (line q 0).phase && not (line q 0).noticed

abbrev pub is_at : ℕ → Option ℕ → Bool
is_at x None = false
is_at x (Some y) = x == y

-- a port that the agent has, its own poster out, with no notice of it, and not the source
abbrev pub may_leave_agent : Facts → AgentId → Sender → EndId → Bool
may_leave_agent f a s p =
    is_with a (f.end p.0).place && is_free f.line (peer_of (f.end p.0).kind) && not (is_at p.0 (peer_of (f.end s.end.0).kind))

-- What a list of ports is to a message on a line that the agent posts on. Distinct ports that may leave the agent are a
-- good list, unless the end to which the message goes is among them.
abbrev pub listing_of : Facts → Sender → List EndId → AgentId → Listing
listing_of f s ports a =
    if not (is_distinct ports && list_all (may_leave_agent f a s) ports) then Bad
    else (if names ports s.end.0 then HoldsTarget else Good)

-- what a list of ports is to a message on the line
abbrev pub listing : Facts → Sender → List EndId → Listing
listing f s ports = unwrap_or (option_map (listing_of f s ports) (poster f s)) Bad

abbrev pub is_good : Listing → Bool
is_good Good = true
is_good _ = false

-- how many envelopes of the line were accepted in the queue at which it stands
abbrev pub put_there : Facts → Sender → ℕ
put_there f s = count_in_queue s.line.0 (f.line s.end.0 s.line.0).stand (f.accepted s.end.0)

-- the name that an envelope of an agent on a line gets now, with this number
abbrev pub name_of : ℕ → Facts → Sender → AgentId → Acceptance
name_of n f s a = record { agent = a; epoch = (f.line s.end.0 s.line.0).stand; number = n }

abbrev pub is_empty : List EndId → Bool
is_empty [] = true
is_empty (p ∷ ps) = false

-- whether a message may go to an end of this kind: to a broadcast channel only the body of the cast, with no ports
abbrev pub is_fitting : Option CastNow → Option Kind → List EndId → List ℕ → Bool
is_fitting cast (Some (Member a)) ports body = is_empty ports && has_body body cast
is_fitting cast _ ports body = true

-- the last but two argument says whether the message may go to the end
abbrev pub push_answer_of : ℕ → Facts → Sender → List EndId → Bool → Bool → AgentId → Outcome
push_answer_of n f s ports fitting refused a =
    if nat_lt MAX_PORTS (length ports) then outcome.TooManyPorts
    else (if not (is_good (listing_of f s ports a) && fitting) then outcome.NotNow
    else (if refused then outcome.NoMemory
    else outcome.Accepted (name_of n f s a)))

-- whether the line's poster is inside, and no notice was put
abbrev pub is_posting : Facts → Sender → Bool
is_posting f s = is_inside (phase_of_line f s) && not (f.line s.end.0 s.line.0).noticed

-- A Push tests that its poster is inside with no notice put, as the first argument says, and that an agent that may post
-- holds the line; then the number of ports, that the agent may send them and the message may go to the end, and memory. The
-- second argument is the number that the envelope gets.
abbrev pub push_answer : Bool → ℕ → Facts → Sender → List EndId → List ℕ → Bool → Outcome
push_answer posting n f s ports body refused =
    if not posting then outcome.NotNow
    else unwrap_or (option_map (push_answer_of n f s ports (is_fitting f.roster.cast (f.end s.end.0).kind ports body) refused) (poster f s)) outcome.NotNow

-- A Notice tests that its poster is inside with no notice put, as the first argument says, and that the port's place lets it;
-- then memory. The envelope is of agent 0, whichever agent the port is with.
abbrev pub notice_answer : Bool → ℕ → Facts → Sender → Bool → Outcome
notice_answer posting n f s refused =
    if not (posting && port_place_allows_notice f s) then outcome.NotNow
    else (if refused then outcome.NoMemory
    else outcome.Accepted (name_of n f s (record { 0 = 0 })))

-- whether a message may be posted on the line: an agent that may post holds it, its poster is out, and no notice was put
abbrev pub may_post_on_line : Facts → Sender → Bool
may_post_on_line f s = is_some (poster f s) && is_out (phase_of_line f s) && not (f.line s.end.0 s.line.0).noticed
