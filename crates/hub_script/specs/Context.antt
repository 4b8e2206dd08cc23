-- What a form says after the lines before it, or the first test that it fails. The tests of a form stand in one
-- table, in the order in which they are made: its place in the script, agents and names, its list of ports, the
-- limits. What is left of its body or URL comes last.
use Rattle.std.specs.Prelude.{ℕ, ◌==◌, ◌||◌, ◌&&◌, List, [], ◌∷◌, ◌++◌, length, map, Bool, true, false, not, nat_le, nat_lt, Option, Some, None, is_some, Result, Ok, Err, ⊤, codes, bytes_eq, slice_get, if◌then◌else◌}
use Rattle.std.specs.List.{list_all, list_any}
use Rattle.hub_origin.specs.declared.origin.OriginError.{OriginError}
use Rattle.hub_envelope.specs.declared.limits.TheConstants.{MAX_AGENTS, MAX_PORTS, MAX_SCRIPT_LINES}
use Rattle.hub_envelope.specs.declared.body.BodyError.{BodyError}
use Rattle.hub_envelope.specs.declared.body.BodyError.TheVariants.{NotJson, NotWhole, TooDeep, TooLong, OutOfMemory as NoMemory}
use Rattle.hub_envelope.specs.declared.ids.AgentId.{AgentId}
use Rattle.hub_envelope.specs.declared.ids.EndId.{EndId}
use Rattle.hub_text.specs.Reading.{◌>>=◌, some_or}
use Rattle.hub_script.specs.declared.action.Action.{Action}
use Rattle.hub_script.specs.declared.action.ActionKind.{ActionKind}
use Rattle.hub_script.specs.declared.action.ActionKind.TheVariants as action
use Rattle.hub_script.specs.declared.script.AgentKind.{AgentKind}
use Rattle.hub_script.specs.declared.script.AgentKind.TheVariants.{Window, Worker}
use Rattle.hub_script.specs.declared.script.DeclaredAgent.{DeclaredAgent}
use Rattle.hub_script.specs.declared.form.Form.{Form}
use Rattle.hub_script.specs.declared.form.Form.TheVariants as form
use Rattle.hub_script.specs.declared.form.ActionForm.{ActionForm}
use Rattle.hub_script.specs.declared.form.ActionForm.TheVariants.{Post, Send, Cast, Start, Loaded, Close, Wait, Receive, Order, Event as LifeEvent, Hand, Fetch}
use Rattle.hub_script.specs.declared.script_reader.NamedEnd.{NamedEnd}
use Rattle.hub_script.specs.declared.script_reader.NameKind.{NameKind}
use Rattle.hub_script.specs.declared.script_reader.NameKind.TheVariants.{Port, Member}
use Rattle.hub_script.specs.declared.error.ScriptError.{ScriptError}
use Rattle.hub_script.specs.declared.error.ScriptError.TheVariants.{Syntax, UnknownName, DataClone, TooLarge}
use Rattle.hub_script.specs.declared.error.DataCloneCause.TheVariants.{Source, Twice, Detached}
use Rattle.hub_script.specs.Contents.{actions, declared_agents, line_count, with_action, with_declared, with_channel, with_member}
use Rattle.hub_script.specs.Fields.{ScriptRead}
use Rattle.hub_script.specs.Known.{Known, declaring, declared_end, giving, giving_all, holding, next_broadcast_member, next_port, queue_of, second_port, taking_more, with_handed, with_holds, with_script}
use Rattle.hub_script.specs.Uses.{agents_named, members_named, names_used, ports_named, transfer_of, transferred}

-- ---- what is known of agents and names

abbrev pub has_no_action : List Action → Bool
has_no_action [] = true
has_no_action (x ∷ xs) = false

-- the agent of that number is declared
abbrev pub has_agent_of_number : Known → ℕ → Bool
has_agent_of_number k at = nat_lt at (length (declared_agents k.script))

abbrev pub is_kind : AgentKind → AgentKind → Bool
is_kind Window Window = true
is_kind Window Worker = false
is_kind Worker Window = false
is_kind Worker Worker = true

abbrev pub declared_as : AgentKind → Option DeclaredAgent → Bool
declared_as kind None = false
declared_as kind (Some a) = is_kind kind a.kind

-- the agent of that number is declared, as one of that kind
abbrev pub is_agent : Known → AgentKind → ℕ → Bool
is_agent k kind at = declared_as kind (slice_get (declared_agents k.script) at)

-- a name that isn't reserved and isn't declared yet
abbrev pub is_unused : Known → List ℕ → Bool
is_unused k n = not (bytes_eq n (codes "queue")) && not (is_some (k.names n))

abbrev pub of_port : NameKind → Bool
of_port Port = true
of_port Member = false

abbrev pub names_port : Option NamedEnd → Bool
names_port None = false
names_port (Some x) = of_port x.kind

abbrev pub names_member : Option NamedEnd → Bool
names_member None = false
names_member (Some x) = not (of_port x.kind)

abbrev pub is_port : Known → List ℕ → Bool
is_port k n = names_port (k.names n)

abbrev pub is_member : Known → List ℕ → Bool
is_member k n = names_member (k.names n)

abbrev pub holds_end : Known → ℕ → Option NamedEnd → Bool
holds_end k a None = false
holds_end k a (Some x) = k.holds (holding (record { 0 = a }) x)

-- the agent of that number holds what the name names
abbrev pub holds_named : Known → ℕ → List ℕ → Bool
holds_named k a n = holds_end k a (k.names n)

abbrev pub stands_in : List ℕ → List (List ℕ) → Bool
stands_in n names = list_any (λ m. bytes_eq m n) names

abbrev pub has_twice : List (List ℕ) → Bool
has_twice [] = false
has_twice (n ∷ names) = stands_in n names || has_twice names

-- ---- the tests

-- a worker's queue is started by itself, and one that was handed on is another agent's
abbrev pub agent_may_start_queue : Known → ℕ → Bool
agent_may_start_queue k at = not (is_agent k Worker at || k.handed at)

-- an action fits what its agent is and has done
abbrev pub is_timely : Known → ℕ → ActionForm → Bool
is_timely k at (Start name) = not (bytes_eq name (codes "queue")) || agent_may_start_queue k at
is_timely k at Loaded = agent_may_start_queue k at
is_timely k at (LifeEvent event) = not (is_agent k Window at)
is_timely k at (Hand to) = not (at == to) && not (k.handed at)
is_timely k at (Fetch from) = not (at == from)
is_timely k at x = true

-- declarations stand before all actions, and declare different names that are free
abbrev pub is_placed : Known → Form → Bool
is_placed k (form.Agent kind origin) = has_no_action (actions k.script)
is_placed k (form.Channel first second at) = has_no_action (actions k.script) && (is_unused k first && is_unused k second && not (bytes_eq first second))
is_placed k (form.Member name at on) = has_no_action (actions k.script) && is_unused k name
is_placed k (form.Action at x) = is_timely k at x

-- agents and names are declared, are of the kind that is meant, and are held where they are used
abbrev pub are_known : Known → Form → Bool
are_known k f = list_all (has_agent_of_number k) (agents_named f) && (list_all (is_port k) (ports_named f) && (list_all (is_member k) (members_named f) && list_all (λ used. holds_named k used.0 used.1) (names_used f)))

-- the port that posts is in its own list
abbrev pub lists_source : Form → Bool
lists_source (form.Action at (Post port body transfer)) = stands_in port transfer
lists_source f = false

-- the agent holds the ports that it transfers
abbrev pub holds_list : Known → Form → Bool
holds_list k (form.Action at x) = list_all (holds_named k at) (transferred x)
holds_list k f = true

-- a body that isn't nested too deep or too long
abbrev pub is_body_within_limits : Result (List ℕ) BodyError → Bool
is_body_within_limits (Ok body) = true
is_body_within_limits (Err NotJson) = true
is_body_within_limits (Err NotWhole) = true
is_body_within_limits (Err TooDeep) = false
is_body_within_limits (Err TooLong) = false
is_body_within_limits (Err NoMemory) = true

abbrev pub has_small_body : ActionForm → Bool
has_small_body (Post port body transfer) = is_body_within_limits body
has_small_body (Send to body transfer) = is_body_within_limits body
has_small_body (Cast member body) = is_body_within_limits body
has_small_body x = true

-- agents, listed ports and bodies are within their limits
abbrev pub is_within : Known → Form → Bool
is_within k (form.Agent kind origin) = nat_lt (length (declared_agents k.script)) MAX_AGENTS
is_within k (form.Action at x) = nat_le (length (transferred x)) MAX_PORTS && has_small_body x
is_within k f = true

-- the script has room for a text line more
abbrev pub has_room : Known → Bool
has_room k = nat_lt (line_count k.script) MAX_SCRIPT_LINES

-- the tests of a form, each with its refusal
abbrev pub tests : Known → Form → List (ScriptError × Bool)
tests k f =
    (Syntax, is_placed k f)
    ∷ (UnknownName, are_known k f)
    ∷ (DataClone Source, not (lists_source f))
    ∷ (DataClone Twice, not (has_twice (transfer_of f)))
    ∷ (DataClone Detached, holds_list k f)
    ∷ (TooLarge, has_room k)
    ∷ (TooLarge, is_within k f)
    ∷ []

-- a test: where it fails, this is what is wrong
abbrev pub require : ScriptError → Bool → ScriptRead ⊤
require e b = if b then Ok tt else Err e

-- the first test that fails
abbrev pub run : List (ScriptError × Bool) → ScriptRead ⊤
run [] = Ok tt
run (t ∷ ts) = require t.0 t.1 >>= λ _. run ts

-- ---- what a form adds

-- the agent of that number, where it is declared
abbrev pub agent_of : Known → ℕ → ScriptRead AgentId
agent_of k at = if has_agent_of_number k at then Ok (record { 0 = at }) else Err UnknownName

-- the port or member of that name
abbrev pub declared_end_of_name : Known → List ℕ → ScriptRead NamedEnd
declared_end_of_name k n = some_or UnknownName (k.names n)

-- what names name, behind other ends
abbrev pub declared_ends : Known → List NamedEnd → List (List ℕ) → ScriptRead (List NamedEnd)
declared_ends k ends [] = Ok ends
declared_ends k ends (n ∷ names) = declared_end_of_name k n >>= λ x. declared_ends k (ends ++ x ∷ []) names

-- a body or a URL that is one
abbrev pub value_or : {E : Type 0} → Result (List ℕ) E → ScriptRead (List ℕ)
value_or (Ok value) = Ok value
value_or (Err e) = Err Syntax

-- what is known where the agent does this
abbrev pub acting : Known → AgentId → ActionKind → Known
acting k a kind = with_script k (with_action k.script (record { at = a; kind = kind }))

abbrev pub adding_agent : Known → AgentKind → Result (List ℕ) OriginError → ScriptRead Known
adding_agent k kind answer = value_or answer >>= λ origin. Ok (with_script k (with_declared k.script (record { kind = kind; origin = origin })))

-- an agent holds the names that are declared at it
unfoldable pub adding_channel : Known → List ℕ → List ℕ → ℕ → ScriptRead Known
adding_channel k first second at = do
  a ← agent_of k at
  Ok (with_script (declaring (declaring k first (next_port k.script) a) second (second_port k.script) a)
      (with_channel k.script (record { at = a; first = first; second = second })))

unfoldable pub adding_member : Known → List ℕ → ℕ → List ℕ → ScriptRead Known
adding_member k name at on = do
  a ← agent_of k at
  Ok (with_script (declaring k name (next_broadcast_member k.script) a) (with_member k.script (record { at = a; name = name; on = on })))

-- what the agent transfers it doesn't hold any more
abbrev pub transferring : Known → AgentId → List NamedEnd → ActionKind → ScriptRead Known
transferring k a ports kind = Ok (with_holds (acting k a kind) (giving_all a ports))

-- a post at a port
unfoldable pub posting : Known → AgentId → List ℕ → Result (List ℕ) BodyError → List (List ℕ) → ScriptRead Known
posting k a n answer names = do
  port ← declared_end_of_name k n
  ports ← declared_ends k [] names
  body ← value_or answer
  transferring k a ports (action.Post (declared_end k.script port) body (map (declared_end k.script) ports))

-- a post at an agent's queue
unfoldable pub sending : Known → AgentId → ℕ → Result (List ℕ) BodyError → List (List ℕ) → ScriptRead Known
sending k a to answer names = do
  b ← agent_of k to
  ports ← declared_ends k [] names
  body ← value_or answer
  transferring k a ports (action.Send (queue_of b) body (map (declared_end k.script) ports))

unfoldable pub casting : Known → AgentId → List ℕ → Result (List ℕ) BodyError → ScriptRead Known
casting k a n answer = do
  member ← declared_end_of_name k n
  body ← value_or answer
  Ok (acting k a (action.Cast (declared_end k.script member) body))

-- what the agent starts: its own queue, or a port
abbrev pub started_end : Known → AgentId → List ℕ → ScriptRead EndId
started_end k a n = if bytes_eq n (codes "queue") then Ok (queue_of a) else (declared_end_of_name k n >>= λ port. Ok (declared_end k.script port))

-- what is known after the action of the agent. What it closes it doesn't hold any more, and what it receives it
-- holds, whoever held it before
abbrev pub adding_action : Known → AgentId → ActionForm → ScriptRead Known
adding_action k a (Post n answer names) = posting k a n answer names
adding_action k a (Send to answer names) = sending k a to answer names
adding_action k a (Cast n answer) = casting k a n answer
adding_action k a (Start n) = started_end k a n >>= λ end. Ok (acting k a (action.Start end))
adding_action k a Loaded = Ok (acting k a (action.Loaded (queue_of a)))
adding_action k a (Close n) = declared_end_of_name k n >>= λ end. Ok (with_holds (acting k a (action.Close (declared_end k.script end))) (giving (holding a end)))
adding_action k a (Wait messages) = Ok (acting k a (action.Wait messages))
adding_action k a (Receive n) = declared_end_of_name k n >>= λ port. Ok (with_holds (acting k a (action.Receive (declared_end k.script port))) (taking_more (holding a port)))
adding_action k a (Order to) = agent_of k to >>= λ b. Ok (acting k a (action.Order b))
adding_action k a (LifeEvent event) = Ok (acting k a (action.Event event))
adding_action k a (Hand to) = agent_of k to >>= λ b. Ok (with_handed (acting k a (action.Hand b)) a.0)
adding_action k a (Fetch from) = agent_of k from >>= λ b. Ok (acting k a (action.Fetch (queue_of b)))

-- what is known after a form that passes the tests
abbrev pub adding : Known → Form → ScriptRead Known
adding k (form.Agent kind answer) = adding_agent k kind answer
adding k (form.Channel first second at) = adding_channel k first second at
adding k (form.Member name at on) = adding_member k name at on
adding k (form.Action at x) = agent_of k at >>= λ a. adding_action k a x

-- what is known after a text line of that form, or the first test that it fails
unfoldable pub after_form : Known → Form → ScriptRead Known
after_form k f = run (tests k f) >>= λ _. adding k f
