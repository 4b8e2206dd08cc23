-- The core steps that a step line unfolds to, what it shows, and what becomes of the lives.
use Rattle.std.specs.Prelude.{ℕ, zero, suc, Bool, true, false, not, ◌&&◌, List, [], ◌∷◌, ◌++◌, length, nat_lt, if◌then◌else◌, Option, Some, None, option_map, is_some, slice_get, ◌||◌}
use Rattle.hub_envelope.specs.declared.ids.AgentId.{AgentId}
use Rattle.hub_envelope.specs.declared.ids.EndId.{EndId}
use Rattle.hub_envelope.specs.declared.envelope.Envelope.{Envelope}
use Rattle.hub_envelope.specs.declared.limits.TheConstants.{MAX_HOPS, MAX_PORTS}
use Rattle.hub_core.specs.declared.step.Sender.{Sender}
use Rattle.hub_core.specs.declared.step.Action.{Action}
use Rattle.hub_core.specs.declared.step.Action.TheVariants as action
use Rattle.hub_core.specs.declared.step.Outcome.{Outcome}
use Rattle.hub_core.specs.declared.step.Outcome.TheVariants as outcome
use Rattle.hub_core.specs.declared.step.Listing.{Listing}
use Rattle.hub_core.specs.declared.step.Listing.TheVariants.{Good, HoldsTarget, Bad}
use Rattle.hub_core.specs.Facts.{Facts}
use Rattle.hub_core.specs.Made.{is_queue, lines_of, maker_of, peer_of}
use Rattle.hub_core.specs.Legal.{is_queue_of, takes_memory}
use Rattle.hub_core.specs.declared.kind.Kind.TheVariants.{Client, Worker}
use Rattle.hub_core.specs.Taking.{may_close}
use Rattle.hub_core.specs.Posting.{may_post_on_line, listing}
use Rattle.hub_steps.specs.declared.shown.Shown.{Shown}
use Rattle.hub_steps.specs.declared.shown.Shown.TheVariants as shown
use Rattle.hub_steps.specs.declared.shown.Shown.TheVariants.{Answer, Moving, Doomed, DoneNoMemory, DoneMoving, Cast}
use Rattle.hub_steps.specs.declared.shown.CastPost.{CastPost}
use Rattle.hub_steps.specs.declared.step_line.AgentUrl.{AgentUrl}
use Rattle.hub_steps.specs.declared.step_line.AgentUrl.TheVariants.{NoUrl, Origin, BadUrl, OpaqueOrigin}
use Rattle.hub_steps.specs.declared.step_line.PosterName.{PosterName}
use Rattle.hub_steps.specs.declared.step_line.PosterName.TheVariants.{Port, Line}
use Rattle.hub_steps.specs.declared.step_line.PosterCommand.{PosterCommand}
use Rattle.hub_steps.specs.declared.step_line.PosterCommand.TheVariants as poster
use Rattle.hub_steps.specs.declared.step_line.Command.{Command}
use Rattle.hub_steps.specs.declared.step_line.Command.TheVariants as command
use Rattle.hub_steps.specs.Lives.{AllLives, begun, change_life, ended, event_shown, happened}
use Rattle.hub_steps.specs.Computation.{Computation, pure, ask, step, ◌>>=◌}

abbrev pub poster_command_takes_memory : PosterCommand → Bool
poster_command_takes_memory (poster.Push ports body) = true
poster_command_takes_memory (poster.Post ports body) = true
poster_command_takes_memory c = false

-- the commands whose steps may be answered want of memory
abbrev pub command_takes_memory : Command → Bool
command_takes_memory (command.Step a) = takes_memory a
command_takes_memory (command.At p c) = poster_command_takes_memory c
command_takes_memory (command.Loaded e) = false
command_takes_memory (command.Event a event) = false
command_takes_memory c = true

-- a post takes several steps; each other command of a poster takes one
abbrev pub is_post : PosterCommand → Bool
is_post (poster.Post ports body) = true
is_post c = false

-- the commands that take one step of the core, or none
abbrev pub takes_at_most_one_step : Command → Bool
takes_at_most_one_step (command.Worker a) = false
takes_at_most_one_step (command.Member a name) = false
takes_at_most_one_step (command.At p c) = not (is_post c)
takes_at_most_one_step (command.Adopt e a) = false
takes_at_most_one_step (command.Close e) = false
takes_at_most_one_step (command.Sweep e) = false
takes_at_most_one_step (command.Cast e ports body) = false
takes_at_most_one_step c = true

-- a step whose outcome is shown
abbrev pub shown_step : Bool → Action → Computation Shown
shown_step refused a = do
  answer ← step refused a
  pure (Answer answer)

-- the line that the poster posts on: for a port's poster line 0 of the port that it is entangled with, else that line
-- of a client's or worker's queue or of a broadcast channel
abbrev pub sender_of : PosterName → Facts → Option Sender
sender_of (Port p) f = option_map (λ q. record { end = record { 0 = q }; line = record { 0 = 0 } }) (peer_of (f.end p.0).kind)
sender_of (Line e l) f = if (is_queue (f.end e.0).kind || is_some (maker_of (f.end e.0).kind)) && nat_lt l.0 (lines_of (f.end e.0).kind) then Some (record { end = e; line = l }) else None

abbrev pub over_line : (Sender → Computation Shown) → Option Sender → Computation Shown
over_line steps None = pure (Answer outcome.NotNow)
over_line steps (Some s) = steps s

-- what the poster's line is for; a poster that names no line takes no step, and not-now is shown
abbrev pub on_line_of : PosterName → (Sender → Computation Shown) → Computation Shown
on_line_of p steps = do
  line ← ask (sender_of p)
  over_line steps line

-- What follows an Enter where hops are left: answered Moved, it goes on by Leave and Hop to enter again.
abbrev pub go_on : Bool → Sender → Computation Outcome → Outcome → Computation Outcome
go_on refused s again outcome.Moved = do
  left ← step refused (action.Leave s)
  hopped ← step refused (action.Hop s)
  again
go_on refused s again entered = pure entered

-- Enter, with at most n hops: the answer of the last Enter, which is Moved only after n hops
unfoldable pub enter : ℕ → Bool → Sender → Computation Outcome
enter zero refused s = step refused (action.Enter s)
enter (suc n) refused s = do
  entered ← step refused (action.Enter s)
  go_on refused s (enter n refused s) entered

-- ---- the closing of an end

-- the line on which the closing of a port puts its notice, where a Close would be answered Done; no other end has one
abbrev pub line_for_closing_notice : EndId → Facts → Option Sender
line_for_closing_notice e f = if may_close f e.0 then sender_of (Port e) f else None

-- What follows the last Enter of a closing: inside, the Push of the notice.
abbrev pub tell_inside : Bool → Sender → Outcome → Computation Outcome
tell_inside refused s outcome.In = step refused (action.Notice s)
tell_inside refused s entered = pure entered

-- Enter, with at most four hops, and the Push of the notice: the answer of that Push, or else of the last Enter
abbrev pub tell : Bool → Sender → Computation Outcome
tell refused s = do
  entered ← enter MAX_HOPS refused s
  tell_inside refused s entered

-- what a closing shows, by that answer and by that of the Close
abbrev pub shown_by_closing_outcomes : Outcome → Outcome → Shown
shown_by_closing_outcomes outcome.NoMemory answer = DoneNoMemory
shown_by_closing_outcomes outcome.Moved answer = DoneMoving
shown_by_closing_outcomes told answer = Answer answer

abbrev pub close_on : Bool → EndId → Option Sender → Computation Shown
close_on refused e None = shown_step refused (action.Close e)
close_on refused e (Some s) = do
  told ← tell refused s
  left ← step refused (action.Leave s)
  closed ← step refused (action.Close e)
  pure (shown_by_closing_outcomes told closed)

-- The closing of an end. A port's own poster enters, puts the notice where it is inside, and leaves; and then Close. At
-- a client's or worker's queue or a broadcast channel, and where the Close would be answered Closed or NotNow, that is the only step.
abbrev pub close : Bool → EndId → Computation Shown
close refused e = do
  line ← ask (line_for_closing_notice e)
  close_on refused e line

-- the closing of each, in order, with hops counted anew; it isn't shown
abbrev pub close_each : Bool → List EndId → Computation (Unit {0})
close_each refused [] = pure tt
close_each refused (e ∷ ends) = do
  closed ← close refused e
  close_each refused ends

-- the closing of the ports of each envelope, in order
abbrev pub close_ports : Bool → List Envelope → Computation (Unit {0})
close_ports refused [] = pure tt
close_ports refused (v ∷ vs) = do
  closed ← close_each refused v.ports
  close_ports refused vs

abbrev pub close_swept : Bool → Outcome → Computation Shown
close_swept refused (outcome.Discarded vs) = do
  closed ← close_ports refused vs
  pure (Answer (outcome.Discarded vs))
close_swept refused answer = pure (Answer answer)

-- Sweep, and then the closing of each end that the discarded envelopes name
abbrev pub sweep : Bool → EndId → Computation Shown
sweep refused e = do
  answer ← step refused (action.Sweep e)
  close_swept refused answer

-- ---- a post

-- What follows the last Enter of a post. Inside it pushes and leaves, and what the push is answered is
-- shown; at a closed end it leaves; behind the last hop it leaves, and moving is shown.
abbrev pub send_inside : Bool → List EndId → List ℕ → Sender → Outcome → Computation Shown
send_inside refused ports body s outcome.In = do
  answer ← step refused (action.Push s ports body)
  left ← step refused (action.Leave s)
  pure (Answer answer)
send_inside refused ports body s outcome.Closed = do
  left ← step refused (action.Leave s)
  pure (Answer outcome.Closed)
send_inside refused ports body s outcome.Moved = do
  left ← step refused (action.Leave s)
  pure Moving
send_inside refused ports body s entered = pure (Answer entered)

-- Enter, with at most four hops; then push and leave
abbrev pub send : Bool → List EndId → List ℕ → Sender → Computation Shown
send refused ports body s = do
  entered ← enter MAX_HOPS refused s
  send_inside refused ports body s entered

abbrev pub post_listing : Bool → List EndId → List ℕ → Sender → Listing → Computation Shown
post_listing refused ports body s Bad = pure (Answer outcome.NotNow)
post_listing refused ports body s HoldsTarget = do
  closed ← close_each refused ports
  pure Doomed
post_listing refused ports body s Good = send refused ports body s

abbrev pub post_count : Bool → List EndId → List ℕ → Sender → Bool → Computation Shown
post_count refused ports body s true = pure (Answer outcome.TooManyPorts)
post_count refused ports body s false = do
  list ← ask (λ f. listing f s ports)
  post_listing refused ports body s list

abbrev pub post_may : Bool → List EndId → List ℕ → Sender → Bool → Computation Shown
post_may refused ports body s false = pure (Answer outcome.NotNow)
post_may refused ports body s true = post_count refused ports body s (nat_lt MAX_PORTS (length ports))

-- A post tests that its poster may post now; then that the list has at most 16 ports; then that the list isn't bad
-- for another cause than the target; then that it doesn't hold the target, else each listed port is closed.
abbrev pub post : Bool → List EndId → List ℕ → Sender → Computation Shown
post refused ports body s = do
  may ← ask (λ f. may_post_on_line f s)
  post_may refused ports body s may

-- ---- queues that a step line makes and starts

abbrev pub start_made : Bool → Outcome → Computation Shown
start_made refused (outcome.End e) = do
  started ← step refused (action.Start e)
  pure (Answer (outcome.End e))
start_made refused answer = pure (Answer answer)

-- A step that makes a queue, and then Start of the queue that it made, which isn't shown.
abbrev pub then_start : Bool → Action → Computation Shown
then_start refused a = do
  answer ← step refused a
  start_made refused answer

abbrev pub start_where : Bool → EndId → Bool → Computation (Unit {0})
start_where refused e true = do
  started ← step refused (action.Start e)
  pure tt
start_where refused e false = pure tt

-- Start of a worker's queue; no step of any other end
abbrev pub start_if_worker_queue : Bool → EndId → Computation (Unit {0})
start_if_worker_queue refused e = do
  of_worker ← ask (λ f. is_queue_of Worker (f.end e.0).kind)
  start_where refused e of_worker

-- What follows an Adopt. A worker's queue that was adopted is started, which isn't shown.
abbrev pub start_adopted : Bool → EndId → Outcome → Computation Shown
start_adopted refused e (outcome.Adopted k) = do
  started ← start_if_worker_queue refused e
  pure (Answer (outcome.Adopted k))
start_adopted refused e answer = pure (Answer answer)

-- Adopt, and then Start where it adopted a worker's queue
abbrev pub adopt : Bool → EndId → AgentId → Computation Shown
adopt refused e a = do
  answer ← step refused (action.Adopt e a)
  start_adopted refused e answer

abbrev pub load_client : Bool → EndId → Bool → Computation Shown
load_client refused e true = shown_step refused (action.Start e)
load_client refused e false = pure (Answer outcome.NotNow)

-- Start, of a client's queue alone
abbrev pub load : Bool → EndId → Computation Shown
load refused e = do
  of_client ← ask (λ f. is_queue_of Client (f.end e.0).kind)
  load_client refused e of_client

-- ---- casts

-- What follows an Enter at a destination: inside, the Push of the body.
abbrev pub cast_inside : Bool → List ℕ → Sender → Outcome → Computation Outcome
cast_inside refused body s outcome.In = step refused (action.Push s [] body)
cast_inside refused body s entered = pure entered

abbrev pub line_zero : EndId → Sender
line_zero e = record { end = e; line = record { 0 = 0 } }

-- Enter, the Push of the body, and Leave at a destination: the answer of that Push, or else of the Enter
abbrev pub cast_over : Bool → List ℕ → EndId → Computation Outcome
cast_over refused body e = do
  entered ← step refused (action.Enter (line_zero e))
  answer ← cast_inside refused body (line_zero e) entered
  left ← step refused (action.Leave (line_zero e))
  pure answer

-- each destination, in order, with what was answered there
abbrev pub cast_each : Bool → List ℕ → List EndId → Computation (List CastPost)
cast_each refused body [] = pure []
cast_each refused body (e ∷ ends) = do
  answer ← cast_over refused body e
  rest ← cast_each refused body ends
  pure (record { end = e; outcome = answer } ∷ rest)

abbrev pub cast_all : Bool → List ℕ → Outcome → Computation Shown
cast_all refused body (outcome.Destinations ends) = do
  posts ← cast_each refused body ends
  pure (Cast posts)
cast_all refused body answer = pure (Answer answer)

-- Cast, and then the posts at its destinations
abbrev pub cast : Bool → EndId → List EndId → List ℕ → Computation Shown
cast refused e ports body = do
  answer ← step refused (action.Cast e ports body)
  cast_all refused body answer

-- ---- a step line

-- a new agent, where its URL is one with an origin, or there is none
abbrev pub agent : Bool → AgentUrl → Computation Shown
agent refused NoUrl = shown_step refused (action.Agent None)
agent refused (Origin o) = shown_step refused (action.Agent (Some o))
agent refused BadUrl = pure shown.BadUrl
agent refused OpaqueOrigin = pure shown.OpaqueOrigin

-- what a command of a poster unfolds to on its line
abbrev pub line_steps : Bool → PosterCommand → Sender → Computation Shown
line_steps refused poster.Enter s = shown_step refused (action.Enter s)
line_steps refused (poster.Push ports body) s = shown_step refused (action.Push s ports body)
line_steps refused poster.Leave s = shown_step refused (action.Leave s)
line_steps refused poster.Hop s = shown_step refused (action.Hop s)
line_steps refused poster.Back s = shown_step refused (action.Back s)
line_steps refused (poster.Post ports body) s = post refused ports body s

-- what a command unfolds to, with memory refused or not. An event takes no step, and shows what the lives so far say.
abbrev pub core_steps : AllLives → Bool → Command → Computation Shown
core_steps lives refused (command.Step a) = shown_step refused a
core_steps lives refused (command.Agent url) = agent refused url
core_steps lives refused (command.Worker a) = then_start refused (action.Worker a)
core_steps lives refused (command.Member a name) = then_start refused (action.Member a name)
core_steps lives refused (command.At p c) = on_line_of p (line_steps refused c)
core_steps lives refused (command.Loaded e) = load refused e
core_steps lives refused (command.Adopt e a) = adopt refused e a
core_steps lives refused (command.Close e) = close refused e
core_steps lives refused (command.Sweep e) = sweep refused e
core_steps lives refused (command.See a) = shown_step refused (action.See a)
core_steps lives refused (command.Cast e ports body) = cast refused e ports body
core_steps lives refused (command.Event a event) = pure (event_shown event (slice_get lives a.0))

-- the lives after a new agent was asked for, and this shown
abbrev pub agent_lives : Shown → AllLives → AllLives
agent_lives (Answer (outcome.Agent a)) lives = lives ++ None ∷ []
agent_lives shown lives = lives

-- the lives after a command that showed this
abbrev pub lives_after : Command → Shown → AllLives → AllLives
lives_after (command.Agent url) shown lives = agent_lives shown lives
lives_after (command.Worker a) (Answer (outcome.End e)) lives = change_life begun a.0 lives
lives_after (command.See a) (Answer (outcome.Ending es)) lives = change_life ended a.0 lives
lives_after (command.Event a event) shown lives = change_life (happened event) a.0 lives
lives_after c shown lives = lives
