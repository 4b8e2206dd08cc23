-- The lives of worker agents (W3C Service Workers, "Service Worker"). An agent that makes a worker's queue has one life
-- from then on, for good.
use Rattle.std.specs.Prelude.{ℕ, true, false, List, Option, Some, None, Result, Ok, Err, option_map, slice_get, slice_set, if◌then◌else◌}
use Rattle.hub_life.specs.declared.life.Event.{Event}
use Rattle.hub_life.specs.declared.life.Event.TheVariants.{Terminate}
use Rattle.hub_life.specs.declared.life.LifeError.{LifeError}
use Rattle.hub_life.specs.Lifecycle.{Progress, start, answer}
use Rattle.hub_life.specs.Course.{after}
use Rattle.hub_core.specs.declared.step.Outcome.TheVariants as outcome
use Rattle.hub_steps.specs.declared.shown.Shown.{Shown}
use Rattle.hub_steps.specs.declared.shown.Shown.TheVariants.{Answer, State, Refused}
use Rattle.hub_steps.specs.declared.lives.WorkerLife.{WorkerLife}

-- of each agent, by its number, the life that it has
abbrev pub AllLives : Type 0
AllLives = List (Option WorkerLife)

abbrev pub set_life : ℕ → AllLives → Option (Option WorkerLife) → AllLives
set_life a lives None = lives
set_life a lives (Some x) = slice_set lives a x

-- the lives, that of one agent changed
abbrev pub change_life : (Option WorkerLife → Option WorkerLife) → ℕ → AllLives → AllLives
change_life change a lives = set_life a lives (option_map change (slice_get lives a))

-- the life of an agent that made a worker's queue: the one that it has, or else a new one
abbrev pub begun : Option WorkerLife → Option WorkerLife
begun None = Some (record { life = start; has_ended = false })
begun (Some x) = Some x

-- the first time that the agent is found ending its life is terminated
abbrev pub ended : Option WorkerLife → Option WorkerLife
ended None = None
ended (Some x) = Some (if x.has_ended then x else record { life = after x.life Terminate; has_ended = true })

-- an event that is refused changes nothing
abbrev pub happened : Event → Option WorkerLife → Option WorkerLife
happened event None = None
happened event (Some x) = Some (record x { life = after x.life event })

abbrev pub answer_shown : Result Progress LifeError → Shown
answer_shown (Ok p) = State p.state
answer_shown (Err e) = Refused e

abbrev pub event_shown : Event → Option (Option WorkerLife) → Shown
event_shown event None = Answer outcome.NotNow
event_shown event (Some None) = Answer outcome.NotNow
event_shown event (Some (Some x)) = answer_shown (answer x.life event)
