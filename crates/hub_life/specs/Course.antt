-- The course of a worker's life: what any events leave.
use Rattle.std.specs.Prelude.{◌≡◌, ℕ, ◌≤◌, ◌||◌, Bool, false, List, [], ◌∷◌, nat_lt}
use Rattle.std.specs.Result.{result_unwrap_or}
use Rattle.hub_life.specs.declared.life.State.{State}
use Rattle.hub_life.specs.declared.life.State.TheVariants.{Parsed, Installing, Installed, Activating, Activated, Redundant}
use Rattle.hub_life.specs.declared.life.Event.{Event}
use Rattle.hub_envelope.specs.declared.limits.TheConstants.{MAX_EXTENSIONS}
use Rattle.hub_life.specs.Lifecycle.{Progress, handles, entered, answer}

-- where a worker stands after an event, which changes nothing where it is refused
abbrev pub after : Progress → Event → Progress
after p event = result_unwrap_or (answer p event) p

-- where a worker stands after these events
abbrev pub after_all : Progress → List Event → Progress
after_all p [] = p
after_all p (event ∷ events) = after_all (after p event) events

-- how far a state is on the way from parsed to redundant
abbrev pub stage_of : State → ℕ
stage_of Parsed = 0
stage_of Installing = 1
stage_of Installed = 2
stage_of Activating = 3
stage_of Activated = 4
stage_of Redundant = 5

-- whether a worker waits for its handler or for an extension
abbrev pub is_waiting : Progress → Bool
is_waiting p = p.handling || nat_lt 0 p.open_extensions

-- a worker waits exactly while it is installing or activating, for at most `MAX_EXTENSIONS` extensions, and else keeps nothing of its events
pub record IsSound (p : Progress) : Type 0 where
  pub waits : is_waiting p ≡ handles p.state
  pub limit : p.open_extensions ≤ MAX_EXTENSIONS
  pub over : handles p.state ≡ false → p ≡ entered p.state
