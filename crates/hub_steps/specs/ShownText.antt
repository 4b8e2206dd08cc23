-- The outcome lines that step lines are answered with.
use Rattle.std.specs.Prelude.{ℕ, List, [], ◌∷◌, ◌++◌, codes}
use Rattle.hub_steps.specs.declared.shown.Shown.{Shown}
use Rattle.hub_steps.specs.declared.shown.Shown.TheVariants.{Answer, Moving, Doomed, DoneNoMemory, DoneMoving, BadUrl, OpaqueOrigin, Cast, State, Refused}
use Rattle.hub_steps.specs.declared.shown.CastPost.{CastPost}
use Rattle.hub_core.specs.declared.step.Outcome.{Outcome}
use Rattle.hub_core.specs.declared.step.Outcome.TheVariants as outcome
use Rattle.std.specs.List.{flat_map}
use Rattle.std.specs.Fmt.{decimal}
use Rattle.hub_steps.specs.OutcomeText.{outcome_line}
use Rattle.hub_life.specs.declared.life.State as life
use Rattle.hub_life.specs.declared.life.State.TheVariants as state
use Rattle.hub_life.specs.declared.life.LifeError.{LifeError}
use Rattle.hub_life.specs.declared.life.LifeError.TheVariants.{WrongState, TooManyExtensions, NoExtension}

abbrev pub state_text : life.State → List ℕ
state_text state.Parsed = codes "parsed"
state_text state.Installing = codes "installing"
state_text state.Installed = codes "installed"
state_text state.Activating = codes "activating"
state_text state.Activated = codes "activated"
state_text state.Redundant = codes "redundant"

-- the outcome line of an event that a life refused
abbrev pub refused_line : LifeError → List ℕ
refused_line WrongState = codes "wrong-state\n"
refused_line TooManyExtensions = codes "too-many-extensions\n"
refused_line NoExtension = codes "no-extension\n"

-- what was answered at a destination of a cast
abbrev pub answer_text : Outcome → List ℕ
answer_text (outcome.Accepted name) = codes " accepted " ++ decimal name.epoch ++ codes ":" ++ decimal name.number
answer_text outcome.NoMemory = codes " no-memory"
answer_text outcome.Closed = codes " closed"
answer_text _ = codes " not-now"

-- a space, the number of a destination, and what was answered there
abbrev pub post_text : CastPost → List ℕ
post_text p = codes " " ++ decimal p.end.0 ++ answer_text p.outcome

abbrev pub posts_text : List CastPost → List ℕ
posts_text ps = flat_map post_text ps

abbrev pub cast_line : List CastPost → List ℕ
cast_line [] = codes "cast nobody\n"
cast_line (p ∷ ps) = codes "cast" ++ posts_text (p ∷ ps) ++ codes "\n"

-- the line of what is shown, with its LF
unfoldable pub shown_line : Shown → List ℕ
shown_line (Answer o) = outcome_line o
shown_line Moving = codes "moving\n"
shown_line Doomed = codes "doomed\n"
shown_line DoneNoMemory = codes "done no-memory\n"
shown_line DoneMoving = codes "done moving\n"
shown_line BadUrl = codes "bad-url\n"
shown_line OpaqueOrigin = codes "opaque-origin\n"
shown_line (Cast posts) = cast_line posts
shown_line (State s) = codes "state " ++ state_text s ++ codes "\n"
shown_line (Refused e) = refused_line e
