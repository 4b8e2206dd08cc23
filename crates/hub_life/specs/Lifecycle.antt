-- The life of a service worker: its states, and what each event does there (W3C Service Workers, "Service Worker", "Install", "Activate").
-- The events, the count of extensions and what a termination leads to are this project's profile of that standard.
use Rattle.std.specs.Prelude.{ℕ, ◌+◌, ◌-◌, ◌||◌, Bool, true, false, Result, Ok, Err, nat_lt, if◌then◌else◌}
use Rattle.hub_life.specs.declared.life.State.{State}
use Rattle.hub_life.specs.declared.life.State.TheVariants.{Parsed, Installing, Installed, Activating, Activated, Redundant}
use Rattle.hub_life.specs.declared.life.Event.{Event}
use Rattle.hub_life.specs.declared.life.Event.TheVariants.{Install, Activate, Extend, Settle, Fail, Returned, Discard, Terminate}
use Rattle.hub_life.specs.declared.life.LifeError.{LifeError}
use Rattle.hub_life.specs.declared.life.LifeError.TheVariants.{WrongState, TooManyExtensions, NoExtension}
use Rattle.hub_envelope.specs.declared.limits.TheConstants.{MAX_EXTENSIONS}

-- where a worker stands: its state, whether the handler of its event runs, how many extensions of that event are open, and whether one has failed
pub record Progress : Type 0 where
  pub state : State
  pub handling : Bool
  pub open_extensions : ℕ
  pub failed : Bool

-- whether a state is entered with an event to handle
abbrev pub handles : State → Bool
handles Installing = true
handles Activating = true
handles Parsed = false
handles Installed = false
handles Activated = false
handles Redundant = false

-- a state just entered: installing and activating begin with the handler running, no extension open and none failed, and the other states have none of these
abbrev pub entered : State → Progress
entered state = record { state = state; handling = handles state; open_extensions = 0; failed = false }

-- a worker at first
abbrev pub start : Progress
start = entered Parsed

-- what stands in a cell of the table
pub data Cell : Type 0 where
  -- the event is refused
  wrong : Cell
  -- the state that is entered, or that stays
  to : State → Cell
  -- one more extension is open
  plus : Cell
  -- one extension less is open
  minus : Cell
  -- the handler runs no more
  done : Cell

-- a row of the table, read at the column of an event
abbrev pub cell_at : Cell → Cell → Cell → Cell → Cell → Cell → Cell → Event → Cell
cell_at install activate extend settle_or_fail returned discard terminate Install = install
cell_at install activate extend settle_or_fail returned discard terminate Activate = activate
cell_at install activate extend settle_or_fail returned discard terminate Extend = extend
cell_at install activate extend settle_or_fail returned discard terminate Settle = settle_or_fail
cell_at install activate extend settle_or_fail returned discard terminate Fail = settle_or_fail
cell_at install activate extend settle_or_fail returned discard terminate Returned = returned
cell_at install activate extend settle_or_fail returned discard terminate Discard = discard
cell_at install activate extend settle_or_fail returned discard terminate Terminate = terminate

-- the table. The cells of a row stand under: install, activate, extend, settle and fail, returned, discard, terminate
abbrev pub cell : State → Event → Cell
cell Parsed = cell_at (to Installing) wrong wrong wrong wrong wrong (to Parsed)
cell Installing = cell_at wrong wrong plus minus done wrong (to Redundant)
cell Installed = cell_at wrong (to Activating) wrong wrong wrong (to Redundant) (to Installed)
cell Activating = cell_at wrong wrong plus minus done wrong (to Activated)
cell Activated = cell_at wrong wrong wrong wrong wrong (to Redundant) (to Activated)
cell Redundant = cell_at wrong wrong wrong wrong wrong wrong (to Redundant)

-- the state after an event that is handled: a failed install makes the worker redundant, and a failed activation changes nothing
abbrev pub state_after : State → Bool → State
state_after Installing failed = if failed then Redundant else Installed
state_after Activating failed = Activated
state_after Parsed failed = Parsed
state_after Installed failed = Installed
state_after Activated failed = Activated
state_after Redundant failed = Redundant

-- as soon as the handler runs no more and no extension is open, the event is handled
abbrev pub settled : Progress → Progress
settled p = if p.handling || nat_lt 0 p.open_extensions then p else entered (state_after p.state p.failed)

-- one more extension, of which there are at most `MAX_EXTENSIONS`
abbrev pub open_more : Progress → Result Progress LifeError
open_more p = if nat_lt p.open_extensions MAX_EXTENSIONS then Ok (record p { open_extensions = p.open_extensions + 1 }) else Err TooManyExtensions

-- one extension less, failed or not
abbrev pub close_one : Progress → Bool → Result Progress LifeError
close_one p fails = if nat_lt 0 p.open_extensions then Ok (settled (record p { open_extensions = p.open_extensions - 1; failed = p.failed || fails })) else Err NoExtension

-- the handler returns, once
abbrev pub finish_handler : Progress → Result Progress LifeError
finish_handler p = if p.handling then Ok (settled (record p { handling = false })) else Err WrongState

-- whether an event is the failure of an extension
abbrev pub is_failure : Event → Bool
is_failure Fail = true
is_failure Install = false
is_failure Activate = false
is_failure Extend = false
is_failure Settle = false
is_failure Returned = false
is_failure Discard = false
is_failure Terminate = false

-- what a cell does
abbrev pub at_cell : Cell → Progress → Event → Result Progress LifeError
at_cell wrong p event = Err WrongState
at_cell (to state) p event = Ok (entered state)
at_cell plus p event = open_more p
at_cell minus p event = close_one p (is_failure event)
at_cell done p event = finish_handler p

-- how a worker answers an event: where it then stands, or the refusal
abbrev pub answer : Progress → Event → Result Progress LifeError
answer p event = at_cell (cell p.state event) p event
