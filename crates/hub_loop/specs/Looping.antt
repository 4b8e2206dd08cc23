-- All that a loop has, as one value.
use Rattle.std.specs.Prelude.{◌≡◌, ◌⊎◌, ◌+◌, ℕ, Bool, List, [], ◌∷◌, Option, Some, Result, Ok, Err}
use Rattle.hub_bell.specs.Seats.{BoardSeat}
use Rattle.hub_bell.specs.declared.board.BoardStep.{BoardStep}
use Rattle.hub_clients.specs.declared.handed.HandedQueue.{HandedQueue}
use Rattle.hub_envelope.specs.declared.envelope.Envelope.{Envelope}
use Rattle.hub_envelope.specs.declared.ids.EndId.{EndId}
use Rattle.hub_life.specs.OrderSeat.{OrderSeat}
use Rattle.hub_ready.specs.Finding.{HasStepped}
use Rattle.hub_queue.specs.Counting.{Count}
use Rattle.hub_ports.specs.declared.closing.ClosedPort.{ClosedPort}
use Rattle.hub_loop.specs.declared.error.LoopError.{LoopError}
use Rattle.hub_loop.specs.declared.handler.Turn.{Turn}
use Rattle.hub_loop.specs.declared.handler.Turn.TheVariants.{Ending}
use Rattle.hub_loop.specs.Ending.{closing_ends, still_open}
use Rattle.hub_loop.specs.Noticing.{AreEnded}
use Rattle.hub_loop.specs.States.{ClosingState, DeliveryState, HoldingState}
use Rattle.hub_loop.specs.Turning.{IsDue, IsTurn, Rests, TurnState}

-- What the loop has seen of the order to end, and of the ends that rang; its handler; what it holds, with the ports that could not be adopted; the delivery that was kept and the queues that were fetched, for want of memory; and how far its end has come.
pub record LoopState (H : Type 0) : Type 0 where
  pub order : OrderSeat
  pub listener : BoardSeat
  pub handler : H
  pub holding : HoldingState
  pub kept : Option DeliveryState
  pub fetched : List HandedQueue
  pub closing : Option ClosingState

-- what the last turn of a run has come to
abbrev pub last_turn : {X : Type 0} → Result X LoopError → Result Turn LoopError
last_turn (Ok x) = Ok Ending
last_turn (Err error) = Err error

module _ {H : Type 0} where
  -- The loop took up what is due: what it stepped through at its listener may have told it which ends were rung.
  abbrev pub TakesUp : LoopState H → LoopState H → Count → Count → Result DeliveryState Bool → Type 0
  TakesUp old new before after due =
      (looks : List BoardStep) × HasStepped old.listener new.listener looks
      × IsDue old.kept old.holding new.holding looks before after due

  -- what a turn of the loop is given, after so many pops, or leaves
  abbrev pub turn_state : LoopState H → Count → TurnState H
  turn_state l pops = record { holding = l.holding; kept = l.kept; handler = l.handler; pops = pops }

  -- The loop made a turn.
  abbrev pub MakesTurn : {E : Type 0} → (H → Envelope → List EndId → H → Type 0) → (H → Envelope → List EndId → H → Type 0) → LoopState H → LoopState H → Count → Count → Result Turn E → Type 0
  MakesTurn leaves refuses old new before after result =
      (looks : List BoardStep) × HasStepped old.listener new.listener looks
      × IsTurn leaves refuses (turn_state old before) (turn_state new after) looks result

  -- The loop rested after a turn.
  abbrev pub HasRested : Turn → LoopState H → LoopState H → Type 0
  HasRested turn old new = Rests turn old.listener.at new.listener.at × (new ≡ record old { listener = new.listener })

  module _ (leaves refuses : H → Envelope → List EndId → H → Type 0) where
    -- The loop looked once for the order to end, and made a turn.
    abbrev pub TurnsOnce : LoopState H → LoopState H → Result Turn LoopError → Type 0
    TurnsOnce old new result =
        (before : Count) × (after : Count) × (new.order.looks ≡ old.order.looks + 1) × MakesTurn leaves refuses old new before after result

    -- The loop made these turns, and rested after each.
    abbrev pub HasTurned : List Turn → LoopState H → LoopState H → Type 0
    HasTurned [] old new = new ≡ old
    HasTurned (turn ∷ turns) old new =
        (turned : LoopState H) × (rested : LoopState H) × TurnsOnce old turned (Ok turn) × HasRested turn turned rested × HasTurned turns rested new

    -- The loop made turns, and rested after each, up to one that found the order to end, or failed.
    abbrev pub Runs : {X : Type 0} → LoopState H → LoopState H → Result X LoopError → Type 0
    Runs old new result = (turns : List Turn) × (last : LoopState H) × HasTurned turns old last × TurnsOnce last new (last_turn result)

  -- All else is as it was: what was fetched, and how far the end of the loop has come.
  abbrev pub SameButTurn : LoopState H → LoopState H → Type 0
  SameButTurn old new =
      new ≡ record old { order = new.order; listener = new.listener; handler = new.handler; holding = new.holding; kept = new.kept }

  abbrev pub SameButTaken : LoopState H → LoopState H → Type 0
  SameButTaken old new = new ≡ record old { listener = new.listener; holding = new.holding; kept = new.kept }

  -- Only the ends and lines that are held have changed, with their marks and the key with which the next asking begins.
  abbrev pub SameButEnds : LoopState H → LoopState H → Type 0
  SameButEnds old new = new ≡ record old { holding = record old.holding { ends = new.holding.ends } }

  abbrev pub SameButFetched : LoopState H → LoopState H → Type 0
  SameButFetched old new = new ≡ record old { holding = new.holding; fetched = new.fetched }

  -- The loop has ended: these are the numbers of what was swept, and this is told of the ports.
  abbrev pub HasEnded : LoopState H → List ℕ → List ClosedPort → Type 0
  HasEnded l numbers told =
      AreEnded l.closing l.holding.closed.graves (still_open l.holding.ends.held l.fetched l.kept) numbers l.holding.closed.noticed told

  -- After want of memory: the loop is as it was, or it has ended so far.
  abbrev pub HasPaused : LoopState H → LoopState H → Type 0
  HasPaused old new = (new ≡ old) ⊎ ((begun : ClosingState) × (new.closing ≡ Some begun) × HasEnded old (closing_ends begun) begun.noticed)
