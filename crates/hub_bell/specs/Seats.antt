-- A listener and a bell, as callers see them.
use Rattle.std.specs.Prelude.{ℕ, List, []}
use Rattle.atomic_table.specs.Seated.{TableId}
use Rattle.hub_bell.specs.declared.board.BoardStep.{BoardStep}
use Rattle.hub_bell.specs.declared.bell.WakeView.{WakeView}

-- what a listener or a bell has done: its steps at the board, in order, how often it has slept, and how often it has woken the listener
pub record Done : Type 0 where
  pub steps : List BoardStep
  pub sleeps : ℕ
  pub wakes : ℕ

-- a board: its words, and who sleeps at it and is woken
pub record BoardId : Type 0 where
  pub words : TableId
  pub sleeper : TableId

-- at which board it is, and what it has done
pub record BoardSeat : Type 0 where
  pub board : BoardId
  pub at : Done

-- the board that has these words and this sleeper
abbrev pub board_id : TableId → TableId → BoardId
board_id words sleeper = record { words = words; sleeper = sleeper }

-- it has neither slept nor woken anybody
abbrev pub rested : WakeView
rested = record { sleeps = 0; wakes = 0 }

-- it has done nothing yet
abbrev pub silent : Done
silent = record { steps = []; sleeps = 0; wakes = 0 }

-- a seat at a board that has done nothing yet
abbrev pub new_at : BoardId → BoardSeat
new_at board = record { board = board; at = silent }

-- the seat at a board that has made these steps, and knows this of sleeping and waking
abbrev pub board_seat : BoardId → List BoardStep → WakeView → BoardSeat
board_seat board steps view = record { board = board; at = record { steps = steps; sleeps = view.sleeps; wakes = view.wakes } }
