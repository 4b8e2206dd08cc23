-- What was asked of a hub, and what it answered (this project's own).
use Rattle.hub_core.specs.Words.{List, Outcome, Step}

-- a step, and its outcome
abbrev pub Pair : Type 0
Pair = Step × Outcome

-- the pairs, oldest first. There is no state: everything else is read off this list.
abbrev pub History : Type 0
History = List (Step × Outcome)
