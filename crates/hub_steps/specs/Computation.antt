-- Computations with the core: steps taken one after the other, and what comes of them.
use Rattle.std.specs.Prelude.{◌≡◌, Bool, [], ◌∷◌, ◌++◌}
use Rattle.hub_core.specs.declared.step.Action.{Action}
use Rattle.hub_core.specs.declared.step.Outcome.{Outcome}
use Rattle.hub_core.specs.History.{Pair, History}
use Rattle.hub_core.specs.Facts.{Facts, facts}

pub data Computation (X : Type 0) : Type 0 where
  -- no step, and this value
  pure : X → Computation X
  -- no step, and then what follows on the facts of the history so far
  ask_then : (Facts → Computation X) → Computation X
  -- one step, with memory refused in it or not, and then what follows on its outcome
  step_then : Bool → Action → (Outcome → Computation X) → Computation X

-- what the core is asked, read off the history so far
abbrev pub ask : {X : Type 0} → (Facts → X) → Computation X
ask f = ask_then (λ now. pure (f now))

-- one step, and its outcome
abbrev pub step : Bool → Action → Computation Outcome
step refused a = step_then refused a (λ o. pure o)

infixl 10 ◌>>=◌
-- the first, and then the one that follows on its value
abbrev pub ◌>>=◌ : {X Y : Type 0} → Computation X → (X → Computation Y) → Computation Y
(pure x) >>= next = next x
(ask_then on) >>= next = ask_then (λ now. on now >>= next)
(step_then refused a on) >>= next = step_then refused a (λ o. on o >>= next)

abbrev pub pair : Bool → Action → Outcome → Pair
pair refused a o = (record { action = a; memory_refused = refused }, o)

-- Run after a history, a computation may add these pairs and give this value.
abbrev pub MayGive : {X : Type 0} → Computation X → History → History → X → Type 0
MayGive (pure x) past more y = (more ≡ []) × (y ≡ x)
MayGive (ask_then on) past more y = MayGive (on (facts past)) past more y
MayGive (step_then refused a on) past more y = (o : Outcome) × (rest : History) × (more ≡ pair refused a o ∷ rest) × MayGive (on o) (past ++ pair refused a o ∷ []) rest y
