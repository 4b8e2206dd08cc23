-- What each step on a board's word tells the seat that makes it.
use Rattle.std.specs.Prelude.{◌≡◌, ℕ, List, [], ◌∷◌, ◌++◌}
use Rattle.atomic_table.specs.Table.{Me, Step}
use Rattle.hub_bell.specs.declared.board.BoardStep.{BoardStep}
use Rattle.hub_bell.specs.declared.board.BoardStep.TheVariants as step

abbrev pub Tells : Type 1
Tells = Step (Unit {0}) → Me (Unit {0}) (List BoardStep) → ℕ → Me (Unit {0}) (List BoardStep) → Type 0

abbrev pub Looks : Tells
Looks s before found after = after ≡ (before.0 ++ step.Looked s.word found ∷ [], before.1)

abbrev pub Sets : Tells
Sets s before found after = after ≡ (before.0 ++ step.Set s.word s.first ∷ [], before.1)

abbrev pub Takes : Tells
Takes s before found after = after ≡ (before.0 ++ step.Took s.word found ∷ [], before.1)

abbrev pub Stores : Tells
Stores s before found after = after ≡ (before.0 ++ step.Stored s.word found ∷ [], before.1)
