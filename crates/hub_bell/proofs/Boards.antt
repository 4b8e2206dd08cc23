-- Any step may be made on a board's word, since nothing has to hold of it.
use Rattle.std.proofs.Common.{ℕ, List, [], ◌∷◌, ◌++◌, refl, bit_or}
use Rattle.std.specs.Prelude.{slice_index}
use mathlib.Core.Option.{none}
use Rattle.atomic_table.specs.Table.{State, Me, step, keeps, Allows}
use Rattle.hub_bell.specs.declared.board.BoardStep.{BoardStep}
use Rattle.hub_bell.specs.declared.board.BoardStep.TheVariants.{Looked, Set, Took, Stored}
use Rattle.hub_bell.specs.BoardSteps.{Looks, Sets, Takes, Stores}

abbrev Own : Type 0
Own = Me (Unit {0}) (List BoardStep)

abbrev Any : State (Unit {0}) (List BoardStep) → Type 0
Any s = Unit {0}

pub may_look : (slots id : ℕ) (me : Own) (word : ℕ) → Allows Any slots id me word (λ n. n) (Looks (step slots word 0 0 none) me)
may_look slots id me word s kept fits at small = (me.0 ++ Looked word (slice_index s.words word) ∷ [], keeps, tt, tt, refl)

pub may_set : (slots id : ℕ) (me : Own) (word mask : ℕ) → Allows Any slots id me word (λ n. bit_or n mask) (Sets (step slots word mask 0 none) me)
may_set slots id me word mask s kept fits at small = (me.0 ++ Set word mask ∷ [], keeps, tt, tt, refl)

pub may_take : (slots id : ℕ) (me : Own) (word : ℕ) → Allows Any slots id me word (λ _. 0) (Takes (step slots word 0 0 none) me)
may_take slots id me word s kept fits at small = (me.0 ++ Took word (slice_index s.words word) ∷ [], keeps, tt, tt, refl)

pub may_store : (slots id : ℕ) (me : Own) (word new : ℕ) → Allows Any slots id me word (λ _. new) (λ _. Stores (step slots word new 0 none) me new)
may_store slots id me word new s kept fits at small = (me.0 ++ Stored word new ∷ [], keeps, tt, tt, refl)
