use Rattle.std.proofs.Common.{◌≡◌, ◌<◌, ◌+◌, ◌*◌, ℕ, List}
use Rattle.std.specs.Int.{bit_at}
use Rattle.hub_bell.specs.declared.board.BoardStep.{BoardStep}
use Rattle.hub_ready.specs.Finding.{KeepsMarks, EmptiesBetween, EmptiesNamed, FindsBetween, HasStepped, MarksFound, MarksTaken}
use Rattle.hub_ready.proofs.ready.Ready.mark_rung_ends.Given as goal

abbrev pub invariant-groups : goal.invariant-groups
invariant-groups l = record {
  listed : l.self.listed ≡ l.fn.self.listed;
  keeps : KeepsMarks l.fn.self.marks l.self.marks;
  found : (steps : List BoardStep) × HasStepped l.initial.listener l.listener steps × ((group : ℕ) → group < 64 → bit_at l.names group ≡ 1 → (bit_at l.left group ≡ 1 → ⊥) → FindsBetween (16 * group) (16 * group + 16) l.self.listed.items l.self.marks steps);
  only : (steps : List BoardStep) × HasStepped l.initial.listener l.listener steps × MarksFound l.fn.self.listed.items l.fn.self.marks l.self.marks steps;
  marked : (steps : List BoardStep) × HasStepped l.initial.listener l.listener steps × MarksTaken l.self.listed.items l.self.marks steps;
  emptied : (steps : List BoardStep) × HasStepped l.initial.listener l.listener steps × ((group : ℕ) → group < 64 → bit_at l.names group ≡ 1 → (bit_at l.left group ≡ 1 → ⊥) → EmptiesBetween (16 * group) (16 * group + 16) steps) × EmptiesNamed steps;
}

abbrev pub decreases-groups : goal.decreases-groups
decreases-groups l = l.left
