use Rattle.std.proofs.Common.{◌≡◌, ◌*◌, List}
use Rattle.hub_bell.specs.declared.board.BoardStep.{BoardStep}
use Rattle.hub_ready.specs.Finding.{KeepsMarks, EmptiesBetween, EmptiesNamed, FindsBetween, HasStepped, MarksFound, MarksTaken}
use Rattle.hub_ready.proofs.ready.Ready.mark_rung_ends_of_group.Given as goal

abbrev pub invariant-loop-word : goal.invariant-loop-word
invariant-loop-word l = record {
  listed : l.self.listed ≡ l.fn.self.listed;
  keeps : KeepsMarks l.fn.self.marks l.self.marks;
  found : (steps : List BoardStep) × HasStepped l.initial.listener l.listener steps × FindsBetween (16 * l.group) l.word l.self.listed.items l.self.marks steps;
  only : (steps : List BoardStep) × HasStepped l.initial.listener l.listener steps × MarksFound l.fn.self.listed.items l.fn.self.marks l.self.marks steps;
  marked : (steps : List BoardStep) × HasStepped l.initial.listener l.listener steps × MarksTaken l.self.listed.items l.self.marks steps;
  emptied : (steps : List BoardStep) × HasStepped l.initial.listener l.listener steps × EmptiesBetween (16 * l.group) l.word steps × EmptiesNamed steps;
}
