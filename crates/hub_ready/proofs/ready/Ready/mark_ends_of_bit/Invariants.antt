use Rattle.std.proofs.Common.{◌≡◌, ◌<◌, ◌/◌, ◌%◌, ℕ}
use Rattle.hub_envelope.specs.declared.ids.EndId.{EndId}
use Rattle.hub_ready.specs.Finding.{KeepsMarks, LeadsTo, MarksOfBit}
use Rattle.hub_ready.specs.Marking.{mark_of, HasBit}
use Rattle.hub_ready.proofs.ready.Ready.mark_ends_of_bit.Given as goal

abbrev pub invariant-loop-row : goal.invariant-loop-row
invariant-loop-row l = record {
  listed : l.self.listed ≡ l.fn.self.listed;
  keeps : KeepsMarks l.fn.self.marks l.self.marks;
  found : (end : EndId) (key : ℕ) → end.0 % 65536 ≡ l.bit → end.0 / 65536 < l.row → LeadsTo l.self.listed.items end key → HasBit l.self.marks key → mark_of l.self.marks key ≡ 1;
  only : MarksOfBit l.bit l.fn.self.listed.items l.fn.self.marks l.self.marks;
}
