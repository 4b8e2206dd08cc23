use Rattle.std.proofs.Common.{◌<◌, ◌≤◌, ◌*◌, ◌+◌}
use Rattle.hub_ready.specs.Marking.{ClearBetween}
use Rattle.hub_ready.proofs.marks.first_set_bit_in_words.Given as goal

abbrev pub invariant-loop-place : goal.invariant-loop-place
invariant-loop-place l = record {
  bit : l.bit < 64;
  at : l.fn.from ≤ l.place * 64 + l.bit;
  clear : ClearBetween l.words l.fn.from (l.place * 64 + l.bit);
}
