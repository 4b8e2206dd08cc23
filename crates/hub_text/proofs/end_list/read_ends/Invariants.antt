use Rattle.std.proofs.Common.{length}
use Rattle.hub_text.proofs.EndLists.{ReadSoFar}
use Rattle.hub_text.proofs.end_list.read_ends.Given as goal

-- what was read so far, and what is read of the words that are left, is what is read of all
abbrev pub invariant-loop-number : goal.invariant-loop-number
invariant-loop-number l = ReadSoFar l.fn.max l.fn.word l.ends (length l.yielded)
