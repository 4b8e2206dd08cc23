use Rattle.hub_line.specs.Ends.{SamePoster}
use Rattle.hub_line_tests.proofs.lines.posts.Given as goal

abbrev pub invariant-loop-n : goal.invariant-loop-n
invariant-loop-n l = SamePoster l.initial.poster l.poster
