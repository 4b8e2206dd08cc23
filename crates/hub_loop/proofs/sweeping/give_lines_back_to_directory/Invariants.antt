use Rattle.std.specs.Prelude.{vec_len}
use Rattle.hub_loop.proofs.sweeping.give_lines_back_to_directory.Given as goal

abbrev pub decreases-loop-poster : goal.decreases-loop-poster
decreases-loop-poster g l = vec_len l.lines
