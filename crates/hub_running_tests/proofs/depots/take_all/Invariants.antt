use Rattle.std.specs.FinMap.{len}
use Rattle.hub_running_tests.proofs.depots.take_all.Given as goal

abbrev pub decreases-loop-passport : goal.decreases-loop-passport
decreases-loop-passport l = len l.kept
