use lib.Utf8.{encode}
use Rattle.hub_steps.proofs.Marks.{no_mark}
use Rattle.hub_steps.proofs.read_step_line.split_off_mark.Goals as goal

pub returns-in-None : goal.returns-in-None
unfolding encode
returns-in-None c = no_mark c.args.text.now c.in-None.ensures.cases
