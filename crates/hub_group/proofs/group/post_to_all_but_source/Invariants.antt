use Rattle.hub_group.proofs.Members.{CastsBelow}
use Rattle.hub_group.proofs.group.post_to_all_but_source.Given as goal

abbrev pub invariant-loop-place : goal.invariant-loop-place
invariant-loop-place g l = CastsBelow l.message l.source l.place l.fn.members l.members l.fn.answers l.answers
