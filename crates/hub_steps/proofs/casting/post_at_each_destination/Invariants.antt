use Rattle.hub_steps.proofs.Computing.{CastFirst}
use Rattle.hub_steps.proofs.casting.post_at_each_destination.Given as goal

-- what is posted from here on comes behind what was posted
abbrev pub invariant-loop-end : goal.invariant-loop-end
invariant-loop-end l = CastFirst l.fn.core l.core l.end-index l.memory_refused l.body l.ends l.posts.items
