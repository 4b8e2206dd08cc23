use Rattle.std.proofs.Common.{arith}
use Rattle.hub_group.proofs.Members.{casts_more}
use Rattle.hub_group.proofs.group.post_to_all_but_source.Goals as goal

pub loop-place-preserved : goal.loop-place-preserved
loop-place-preserved g c =
    casts_more c.args.message.now c.args.source c.loop-place.place c.args.members.now c.loop-place.members c.args.answers.now c.loop-place.answers c.index-members-place.result c.post_unless_source.new.self c.post_unless_source.result
    (omega (arith, c.loop-place-test.true, c.loop-place.auto.members)) (omega (arith, c.loop-place-test.true, c.requires, c.loop-place.auto.answers)) c.post_unless_source.ensures c.loop-place.invariant
