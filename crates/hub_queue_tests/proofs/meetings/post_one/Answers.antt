use Rattle.std.proofs.Common.{Ok, subst}
use Rattle.hub_queue.proofs.Together.{post_keeps}
use Rattle.hub_test_parts.specs.Parts.{IsTextPosted}
use Rattle.hub_queue_tests.proofs.meetings.post_one.Goals as goal

pub returns : goal.returns
returns g c =
    let told = subst (IsTextPosted c.args.poster.now c.post.new.poster _) c.in-Some-Ok.field-0-is c.in-Some-Ok.ensures in
    post_keeps _ _ _ told.0 (Ok told.1) told.3 c.requires
