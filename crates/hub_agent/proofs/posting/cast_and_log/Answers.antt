use Rattle.std.proofs.Common.{refl}
use Rattle.hub_agent.proofs.Walking.{cast_of}
use Rattle.hub_agent.proofs.posting.cast_and_log.Goals as goal

pub returns-in-Ok-clause-written : goal.returns-in-Ok-clause-written
returns-in-Ok-clause-written g c =
    cast_of c.log_accepted_posts_of_cast.result c.args.source.now (record { 0 = c.args.source.now.taker.end }) c.args.body.now _ c.deref.result.now c.args.scribe.now c.args.scribe.now c.log_accepted_posts_of_cast.new.scribe refl c.in-Ok.ensures.destinations c.deref.ensures.value refl c.log_accepted_posts_of_cast.ensures
