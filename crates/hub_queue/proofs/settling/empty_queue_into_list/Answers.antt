use Rattle.hub_queue.proofs.Sweeps.{takes_more, still_shut, settled_now}
use Rattle.hub_queue.proofs.settling.empty_queue_into_list.Goals as goal

pub returns-in-Ok : goal.returns-in-Ok
returns-in-Ok g c =
    let did = c.in-Ok.ensures in
    let looked = c.if-not-try_collect_passes.ensures in
    let old = c.args.queue.now in
    let mid = c.try_collect_passes.new.self in (
      did.0,
      did.2,
      takes_more old mid _ did.0 looked did.1,
      still_shut old mid _ did.0 looked did.1 c.requires,
      settled_now old mid _ did.0 looked did.1 did.3,
    )
