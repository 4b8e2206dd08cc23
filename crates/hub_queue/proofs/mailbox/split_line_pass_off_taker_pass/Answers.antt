use Rattle.hub_queue.specs.Seats.{take_in}
use Rattle.hub_queue.proofs.NewTakerQueues.{name_as}
use Rattle.hub_queue.proofs.Rule.{cuts_at}
use Rattle.hub_queue.proofs.mailbox.split_line_pass_off_taker_pass.Goals as goal

pub another-requires-clause-rule : goal.another-requires-clause-rule
another-requires-clause-rule g c = cuts_at _ _ _ _ _ c.requires.taker (name_as _ _ _ _ (take_in c.args.pass.now.me.view.client) c.requires.name.0 c.requires.name.1 c.requires.named)
