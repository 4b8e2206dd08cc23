-- Each pair of a history is events of the mailbox.
use Rattle.hub_core.proofs.Mailboxes.{pairs_are_events}
use Rattle.hub_core.proofs.laws.prove_steps_are_mailbox_events.Goals as goal

pub returns : goal.returns
returns c = pairs_are_events
