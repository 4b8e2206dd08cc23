-- The laws of mailboxes.
use Rattle.hub_core.proofs.MailboxStepping.{chain_laws}
use Rattle.hub_core.proofs.laws.prove_mailbox_chain_laws.Goals as goal

pub returns : goal.returns
returns g c = chain_laws
