-- An end of the core as a mailbox, the mailbox of an end after a history, and in order.
use Rattle.hub_core.proofs.Mailboxes.{mailboxes_show, each_shows, goes_on, holds_kept}
use Rattle.hub_core.proofs.Headlines.{shows_in_order}
use Rattle.hub_core.proofs.laws.prove_mailboxes_show_history.Goals as goal

pub returns-clause-shown : goal.returns-clause-shown
returns-clause-shown c = mailboxes_show

pub returns-clause-shows : goal.returns-clause-shows
returns-clause-shows c = each_shows

pub returns-clause-kept : goal.returns-clause-kept
returns-clause-kept c = λ core h shows e x is. holds_kept core h shows e x is

pub returns-clause-goes_on : goal.returns-clause-goes_on
returns-clause-goes_on c = goes_on

pub returns-clause-in_order : goal.returns-clause-in_order
returns-clause-in_order c = shows_in_order
