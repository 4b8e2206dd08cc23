use Rattle.std.proofs.Common.{sym, subst, ◌∙◌, None}
use Rattle.hub_queue.specs.Mailboxes.{IsOpenMailbox}
use Rattle.hub_queue.proofs.Seating.{mailbox_opened}
use Rattle.hub_queue.proofs.mailbox.Mailbox.open.Goals as goal

pub returns : goal.returns
returns c = subst (λ l. IsOpenMailbox c.args.end c.args.lines (record { end = c.args.end.0; epoch = 0; retired = l; newest = c.in_ok-newest.newest; left = None }) c.in_ok-posters.posters.items) (sym c.new.ensures.items) (mailbox_opened _ _ _ _ _ c.in_ok-newest.ensures (c.in_ok-posters.ensures ∙ c.in_ok-onwards.ensures))
