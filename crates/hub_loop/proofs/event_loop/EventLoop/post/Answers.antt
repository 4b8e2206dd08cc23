use Rattle.std.proofs.Common.{IfNone, IfSome, subst}
use Rattle.hub_loop.specs.Looking.{LacksWay}
use Rattle.hub_loop.specs.Posting.{PostsThrough}
use Rattle.hub_ports.specs.Refusing.{answer_with, carried_body}
use Rattle.hub_loop.proofs.event_loop.EventLoop.post.Goals as goal

pub returns-clause-missing : goal.returns-clause-missing
returns-clause-missing g c = subst (λ l. IfNone c.post.result (LacksWay c.args.way l.holding.ends.held)) c.self.view_is c.post.ensures.missing

pub returns-clause-posted : goal.returns-clause-posted
returns-clause-posted g c = subst (λ l. IfSome c.post.result (λ answer. PostsThrough c.args.agent (carried_body c.args.parcel.now) c.args.parcel.now.ports.items c.args.way l.holding.ends.held c.post.new.self.held (answer_with answer c.post.new.parcel c.post.new.closings))) c.self.view_is c.post.ensures.posted
