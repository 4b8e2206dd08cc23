-- Each arm: what the family did to the core is what the facts say.
use Rattle.hub_core.proofs.Casts.{cast_fits, cast_changes}
use Rattle.std.proofs.Common.{refl, ap, ◌∙◌, subst, sym}
use Rattle.hub_core.proofs.Words.{FitsSweep, Client, Worker}
use Rattle.hub_core.specs.Posting.{enter_answer, leave_answer}
use Rattle.hub_core.specs.Legal.{agent_answer, back_answer, channel_answer, order_answer}
use Rattle.hub_core.specs.Taking.{adopt_answer, close_answer, hand_answer, hop_answer, start_answer}
use Rattle.hub_core.specs.declared.step.Action.TheVariants as action
use Rattle.hub_core.proofs.Took.{client_core, worker_core, same_content, took_where, took_by, told, told_or, member_took, part_took}
use Rattle.hub_core.proofs.EndSteps.{agent_changes, channel_changes, queue_answered, client_changes, worker_changes, adopt_changes, close_changes, hand_changes, hop_changes}
use Rattle.hub_core.proofs.LineSteps.{back_changes, enter_changes, leave_changes, line_changes, line_fits, order_changes, see_changes, see_fits, notice_changes, notice_fits, push_changes, push_fits}
use Rattle.hub_core.proofs.Emptying.{look_changes, look_fits, start_changes, sweep_changes, sweep_fits, take_changes, take_fits}
use Rattle.hub_core.proofs.Seeing.{seen_is}
use Rattle.hub_core.proofs.machine.Core.act.Goals as goal

pub returns-in-Agent : goal.returns-in-Agent
returns-in-Agent c = told_or c.args.step (action.Agent c.in-Agent.origin) _ _ _ c.in-Agent.is refl c.make_agent.ensures (same_content _ _) (λ o p. took_where _ _ c.args.self.now _ _ p.1 (λ f s. p.0 ∙ ap (λ g. agent_answer g c.args.step.memory_refused) (seen_is s)) (λ f. agent_changes c.in-Agent.origin _))

pub returns-in-Member : goal.returns-in-Member
returns-in-Member c = told_or c.args.step (action.Member c.in-Member.agent c.in-Member.name) _ _ _ c.in-Member.is refl c.make_member.ensures (λ same. same) (λ o p. member_took c.in-Member.agent c.in-Member.name c.args.step.memory_refused _ _ o p.0 p.1 p.2)

pub returns-in-Cast : goal.returns-in-Cast
returns-in-Cast c = told_or c.args.step (action.Cast c.in-Cast.end c.in-Cast.ports c.in-Cast.body) _ _ _ c.in-Cast.is refl c.begin_cast.ensures (same_content _ _) (λ o p. took_where _ _ c.args.self.now _ _ p.1 (λ f s. p.0 ∙ cast_fits c.in-Cast.end c.in-Cast.ports s) (λ f. cast_changes c.in-Cast.end c.in-Cast.ports c.in-Cast.body _))

pub returns-in-Part : goal.returns-in-Part
returns-in-Part c = told c.args.step (action.Part c.in-Part.end) _ _ _ c.in-Part.is (part_took c.in-Part.end c.args.step.memory_refused _ _ _ c.take_member_out_of_roster.ensures.0 c.take_member_out_of_roster.ensures.1 c.take_member_out_of_roster.ensures.2)

pub returns-in-Leave : goal.returns-in-Leave
returns-in-Leave c = told c.args.step (action.Leave c.in-Leave.sender) _ _ _ c.in-Leave.is (took_where _ _ c.args.self.now _ _ c.let_poster_leave_queue.ensures.1 (λ f s. c.let_poster_leave_queue.ensures.0 ∙ ap (λ g. leave_answer g c.in-Leave.sender) (seen_is s)) (λ f. leave_changes c.in-Leave.sender _))

pub returns-in-Channel : goal.returns-in-Channel
returns-in-Channel c = told_or c.args.step (action.Channel c.in-Channel.agent) _ _ _ c.in-Channel.is refl c.make_channel.ensures (same_content _ _) (λ o p. took_by _ _ c.args.self.now _ _ p.1 refl (λ f s. p.0 ∙ ap (λ g. channel_answer g c.in-Channel.agent c.args.step.memory_refused) (seen_is s)) (λ f. channel_changes c.in-Channel.agent _))

pub returns-in-Client : goal.returns-in-Client
returns-in-Client c = told_or c.args.step (action.Client c.in-Client.agent) _ _ _ c.in-Client.is refl c.make_queue.ensures (same_content _ _) (λ o p. took_by _ _ c.args.self.now _ _ (p.1 ∙ client_core c.in-Client.agent c.args.self.now o) refl (λ f s. p.0 ∙ queue_answered Client c.in-Client.agent _ s) (λ f. client_changes c.in-Client.agent _))

pub returns-in-Worker : goal.returns-in-Worker
returns-in-Worker c = told_or c.args.step (action.Worker c.in-Worker.agent) _ _ _ c.in-Worker.is refl c.make_queue-in-Worker.ensures (same_content _ _) (λ o p. took_by _ _ c.args.self.now _ _ (p.1 ∙ worker_core c.in-Worker.agent c.args.self.now o) refl (λ f s. p.0 ∙ queue_answered Worker c.in-Worker.agent _ s) (λ f. worker_changes c.in-Worker.agent _))

pub returns-in-Line : goal.returns-in-Line
returns-in-Line c = told c.args.step (action.Line c.in-Line.end c.in-Line.agent) _ _ _ c.in-Line.is (took_by _ _ c.args.self.now _ _ c.hold_free_line_of_queue.ensures.1 refl (λ f s. c.hold_free_line_of_queue.ensures.0 ∙ line_fits c.in-Line.end c.in-Line.agent s) (λ f. line_changes c.in-Line.end c.in-Line.agent _))

pub returns-in-Back : goal.returns-in-Back
returns-in-Back c = told c.args.step (action.Back c.in-Back.sender) _ _ _ c.in-Back.is (took_by _ _ c.args.self.now _ _ c.release_line.ensures.1 refl (λ f s. c.release_line.ensures.0 ∙ ap (λ g. back_answer g c.in-Back.sender) (seen_is s)) (λ f. back_changes c.in-Back.sender _))

pub returns-in-Hop : goal.returns-in-Hop
returns-in-Hop c = told c.args.step (action.Hop c.in-Hop.sender) _ _ _ c.in-Hop.is (took_by _ _ c.args.self.now _ _ c.move_line_to_next_queue.ensures.1 refl (λ f s. c.move_line_to_next_queue.ensures.0 ∙ ap (λ g. hop_answer g c.in-Hop.sender) (seen_is s)) (λ f. hop_changes c.in-Hop.sender _))

pub returns-in-Start : goal.returns-in-Start
returns-in-Start c = told c.args.step (action.Start c.in-Start.end) _ _ _ c.in-Start.is (took_by _ _ c.args.self.now _ _ c.start.ensures.1 refl (λ f s. c.start.ensures.0 ∙ ap (λ g. start_answer g c.in-Start.end) (seen_is s)) (λ f. start_changes c.in-Start.end _))

pub returns-in-Look : goal.returns-in-Look
returns-in-Look c = told c.args.step (action.Look c.in-Look.end) _ _ _ c.in-Look.is (took_by _ _ c.args.self.now _ _ c.mark_queue_clear_if_free_of_posters.ensures.1 refl (λ f s. c.mark_queue_clear_if_free_of_posters.ensures.0 ∙ look_fits c.in-Look.end s) (λ f. look_changes c.in-Look.end _))

pub returns-in-Order : goal.returns-in-Order
returns-in-Order c = told c.args.step (action.Order c.in-Order.agent) _ _ _ c.in-Order.is (took_by _ _ c.args.self.now _ _ c.request_agent_stop.ensures.1 refl (λ f s. c.request_agent_stop.ensures.0 ∙ ap (λ g. order_answer g c.in-Order.agent) (seen_is s)) (λ f. order_changes c.in-Order.agent _))

pub returns-in-Enter : goal.returns-in-Enter
returns-in-Enter c = told c.args.step (action.Enter c.in-Enter.sender) _ _ _ c.in-Enter.is (took_by _ _ c.args.self.now _ _ c.let_poster_enter_queue.ensures.1 refl (λ f s. c.let_poster_enter_queue.ensures.0 ∙ ap (λ g. enter_answer g c.in-Enter.sender) (seen_is s)) (λ f. enter_changes c.in-Enter.sender _))

pub returns-in-Close : goal.returns-in-Close
returns-in-Close c = told c.args.step (action.Close c.in-Close.end) _ _ _ c.in-Close.is (took_by _ _ c.args.self.now _ _ c.close.ensures.1 refl (λ f s. c.close.ensures.0 ∙ ap (λ g. close_answer g c.in-Close.end) (seen_is s)) (λ f. close_changes c.in-Close.end _))

pub returns-in-Hand : goal.returns-in-Hand
returns-in-Hand c = told c.args.step (action.Hand c.in-Hand.end c.in-Hand.agent) _ _ _ c.in-Hand.is (took_by _ _ c.args.self.now _ _ c.hand_over_queue.ensures.1 refl (λ f s. c.hand_over_queue.ensures.0 ∙ ap (λ g. hand_answer g c.in-Hand.end c.in-Hand.agent) (seen_is s)) (λ f. hand_changes c.in-Hand.end c.in-Hand.agent _))

pub returns-in-Adopt : goal.returns-in-Adopt
returns-in-Adopt c = told_or c.args.step (action.Adopt c.in-Adopt.end c.in-Adopt.agent) _ _ _ c.in-Adopt.is refl c.adopt.ensures (same_content _ _) (λ o p. took_by _ _ c.args.self.now _ _ p.1 refl (λ f s. p.0 ∙ ap (λ g. adopt_answer g c.in-Adopt.end c.in-Adopt.agent c.args.step.memory_refused) (seen_is s)) (λ f. adopt_changes c.in-Adopt.end c.in-Adopt.agent _))

pub returns-in-Push : goal.returns-in-Push
returns-in-Push c = told_or c.args.step (action.Push c.in-Push.sender c.in-Push.ports c.in-Push.body) _ _ _ c.in-Push.is refl c.check_and_push_message.ensures (same_content _ _) (λ o p. took_by _ _ c.args.self.now _ _ p.1 refl (λ f s. p.0 ∙ push_fits c.in-Push.sender c.in-Push.ports c.in-Push.body _ s) (λ f. push_changes c.in-Push.sender c.in-Push.ports c.in-Push.body _))

pub returns-in-Notice : goal.returns-in-Notice
returns-in-Notice c = told_or c.args.step (action.Notice c.in-Notice.sender) _ _ _ c.in-Notice.is refl c.put_notice.ensures (same_content _ _) (λ o p. took_by _ _ c.args.self.now _ _ p.1 refl (λ f s. p.0 ∙ notice_fits c.in-Notice.sender _ s) (λ f. notice_changes c.in-Notice.sender _))

pub returns-in-Sweep : goal.returns-in-Sweep
returns-in-Sweep c = told_or c.args.step (action.Sweep c.in-Sweep.end) _ _ _ c.in-Sweep.is refl c.sweep_closed_end.ensures (same_content _ _) (λ o p. took_by _ _ c.args.self.now _ _ p.1 refl (λ f s. subst (FitsSweep f c.in-Sweep.end) (sym p.0) (sweep_fits f c.in-Sweep.end _ s.shows.sound (s.shows.end c.in-Sweep.end.0))) (λ f s. sweep_changes c.in-Sweep.end _ s p.0))

pub returns-in-See : goal.returns-in-See
returns-in-See c = told_or c.args.step (action.See c.in-See.agent) _ _ _ c.in-See.is refl c.stop_agent_if_requested.ensures (same_content _ _) (λ o p. took_by _ _ c.args.self.now _ _ p.1 refl (λ f s. p.0 ∙ see_fits c.in-See.agent s) (λ f. see_changes c.in-See.agent _))

pub returns-in-Take : goal.returns-in-Take
returns-in-Take c = told c.args.step (action.Take c.in-Take.end) _ _ _ c.in-Take.is (took_by _ _ c.args.self.now _ _ c.take.ensures.1 refl (λ f s. take_fits c.in-Take.end _ s c.take.ensures.0) (λ f s. take_changes c.in-Take.end _ s c.take.ensures.0))
