use Rattle.std.specs.Prelude.{option_map}
use Rattle.std.proofs.Common.{◌∙◌, OnOk, ap, subst, sym}
use Rattle.hub_life.specs.Course.{after}
use Rattle.hub_loop.specs.Starting.{StartsClient}
use Rattle.hub_agent.specs.Agents.{AgentState, peer_ordered, with_peer}
use Rattle.hub_agent.specs.Acting.{Acts}
use Rattle.hub_agent.proofs.Doing.{acts_of, acts_while, hand_acts, lived_acts, loaded_acts, ordered_acts, started_acts}
use Rattle.hub_agent.proofs.Sending.{post_acts, send_acts}
use Rattle.hub_agent.proofs.acting.AgentActor.do_action.Goals as goal

pub returns-in-Post-clause-ok : goal.returns-in-Post-clause-ok
returns-in-Post-clause-ok g c =
    subst (λ action. OnOk c.post.result (Acts action c.args.self.now c.post.new.self)) (sym c.in-Post.is) (post_acts c.post.result _ _ _ c.args.self.now c.post.new.self c.post.ensures.posted c.post.ensures.rest)

pub returns-in-Send-clause-ok : goal.returns-in-Send-clause-ok
returns-in-Send-clause-ok g c =
    subst (λ action. OnOk c.send_to_queue.result (Acts action c.args.self.now c.send_to_queue.new.self)) (sym c.in-Send.is) (send_acts c.send_to_queue.result _ _ _ c.args.self.now c.send_to_queue.new.self c.send_to_queue.ensures.sent c.send_to_queue.ensures.rest)

pub returns-in-Cast-clause-ok : goal.returns-in-Cast-clause-ok
returns-in-Cast-clause-ok g c =
    subst (λ action. OnOk c.cast.result (Acts action c.args.self.now c.cast.new.self)) (sym c.in-Cast.is) (acts_of _ _ _ _ c.cast.result c.cast.ensures.written c.cast.ensures.cast c.cast.ensures.rest c.cast.ensures.own)

pub returns-in-Start-clause-ok : goal.returns-in-Start-clause-ok
returns-in-Start-clause-ok g c =
    subst (λ action. Acts action c.args.self.now c.start_port_or_queue.new.self) (sym c.in-Start.is) (started_acts c.in-Start.end c.args.self.now c.start_port_or_queue.new.self c.start_port_or_queue.ensures)

pub returns-in-Loaded-clause-ok : goal.returns-in-Loaded-clause-ok
returns-in-Loaded-clause-ok g c =
    let loop = c.start_client_queue.new.self in
    let now : AgentState = record { notes = c.self.inside.scribe; ends = loop.holding.ends.held; kept = loop.kept; order = c.self.inside.order; peers = c.self.inside.peers.items; life = c.self.inside.life; roster = _ } in
    subst (λ action. Acts action c.args.self.now now) (sym c.in-Loaded.is)
    (loaded_acts c.in-Loaded.queue c.args.self.now now (
      λ i. record { notes = (c.self.view_is i).notes; ends = loop.holding.ends.held; kept = (ap (λ l. l.kept) c.start_client_queue.ensures.rest ∙ ap (λ (a : AgentState). a.kept) c.self.view_is) i; order = (c.self.view_is i).order; peers = (c.self.view_is i).peers; life = (c.self.view_is i).life; roster = (c.self.view_is i).roster },
      (c.start_client_queue.result, subst (λ (a : AgentState). StartsClient a.ends loop.holding.ends.held c.in-Loaded.queue c.start_client_queue.result) c.self.view_is c.start_client_queue.ensures.started),
    ))

pub returns-in-Close-clause-ok : goal.returns-in-Close-clause-ok
returns-in-Close-clause-ok g c =
    subst (λ action. OnOk c.close_port_or_member.result (Acts action c.args.self.now c.close_port_or_member.new.self)) (sym c.in-Close.is) (acts_of _ _ _ _ c.close_port_or_member.result c.close_port_or_member.ensures.written c.close_port_or_member.ensures.held c.close_port_or_member.ensures.rest c.close_port_or_member.ensures.own)

pub returns-in-Wait-clause-ok : goal.returns-in-Wait-clause-ok
returns-in-Wait-clause-ok g c =
    subst (λ action. OnOk c.turn_until_awaited.result (Acts action c.args.self.now c.turn_until_awaited.new.self)) (sym c.in-Wait.is) (acts_while _ _ _ c.turn_until_awaited.result c.turn_until_awaited.ensures.written c.turn_until_awaited.ensures.rest c.turn_until_awaited.ensures.own)

pub returns-in-Receive-clause-ok : goal.returns-in-Receive-clause-ok
returns-in-Receive-clause-ok g c =
    subst (λ action. OnOk c.turn_until_awaited-in-Receive.result (Acts action c.args.self.now c.turn_until_awaited-in-Receive.new.self)) (sym c.in-Receive.is)
    (acts_while _ _ _ c.turn_until_awaited-in-Receive.result c.turn_until_awaited-in-Receive.ensures.written c.turn_until_awaited-in-Receive.ensures.rest c.turn_until_awaited-in-Receive.ensures.own)

pub returns-in-Fetch-clause-ok : goal.returns-in-Fetch-clause-ok
returns-in-Fetch-clause-ok g c =
    subst (λ action. OnOk c.turn_until_awaited-in-Fetch.result (Acts action c.args.self.now c.turn_until_awaited-in-Fetch.new.self)) (sym c.in-Fetch.is)
    (acts_while _ _ _ c.turn_until_awaited-in-Fetch.result c.turn_until_awaited-in-Fetch.ensures.written c.turn_until_awaited-in-Fetch.ensures.rest c.turn_until_awaited-in-Fetch.ensures.own)

pub returns-in-Order-clause-ok : goal.returns-in-Order-clause-ok
returns-in-Order-clause-ok g c =
    let self = c.self-in-Order.inside in
    let was = c.self-in-Order.view_is in
    let now : AgentState = record { notes = self.scribe; ends = self.event_loop.holding.ends.held; kept = self.event_loop.kept; order = self.order; peers = c.order_agent_to_stop.new.peers.items; life = self.life; roster = _ } in
    subst (λ action. Acts action c.args.self.now now) (sym c.in-Order.is)
    (ordered_acts c.in-Order.to c.args.self.now now (
    λ i. record { notes = (was i).notes; ends = (was i).ends; kept = (was i).kept; order = (was i).order; peers = (c.order_agent_to_stop.ensures ∙ ap (λ (a : AgentState). with_peer peer_ordered c.in-Order.to.0 a.peers) was) i; life = (was i).life; roster = (was i).roster }
    ))

pub returns-in-Event-clause-ok : goal.returns-in-Event-clause-ok
returns-in-Event-clause-ok g c =
    let self = c.self-in-Event.inside in
    let was = c.self-in-Event.view_is in
    let now : AgentState = record { notes = self.scribe; ends = self.event_loop.holding.ends.held; kept = self.event_loop.kept; order = self.order; peers = self.peers.items; life = c.apply_worker_life_event.new.life; roster = _ } in
    subst (λ action. Acts action c.args.self.now now) (sym c.in-Event.is)
    (lived_acts c.in-Event.event c.args.self.now now (
    λ i. record { notes = (was i).notes; ends = (was i).ends; kept = (was i).kept; order = (was i).order; peers = (was i).peers; life = (c.apply_worker_life_event.ensures ∙ ap (λ (a : AgentState). option_map (λ p. after p c.in-Event.event) a.life) was) i; roster = (was i).roster }
    ))

pub returns-in-Hand-clause-ok : goal.returns-in-Hand-clause-ok
returns-in-Hand-clause-ok g c =
    subst (λ action. OnOk c.hand_over_own_queue.result (Acts action c.args.self.now c.hand_over_own_queue.new.self)) (sym c.in-Hand.is) (hand_acts c.hand_over_own_queue.result c.in-Hand.to c.args.self.now c.hand_over_own_queue.new.self c.hand_over_own_queue.ensures.changes c.hand_over_own_queue.ensures.held)
