use Rattle.std.proofs.Common.{subst}
use Rattle.hub_loop.specs.declared.handler.Turn.{Turn}
use Rattle.hub_agent.specs.Entries.{TurnLeaves}
use Rattle.hub_agent.specs.Owning.{TurnBrings}
use Rattle.hub_agent.proofs.Actions.{delivered_accounts, other_accounts}
use Rattle.hub_agent.proofs.Waiting.{other_turn, turn_told}
use Rattle.hub_agent.proofs.agent.Agent.turn.Goals as goal

pub returns-in_ok-log_newly_adopted-in-Delivered-clause-written : goal.returns-in_ok-log_newly_adopted-in-Delivered-clause-written
returns-in_ok-log_newly_adopted-in-Delivered-clause-written g c =
    let now = c.args.self.now.notes in
    let told = c.turn_counting_pops.new.self.notes in
    turn_told now told c.log_newly_adopted.new.self.notes (subst (λ (t : Turn). TurnLeaves t now told) c.in-Delivered.is c.in-Ok.ensures.left) c.in_ok-log_newly_adopted-in-Delivered.ensures.written

pub returns-in_ok-log_newly_adopted-in-Delivered-clause-own : goal.returns-in_ok-log_newly_adopted-in-Delivered-clause-own
returns-in_ok-log_newly_adopted-in-Delivered-clause-own g c =
    let now = c.args.self.now in
    let told = c.turn_counting_pops.new.self in
    delivered_accounts now told c.log_newly_adopted.new.self (subst (λ (t : Turn). TurnLeaves t now.notes told.notes) c.in-Delivered.is c.in-Ok.ensures.left)
    (subst (λ (t : Turn). TurnBrings t now told) c.in-Delivered.is c.in-Ok.ensures.brings) c.in_ok-log_newly_adopted-in-Delivered.ensures.written c.in_ok-log_newly_adopted-in-Delivered.ensures.rest

pub returns-in_default : goal.returns-in_default
returns-in_default g c =
    let now = c.args.self.now in
    let left = c.turn_counting_pops.new.self in
    record {
      written = other_turn c.in-Ok.turn now.notes left.notes c.in-Ok.ensures.left c.in_default.not-Delivered;
      own = other_accounts c.in-Ok.turn now left c.in-Ok.ensures.left c.in-Ok.ensures.brings c.in_default.not-Delivered;
      rest = c.turn_counting_pops.ensures.rest;
    }
