use Rattle.std.proofs.Common.{◌≡◌, ◌≤◌, List, [], None, Some, length, refl, rules, subst}
use Rattle.std.specs.Prelude.{Ok}
use Rattle.hub_bell.specs.declared.board.BoardStep.{BoardStep}
use Rattle.hub_ready.specs.Finding.{HasStepped}
use Rattle.hub_loop.specs.States.{holding_of}
use Rattle.hub_loop.specs.Turning.{IsDue}
use Rattle.hub_loop.proofs.Delivers.{due-given, due-kept, due-nothing}
use Rattle.hub_loop.proofs.Serves.{no-steps}
use Rattle.hub_loop.proofs.event_loop.EventLoop.take_next_delivery.Goals as goal
use Rattle.hub_loop.proofs.event_loop.EventLoop.take_next_delivery.Goals.{in-Nothing, in-Given}

pub returns-in-Some-clause-due : goal.returns-in-Some-clause-due
returns-in-Some-clause-due g c =
    let inside = c.self.inside in
    let holding = holding_of inside.holding in
    let some : inside.kept ≡ Some c.in-Some.delivery = search rules in
    subst (λ l. (looks : List BoardStep) × HasStepped l.listener inside.listener looks × IsDue l.kept l.holding holding looks c.args.steps.now c.args.steps.now (Ok c.in-Some.delivery)) c.self.view_is
    ([], no-steps inside.listener, due-kept inside.kept holding c.args.steps.now c.in-Some.delivery some)

pub returns-clause-keys : goal.returns-clause-keys
returns-clause-keys g c =
    subst (λ l. l.kept ≡ None → length l.holding.ends.held.slots ≤ l.holding.ends.held.capacity) c.self.view_is (λ none. c.take_next.ensures.keys)

pub returns-clause-due : goal.returns-clause-due
returns-clause-due g c =
    let inside = c.self.inside in
    let old = holding_of inside.holding in
    let new = holding_of (record inside.holding { ends = c.take_next.new.self }) in
    let none : inside.kept ≡ None = search rules in
    let served = c.take_next.ensures.served in
    subst (λ l. (looks : List BoardStep) × HasStepped l.listener c.take_next.new.listener looks × IsDue l.kept l.holding new looks c.args.steps.now c.take_next.new.steps c.match-take_next.result) c.self.view_is (
      served.0,
      served.1,
      elim c.match-take_next.branch [
        | in-Nothing w ↦ due-nothing inside.kept old new served.0 c.args.steps.now c.take_next.new.steps c.take_next.result w.in-Nothing.busy c.match-take_next.result none w.in-Nothing.is w.result-is served.2 c.take_next.ensures.next refl
        | in-Given w ↦ due-given inside.kept old new served.0 c.args.steps.now c.take_next.new.steps c.take_next.result w.in-Given.field-0 w.in-Given.envelope (record { envelope = w.in-Given.envelope; arrival = None }) c.match-take_next.result none w.in-Given.is w.result-is refl served.2 c.take_next.ensures.given c.take_next.ensures.next refl
      ],
    )
