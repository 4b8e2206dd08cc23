use Rattle.std.proofs.Common.{◌≡◌, ◌∙◌, ◌≤◌, ap, length, subst, refl, None, Some, Ok, Err}
use Rattle.hub_loop.specs.Delivering.{IsDelivered}
use Rattle.hub_loop.specs.Looping.{turn_state}
use Rattle.hub_loop.specs.Marking.{AreNewMarked, MarksKept}
use Rattle.hub_loop.specs.States.{holding_of}
use Rattle.hub_loop.specs.Turning.{IsDue}
use Rattle.hub_loop.specs.declared.error.LoopError.{LoopError}
use Rattle.hub_loop.specs.declared.error.LoopError.TheVariants.{OutOfMemory}
use Rattle.hub_loop.specs.declared.handler.Turn.TheVariants.{Delivered}
use Rattle.hub_loop.proofs.Delivers.{taken-up}
use Rattle.hub_loop.proofs.Marks.{marked-due, marked-none}
use Rattle.hub_loop.proofs.Pops.{pops-due}
use Rattle.hub_loop.proofs.TakesNothing.{all-due, others-turn}
use Rattle.hub_loop.proofs.event_loop.EventLoop.turn.Goals as goal

pub returns-in-Err-clause-others : goal.returns-in-Err-clause-others
returns-in-Err-clause-others g c key gave =
    let old = c.args.self.now in
    let inside = c.self.inside in
    let looks = c.take_next_delivery.ensures.due.0 in
    let due = subst (IsDue inside.kept (holding_of inside.holding) c.take_next_delivery.new.self.holding looks c.args.steps.now c.take_next_delivery.new.steps) c.in-Err.is c.take_next_delivery.ensures.due.2 in
    all-due old.kept old.holding c.take_next_delivery.new.self.holding looks c.args.steps.now c.take_next_delivery.new.steps c.in-Err.busy key
    (subst (λ l. IsDue l.kept l.holding c.take_next_delivery.new.self.holding looks c.args.steps.now c.take_next_delivery.new.steps (Err c.in-Err.busy)) c.self.view_is due)

pub returns-in-Err-clause-marked : goal.returns-in-Err-clause-marked
returns-in-Err-clause-marked g c =
    let old = c.args.self.now in
    let inside = c.self.inside in
    let new = c.take_next_delivery.new.self.holding in
    subst (λ l. AreNewMarked l.holding.ends new.ends) c.self.view_is
    (marked-none inside.kept (holding_of inside.holding) new c.take_next_delivery.ensures.due.0 c.args.steps.now c.take_next_delivery.new.steps c.take_next_delivery.result c.take_next_delivery.ensures.due.2)

pub returns-in-Err-clause-pops : goal.returns-in-Err-clause-pops
returns-in-Err-clause-pops g c =
    let old = c.args.self.now in
    let inside = c.self.inside in
    let looks = c.take_next_delivery.ensures.due.0 in
    let due = subst (IsDue inside.kept (holding_of inside.holding) c.take_next_delivery.new.self.holding looks c.args.steps.now c.take_next_delivery.new.steps) c.in-Err.is c.take_next_delivery.ensures.due.2 in
    pops-due old.kept c.in-Err.busy old.holding c.take_next_delivery.new.self.holding looks c.args.steps.now c.take_next_delivery.new.steps
    (subst (λ l. l.kept ≡ None → length l.holding.ends.held.slots ≤ l.holding.ends.held.capacity) c.self.view_is c.take_next_delivery.ensures.keys)
    (subst (λ l. IsDue l.kept l.holding c.take_next_delivery.new.self.holding looks c.args.steps.now c.take_next_delivery.new.steps (Err c.in-Err.busy)) c.self.view_is due)

pub returns-in-Ok-deliver-clause-turn : goal.returns-in-Ok-deliver-clause-turn
returns-in-Ok-deliver-clause-turn g c =
    let old = c.args.self.now in
    let after = c.self-2.inside in
    let looks = c.take_next_delivery.ensures.due.0 in
    let (stepped, due) = taken-up _ old _ c.take_next_delivery.new.self looks c.args.steps.now c.take_next_delivery.new.steps c.take_next_delivery.result (Ok c.in-Ok.delivery) c.self.view_is c.self-2.view_is c.take_next_delivery.ensures.due.1 c.in-Ok.is c.take_next_delivery.ensures.due.2 in
    let handler : after.handler ≡ old.handler = ap (λ l. l.handler) c.self-2.view_is ∙ ap (λ l. l.handler) c.take_next_delivery.ensures.rest ∙ ap (λ l. l.handler) c.self.view_is in
    let did = c.in-Ok-deliver.ensures.delivered in
    let told = subst (λ h. g.H.Handler.leaves h c.in-Ok.delivery.envelope did.1 c.deliver.new.handler) handler did.4 in
    let none : after.kept ≡ None = ap (λ l. l.kept) c.self-2.view_is ∙ c.take_next_delivery.ensures.kept in
    (looks, stepped, (c.in-Ok.delivery, c.deliver.new.self, holding_of after.holding, due, (did.0, did.1, did.2, did.3, told), none, c.deliver.ensures.marks.next))

pub returns-in-Ok-deliver-clause-marked : goal.returns-in-Ok-deliver-clause-marked
returns-in-Ok-deliver-clause-marked g c =
    let inside = c.self.inside in
    let new = c.deliver.new.holding.ends in
    subst (λ l. AreNewMarked l.holding.ends new) c.self.view_is
    (marked-due inside.kept (holding_of inside.holding) c.take_next_delivery.new.self.holding new c.take_next_delivery.ensures.due.0 c.args.steps.now c.take_next_delivery.new.steps c.take_next_delivery.result c.take_next_delivery.ensures.due.2
    (subst (λ l. MarksKept l.holding.ends new) c.self-2.view_is c.deliver.ensures.marks))

pub returns-in-Ok-deliver-clause-others : goal.returns-in-Ok-deliver-clause-others
returns-in-Ok-deliver-clause-others g c =
    let old = c.args.self.now in
    let turn = returns-in-Ok-deliver-clause-turn g c in
    others-turn {E = LoopError} g.H.Handler.leaves g.H.Handler.refuses (turn_state old c.args.steps.now)
    (record { holding = holding_of c.deliver.new.holding; kept = c.self-2.inside.kept; handler = c.deliver.new.handler; pops = c.take_next_delivery.new.steps }) turn.0 (Ok Delivered) turn.2

pub returns-in-Err-deliver-clause-turn : goal.returns-in-Err-deliver-clause-turn
returns-in-Err-deliver-clause-turn g c =
    let old = c.args.self.now in
    let after = c.self-2.inside in
    let looks = c.take_next_delivery.ensures.due.0 in
    let (stepped, due) = taken-up _ old _ c.take_next_delivery.new.self looks c.args.steps.now c.take_next_delivery.new.steps c.take_next_delivery.result (Ok c.in-Ok.delivery) c.self.view_is c.self-2.view_is c.take_next_delivery.ensures.due.1 c.in-Ok.is c.take_next_delivery.ensures.due.2 in
    let handler : after.handler ≡ old.handler = ap (λ l. l.handler) c.self-2.view_is ∙ ap (λ l. l.handler) c.take_next_delivery.ensures.rest ∙ ap (λ l. l.handler) c.self.view_is in
    let did = subst (λ h. IsDelivered {E = LoopError} g.H.Handler.leaves g.H.Handler.refuses c.in-Ok.delivery c.deliver.new.self (holding_of after.holding) (holding_of c.deliver.new.holding) h c.deliver.new.handler (Err OutOfMemory)) handler c.in-Err-deliver.ensures.delivered in
    (looks, stepped, (c.in-Ok.delivery, c.deliver.new.self, holding_of after.holding, due, did, refl, c.deliver.ensures.marks.next))

pub returns-in-Err-deliver-clause-marked : goal.returns-in-Err-deliver-clause-marked
returns-in-Err-deliver-clause-marked g c =
    let inside = c.self.inside in
    let new = c.deliver.new.holding.ends in
    subst (λ l. AreNewMarked l.holding.ends new) c.self.view_is
    (marked-due inside.kept (holding_of inside.holding) c.take_next_delivery.new.self.holding new c.take_next_delivery.ensures.due.0 c.args.steps.now c.take_next_delivery.new.steps c.take_next_delivery.result c.take_next_delivery.ensures.due.2
    (subst (λ l. MarksKept l.holding.ends new) c.self-2.view_is c.deliver.ensures.marks))

pub returns-in-Err-deliver-clause-others : goal.returns-in-Err-deliver-clause-others
returns-in-Err-deliver-clause-others g c =
    let old = c.args.self.now in
    let turn = returns-in-Err-deliver-clause-turn g c in
    others-turn {E = LoopError} g.H.Handler.leaves g.H.Handler.refuses (turn_state old c.args.steps.now)
    (record { holding = holding_of c.deliver.new.holding; kept = Some c.deliver.new.self; handler = c.deliver.new.handler; pops = c.take_next_delivery.new.steps }) turn.0 (Err OutOfMemory) turn.2

pub returns-in-Ok-deliver-clause-pops : goal.returns-in-Ok-deliver-clause-pops
returns-in-Ok-deliver-clause-pops g c = tt

pub returns-in-Err-deliver-clause-pops : goal.returns-in-Err-deliver-clause-pops
returns-in-Err-deliver-clause-pops g c = tt
