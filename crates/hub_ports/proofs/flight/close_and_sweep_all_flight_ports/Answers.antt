use Rattle.std.proofs.Common.{ap, sym, subst, refl, ◌∙◌, IfSome, Option}
use Rattle.hub_queue.specs.Graves.{GraveSeat}
use Rattle.hub_queue.specs.Sweeping.{IsSweptOut}
use Rattle.hub_ports.specs.Arriving.{Flight}
use Rattle.hub_ports.specs.Closing.{AreToldEmptied}
use Rattle.hub_ports.proofs.Tellings.{none_emptied, grave_emptied, one_emptied}
use Rattle.hub_ports.proofs.flight.close_and_sweep_all_flight_ports.Goals as goal
use Rattle.hub_ports.proofs.flight.close_and_sweep_all_flight_ports.Goals.{in-Some+in_ok-sweep_until_empty-in-Some, in-None}

pub loop-port-init : goal.loop-port-init
loop-port-init g c =
    let flight = c.args.flight.now in
    let was = g.H.Hears.told c.args.heard.now in
    let now = g.H.Hears.told c.match-grave.heard in
    let told : Option GraveSeat → Type 0 = λ o. IfSome was (λ before. AreToldEmptied o flight flight before now) in
    elim c.match-grave.branch [
      | in-Some+in_ok-sweep_until_empty-in-Some w ↦ subst told (sym w.in-Some.is) (grave_emptied was now flight w.in-Some.grave _ (ap (λ h. g.H.Hears.told h) w.heard-is ∙ w.tell_done.ensures) w.in_ok-sweep_until_empty-in-Some.ensures.ok)
      | in-None w ↦ subst told (sym w.in-None.is) (none_emptied was now flight (ap (λ h. g.H.Hears.told h) w.heard-is))
    ]

pub loop-port-preserved : goal.loop-port-preserved
loop-port-preserved g c =
    let swept = subst (λ (h : GraveSeat). IsSweptOut h c.in_ok-sweep_until_empty.field-0) c.put_notice_and_close_port-grave.ensures.grave c.in_ok-sweep_until_empty.ensures.ok in
    subst (λ (f : Flight). IfSome (g.H.Hears.told c.args.heard.now) (λ before. AreToldEmptied c.args.grave c.args.flight.now f before (g.H.Hears.told c.tell_done-in-Some-take_any.new.self))) (sym c.in-Some-take_any.ensures.rest)
    (one_emptied _ _ _ c.args.grave c.args.flight.now c.loop-port.flight c.in-Some-take_any.port _ c.loop-port.invariant c.tell_done-in-Some-take_any.ensures c.in-Some-take_any.ensures.kept (_, _, refl, c.put_notice_and_close_port-grave.ensures.notice, swept))
