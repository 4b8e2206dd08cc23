-- What a sweep that discards answers and leaves: the end has no queue, and the ports have their place.
use Rattle.std.proofs.Common.{Some, [], ap, set, subst, sym, ◌≡◌, ◌∙◌}
use Rattle.hub_core.proofs.Words.{CoreState, End, Swept, change_at, joined, moved_ends, option_map, ports_of, set_at, slice_get, slice_get-get_or, slice_get_within, unwrap_or}
use Rattle.hub_core.specs.contracts.machine.Core.{the_view}
use Rattle.hub_core.specs.declared.step.Outcome.TheVariants as outcome
use Rattle.hub_core.proofs.machine.Core.sweep_closed_end.Goals as goal

pub returns : goal.returns
returns c =
    let ends = c.self.inside.ends.items in
    let swept = c.index_mut-swept.result.now in
    let there : slice_get ends c.args.end.0 ≡ Some c.in-Some.found.now = subst (λ (s : CoreState). slice_get s.ends c.args.end.0 ≡ Some c.in-Some.found.now) (sym c.self.view_is) c.in-Some.ensures in
    let at : slice_get ends c.args.end.0 ≡ Some swept = slice_get-get_or ends c.args.end.0 swept (slice_get_within ends c.args.end.0 c.in-Some.found.now there) ∙ ap Some (sym c.index_mut-swept.ensures.value) in (
      rw (c.in-Some.ensures, c.if-not-found.false, sym c.if-has_poster_at_queue_or_later.ensures) (ap outcome.Discarded (c.in_ok-envelopes.ensures.0 ∙ ap (λ o. joined (unwrap_or o swept).queues) (sym at ∙ there))),
      subst (λ (s : CoreState). c.mark_ports_of_envelopes_swept.new.self ≡ record s { ends = moved_ends (ports_of c.in_ok-envelopes.envelopes) Swept (change_at (λ (y : End). record y { queues = [] }) c.args.end.0 s.ends) }) c.self.view_is
          (c.mark_ports_of_envelopes_swept.ensures
          ∙ (λ i. record (the_view c.self.inside) { ends = moved_ends (ports_of (c.as_slice.ensures i)) Swept (set ends c.args.end.0 (record swept { queues = c.in_ok-envelopes.ensures.1 i })) })
          ∙ (λ i. record (the_view c.self.inside) { ends = moved_ends (ports_of c.in_ok-envelopes.envelopes) Swept (set_at c.args.end.0 ends (option_map (λ (y : End). record y { queues = [] }) (sym at i))) })),
    )
