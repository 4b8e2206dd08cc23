use Rattle.std.proofs.Common.{arith, vec_len, vec_capacity, ap, sym, append-nil, Some, None, ◌∙◌}
use Rattle.hub_ports.specs.Seats.{ends_of}
use Rattle.hub_ports.proofs.Arrivals.{none_arrived, next_arrived}
use Rattle.hub_ports.proofs.Splits.{next-found, next-missing}
use Rattle.hub_ports.proofs.arriving.take_ports_from_flight.Goals as goal
use Rattle.hub_ports.proofs.arriving.take_ports_from_flight.Goals.{in-Some, in-None}

pub loop-number-init : goal.loop-number-init
loop-number-init g c = record {
  split = (ap ends_of c.in_ok-found.ensures.items, c.in_ok-missing.ensures.items);
  arrived = none_arrived _ _ _ c.in_ok-found.ensures.items c.in_ok-missing.ensures.items;
  count = omega (arith, c.in_ok-found.ensures.len, c.in_ok-missing.ensures.len);
  found_room = omega (arith, c.in_ok-found.ensures.capacity);
  missing_room = omega (arith, c.in_ok-missing.ensures.capacity);
}

pub loop-number-preserved : goal.loop-number-preserved
loop-number-preserved g c =
    let kept = c.loop-number.invariant in
    elim c.match-take_from_lent_map.branch [
      | in-Some w ↦ record {
        split = next-found c.args.numbers.now c.loop-number.number-index _ c.loop-number.found.items _ c.loop-number.missing.items _ w.in-Some.port c.loop-number-test.true
            (w.in-Some.ensures.named ∙ c.flight_key.ensures) (ap (λ v. v.items) w.found-is ∙ w.push_reserved.ensures.items) (ap (λ v. v.items) w.missing-is) kept.split;
        arrived = next_arrived (g.L.Lends.shown c.args.flight.now) (g.L.Lends.shown c.loop-number.flight) (g.L.Lends.shown c.take_from_lent_map.new.lender) c.args.numbers.now c.loop-number.number-index _ c.flight_key.result (Some w.in-Some.port) c.loop-number.found.items c.match-take_from_lent_map.found.items c.loop-number.missing.items c.match-take_from_lent_map.missing.items c.loop-number-test.true kept.arrived c.flight_key.ensures w.in-Some.ensures.value w.in-Some.ensures.rest
            (ap (λ v. v.items) w.found-is ∙ w.push_reserved.ensures.items) (ap (λ v. v.items) w.missing-is ∙ sym (append-nil _));
        count = omega (arith, ap vec_len w.found-is, ap vec_len w.missing-is, w.push_reserved.ensures.len, kept.count);
        found_room = omega (arith, ap vec_capacity w.found-is, w.push_reserved.ensures.capacity, kept.found_room);
        missing_room = omega (arith, ap vec_capacity w.missing-is, kept.missing_room);
      }
      | in-None w ↦ record {
        split = next-missing c.args.numbers.now c.loop-number.number-index _ c.loop-number.found.items _ c.loop-number.missing.items _ c.loop-number-test.true
            (ap (λ v. v.items) w.found-is) (ap (λ v. v.items) w.missing-is ∙ w.push_reserved-in-None.ensures.items) kept.split;
        arrived = next_arrived (g.L.Lends.shown c.args.flight.now) (g.L.Lends.shown c.loop-number.flight) (g.L.Lends.shown c.take_from_lent_map.new.lender) c.args.numbers.now c.loop-number.number-index _ c.flight_key.result None c.loop-number.found.items c.match-take_from_lent_map.found.items c.loop-number.missing.items c.match-take_from_lent_map.missing.items c.loop-number-test.true kept.arrived c.flight_key.ensures w.in-None.ensures.value w.in-None.ensures.rest
            (ap (λ v. v.items) w.found-is ∙ sym (append-nil _)) (ap (λ v. v.items) w.missing-is ∙ w.push_reserved-in-None.ensures.items);
        count = omega (arith, ap vec_len w.found-is, ap vec_len w.missing-is, w.push_reserved-in-None.ensures.len, kept.count);
        found_room = omega (arith, ap vec_capacity w.found-is, kept.found_room);
        missing_room = omega (arith, ap vec_capacity w.missing-is, w.push_reserved-in-None.ensures.capacity, kept.missing_room);
      }
    ]
