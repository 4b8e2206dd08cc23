use Rattle.std.proofs.Common.{arith, ◌≤◌, length, vec_len, vec_capacity, ap, ◌∙◌}
use Rattle.hub_ports.proofs.Flights.{none_back, one_back, none_missing, all_back}
use Rattle.hub_ports.proofs.Splits.{split-begun, next-found, next-missing}
use Rattle.hub_ports.proofs.flight.take_ports_back_from_flight.Goals as goal
use Rattle.hub_ports.proofs.flight.take_ports_back_from_flight.Goals.{in-Some, in-None}

pub loop-index-init : goal.loop-index-init
loop-index-init g c = record {
  split = split-begun c.args.numbers.now _ _ c.len-index.result _ c.len-index.ensures c.requires.begun c.requires.none;
  back = λ kept sent now free named. none_back kept sent c.args.ports.now.items c.args.numbers.now c.len-index.result _ c.args.missing.now.items (c.len-index.ensures ∙ c.args.ports.now.ok.0) c.requires.none now free named;
  count = omega (arith, ap length c.requires.none, c.args.missing.now.ok.0, c.len-index.ensures);
  ports_room = c.requires.ports;
  missing_room = c.requires.missing;
}

pub loop-index-preserved : goal.loop-index-preserved
loop-index-preserved g c =
    let kept = c.loop-index.invariant in
    elim c.match-take_from_lent_map.branch [
      | in-Some w ↦ record {
        split = next-found c.args.numbers.now c.loop-index.index _ c.loop-index.ports.items _ c.loop-index.missing.items _ w.in-Some.port c.loop-index-test.true
            (w.in-Some.ensures.named ∙ c.flight_key.ensures) (ap (λ v. v.items) w.ports-is ∙ w.push_reserved.ensures.items) (ap (λ v. v.items) w.missing-is) kept.split;
        back = λ k sent now free named. one_back k sent c.args.ports.now.items c.args.numbers.now c.loop-index.index _ (g.L.Lends.shown c.loop-index.flight) (g.L.Lends.shown c.take_from_lent_map.new.lender) c.loop-index.ports.items c.match-take_from_lent_map.ports.items c.loop-index.missing.items c.match-take_from_lent_map.missing.items w.in-Some.port c.flight_key.result c.loop-index-test.true
            (kept.back k sent now free named) c.flight_key.ensures w.in-Some.ensures.value w.in-Some.ensures.rest (ap (λ v. v.items) w.ports-is ∙ w.push_reserved.ensures.items) (ap (λ v. v.items) w.missing-is);
        count = omega (arith, ap vec_len w.ports-is, ap vec_len w.missing-is, w.push_reserved.ensures.len, kept.count);
        ports_room = omega (arith, ap vec_capacity w.ports-is, w.push_reserved.ensures.capacity, kept.ports_room);
        missing_room = omega (arith, ap vec_capacity w.missing-is, kept.missing_room);
      }
      | in-None w ↦ record {
        split = next-missing c.args.numbers.now c.loop-index.index _ c.loop-index.ports.items _ c.loop-index.missing.items _ c.loop-index-test.true
            (ap (λ v. v.items) w.ports-is) (ap (λ v. v.items) w.missing-is ∙ w.push_reserved-in-None.ensures.items) kept.split;
        back = λ k sent now free named. absurd (none_missing k sent c.args.ports.now.items c.args.numbers.now c.loop-index.index _ (g.L.Lends.shown c.loop-index.flight) (g.L.Lends.shown c.take_from_lent_map.new.lender) c.loop-index.ports.items c.loop-index.missing.items c.flight_key.result c.loop-index-test.true
            (kept.back k sent now free named) c.flight_key.ensures w.in-None.ensures.value w.in-None.ensures.rest);
        count = omega (arith, ap vec_len w.ports-is, ap vec_len w.missing-is, w.push_reserved-in-None.ensures.len, kept.count);
        ports_room = omega (arith, ap vec_capacity w.ports-is, kept.ports_room);
        missing_room = omega (arith, ap vec_capacity w.missing-is, w.push_reserved-in-None.ensures.capacity, kept.missing_room);
      }
    ]

pub returns-clause-back : goal.returns-clause-back
returns-clause-back g c = λ kept sent now free named.
    let test = c.loop-index-test.false in
    let past : length c.args.numbers.now ≤ c.loop-index.index = omega arith in
    all_back kept sent c.args.ports.now.items c.args.numbers.now c.loop-index.index _ c.loop-index.ports.items c.loop-index.missing.items past (c.loop-index.invariant.back kept sent now free named)
