use Rattle.std.proofs.Common.{refl, sym}
use Rattle.std.proofs.lemmas.List.Elements.{All-get_or}
use Rattle.hub_trace.specs.Views.{IsOwn}
use Rattle.hub_trace.proofs.Closing.{passed_closing, passed_on, told_closing, told_got}
use Rattle.hub_trace.proofs.received.arrivals_among_happenings.Goals as goal
use Rattle.hub_trace.proofs.received.arrivals_among_happenings.Goals.{in-None, in-Some+in_ok-push-in-Some}

pub loop-happening-preserved : goal.loop-happening-preserved
loop-happening-preserved c =
    let xs = c.args.happenings.now in
    let i = c.loop-happening.happening-index in
    let h = c.happening-item.result in
    let lt = c.loop-happening-test.true in
    let is = c.happening-item.is in
    let was = c.loop-happening.invariant in
    elim c.match-happening.branch [
      | in-None w ↦ rw (w.closed-is, w.arrivals-is) (record {
        passed = passed_closing xs i h lt is c.requires.order;
        told = λ end. told_closing xs i h _ _ end lt is c.requires.order was.passed w.in-None.is (was.told end);
      })
      | in-Some+in_ok-push-in-Some w ↦ rw (w.closed-is, w.arrivals-is, w.in_ok-push-in-Some.ensures.items) (record {
        passed = passed_on xs i _ was.passed;
        told = λ end. told_got xs i h _ _ _ w.in-Some.delivery end lt is w.in-Some.is refl refl w.eq-late.ensures (rw (sym is) at (All-get_or IsOwn xs i h lt c.requires.own)) (was.told end);
      })
    ]
