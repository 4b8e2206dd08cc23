use Rattle.std.proofs.Common.{◌≡◌, ◌∙◌, ◌<◌, ◌+◌, ℕ, Option, None, Some, sym, subst, length, slice_get, slice_set, IfSome, arith}
use Rattle.hub_fan.specs.Places.{Keeps, StaysEnded, StillWaits}
use Rattle.hub_fan.specs.Fans.{AtOne}
use Rattle.hub_fan.proofs.Below.{done_more, done_one, ended_keeps, some_none, waits_keeps, waits_more}
use Rattle.hub_fan.proofs.closing.take_next_leftover.Goals as goal
use Rattle.hub_fan.proofs.closing.take_next_leftover.Goals.{in-Empty, in-Ended}

pub loop-line-preserved : goal.loop-line-preserved
loop-line-preserved g c =
    let line = c.loop-line.line in
    let old = c.args.lines.now in
    let now = c.loop-line.lines in
    let x = c.index-lines-line.result in
    let y = c.take_from_closed_place.new.place in
    let inv = c.loop-line.invariant in
    let low : line < length c.loop-line.lines = omega (arith, c.loop-line-test.true, c.loop-line.auto.lines) in
    elim c.match-take_from_closed_place.branch [
      | in-Empty w ↦ record {
        kept = done_more Keeps line old now x y low (waits_keeps _ _ w.in-Empty.ensures) inv.kept;
        ended = λ e. absurd (some_none line (sym w.waiting-is ∙ e));
        waits = subst (λ (o : Option ℕ). IfSome o (λ i. (i < line + 1) × AtOne StillWaits (slice_get old i) (slice_get (slice_set now line y) i))) (sym w.waiting-is)
            (omega arith, (done_one StillWaits line old now x y low w.in-Empty.ensures inv.kept).1);
      }
      | in-Ended w ↦ record {
        kept = done_more Keeps line old now x y low (ended_keeps _ _ w.in-Ended.ensures) inv.kept;
        ended = λ e. done_more StaysEnded line old now x y low w.in-Ended.ensures (inv.ended (sym w.waiting-is ∙ e));
        waits = subst (λ (o : Option ℕ). IfSome o (λ i. (i < line + 1) × AtOne StillWaits (slice_get old i) (slice_get (slice_set now line y) i))) (sym w.waiting-is)
            (waits_more line old now y c.loop-line.waiting inv.waits);
      }
    ]
