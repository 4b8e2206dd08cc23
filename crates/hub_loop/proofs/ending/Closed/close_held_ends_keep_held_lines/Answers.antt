use Rattle.std.proofs.Common.{arith}
use Rattle.std.specs.Vec.Iter.{into_iter_items, into_iter_len}
use Rattle.hub_loop.specs.Ending.{grave_ends}
use Rattle.hub_loop.proofs.Endings.{ends-more, next-left, told-more}
use Rattle.hub_loop.proofs.ending.Closed.close_held_ends_keep_held_lines.Goals as goal

pub loop-opened-preserved : goal.loop-opened-preserved
loop-opened-preserved g c =
    let kept = c.loop-opened.invariant in
    let done = c.loop-opened.yielded in
    let opened = c.in-Some.opened in
    let old = c.args.self.now in
    let now = c.loop-opened.self in
    let new = c.close_held_end_or_keep_held_line.new.self in
    let step = c.in-Some.ensures.steps.1 in
    record {
      left = next-left c.args.all.items done (into_iter_items c.loop-opened.opened-iterator) (into_iter_items c.next.new.self) opened kept.left c.in-Some.ensures.steps.0;
      room = c.close_held_end_or_keep_held_line.ensures.room (into_iter_len c.next.new.self) (omega (arith, step), omega (arith, step), omega (arith, step));
      graves = ends-more done opened (grave_ends old.graves.items) (grave_ends now.graves.items) (grave_ends new.graves.items) kept.graves c.close_held_end_or_keep_held_line.ensures.graves;
      told = told-more done opened old.noticed.items now.noticed.items new.noticed.items kept.told c.close_held_end_or_keep_held_line.ensures.told;
    }
