use Rattle.std.proofs.Common.{◌≡◌, ◌+◌, List, ◌++◌, map, length}
use Rattle.crossbeam_queue.specs.SegTies.{IsSegPassOf}
use Rattle.hub_queue.specs.declared.store.PassView.TheVariants.{Takes}
use Rattle.hub_queue.specs.TakerQueues.{tags_of}
use Rattle.hub_queue.specs.Seats.{LineSeat, known_by, tag_of, take_in}
use Rattle.hub_queue.specs.Settling.{knowing}
use Rattle.hub_queue.proofs.settling.absorb_passes_of_lines.Given as goal

abbrev pub invariant-loop : goal.invariant-loop
invariant-loop l = record {
  queue : IsSegPassOf l.store.queue l.pass;
  count : length l.rights.items + l.counter ≡ length l.fn.rights.items;
  tags : map tag_of l.rights.items ≡ tags_of l.store.queue.web (length l.rights.items);
  known : (done : List LineSeat) × (l.fn.rights.items ≡ l.rights.items ++ done) × (known_by l.pass ≡ Takes (knowing (take_in (known_by l.fn.pass)) done));
}
