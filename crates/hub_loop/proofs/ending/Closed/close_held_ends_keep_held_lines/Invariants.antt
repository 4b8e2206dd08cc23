use Rattle.std.proofs.Common.{◌≡◌, ◌++◌}
use Rattle.std.specs.Vec.Iter.{into_iter_items, into_iter_len}
use Rattle.hub_loop.specs.Closing.{HasRoom}
use Rattle.hub_loop.specs.Ending.{grave_ends, open_ends}
use Rattle.hub_loop.specs.Noticing.{ports_in, NoticesMore}
use Rattle.hub_loop.proofs.ending.Closed.close_held_ends_keep_held_lines.Given as goal

abbrev pub invariant-loop-opened : goal.invariant-loop-opened
invariant-loop-opened g l = record {
  left : l.fn.all.items ≡ l.yielded ++ into_iter_items l.opened-iterator;
  room : HasRoom l.self (into_iter_len l.opened-iterator);
  graves : grave_ends l.self.graves.items ≡ grave_ends l.fn.self.graves.items ++ open_ends l.yielded;
  told : NoticesMore (ports_in l.yielded) l.fn.self.noticed.items l.self.noticed.items;
}
